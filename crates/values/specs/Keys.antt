-- Defines the keys of a dictionary, whether they are in a vector or in a hash set.
use Rattle.std.specs.Prelude.{◌≡◌, List, ℕ, [], bytes_eq}
use Rattle.support.specs.Sets.{insert_all}
use Rattle.values.specs.declared.dictionary_keys.Kept.{Kept}
use Rattle.values.specs.declared.dictionary_keys.Kept.TheVariants.{Few, Many}

-- Returns the keys, in order of insertion.
abbrev pub keys_of : Kept → List (List ℕ)
keys_of (Few ks) = ks.items
keys_of (Many s) = s.value.keys

-- Holds if no key occurs twice: inserting the keys one after the other keeps all of them. A hash set ensures this itself.
abbrev pub AreApart : Kept → Type 0
AreApart (Few ks) = insert_all bytes_eq [] ks.items ≡ ks.items
AreApart (Many s) = Unit {0}

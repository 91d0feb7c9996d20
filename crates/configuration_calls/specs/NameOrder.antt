-- States which names configuration data has that is made of a dictionary.
use Rattle.std.specs.Prelude.{◌≡◌, ℕ, List, [], ◌∷◌, Ok}
use Rattle.std.specs.Ordering.{nat_cmp}
use Rattle.std.specs.Cmp.Lexicographic.{slice_cmp}
use Rattle.std.specs.List.{AllByRecursion}
use Rattle.std.specs.declared.cmp.Ordering.TheVariants.{Less}
use Rattle.support.specs.Among.{is_among}
use Rattle.values.specs.Data.{Entries as DictionaryEntries, keys_in}
use Rattle.template.specs.Config.{Entries, names}
use Rattle.configuration_calls.specs.Contents.{entries_in}

-- Holds if each name is less than all after it, compared byte by byte. So no name occurs twice.
abbrev pub Ascend : List (List ℕ) → Type 0
Ascend [] = Unit {0}
Ascend (t ∷ ts) = AllByRecursion (λ u. slice_cmp nat_cmp t u ≡ Less) ts × Ascend ts

-- States that the names ascend, and are the keys of the dictionary.
abbrev pub NamesAscend : Type 0
NamesAscend = (es : DictionaryEntries) (entries : Entries) → entries_in es ≡ Ok entries
    → Ascend (names entries) × ((k : List ℕ) → is_among (names entries) k ≡ is_among (keys_in es) k)

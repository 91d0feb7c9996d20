-- The entries of a map of options, as plain data.
use Rattle.std.proofs.Common.{◌≡◌, ℕ, Bool, true, false, List, [], ◌∷◌, ◌++◌, Option, Some, None, String, string_bytes, refl, ap, ◌∙◌}
use Rattle.std.proofs.Common.{is_some, cond}
use Rattle.std.specs.Prelude.{◌||◌}
use Rattle.std.specs.Option.{option_map, option_copied}
use Rattle.std.specs.declared.alloc.Global.{Global}
use Rattle.std.specs.Map.{lookup}
use Rattle.std.specs.Str.{bytes_eq}
use Rattle.std.proofs.lemmas.List.{map-append}
use Rattle.std.proofs.lemmas.Slice.Eq.{bytes_eq-Decides}
use denote.Ref.{Bor}
use Rattle.options.specs.declared.option_file.declaration.Declaration.{Declaration}
use Rattle.options.specs.option_file.Declarations as plain
use Rattle.options.specs.option_file.Lookups.{is_used, option_named}
use Rattle.options.specs.option_file.View.{option_in, entry_in, entries_in}

or_some : {X : Type 0} (b : Bool) (x : X) (o : Option X) (r : Bool) → is_some o ≡ r → is_some (cond b (Some x) o) ≡ (b || r)
or_some true x o r e = refl
or_some false x o r e = e

pub is_used_lookup : (name : List ℕ) (es : List (String Global × Declaration))
    → is_some (lookup (λ k. bytes_eq name (string_bytes k)) es) ≡ is_used name (entries_in es)
is_used_lookup name [] = refl
is_used_lookup name (e ∷ es) = or_some (bytes_eq name (string_bytes e.0)) e.1 _ _ (is_used_lookup name es)

pub none_from : {X : Type 0} (o : Option X) → is_some o ≡ false → o ≡ None
none_from None e = refl
none_from (Some x) e = absurd cc

pub entries_in-append : (es : List (String Global × Declaration)) (e : String Global × Declaration)
    → entries_in (es ++ e ∷ []) ≡ entries_in es ++ entry_in e ∷ []
entries_in-append es e = map-append entry_in es (e ∷ [])

copied : (name : List ℕ) (r : Option (Bor Declaration))
    → option_map (λ d. option_in name d.now) r ≡ option_map (option_in name) (option_copied r)
copied name None = refl
copied name (Some d) = refl

-- where the first entry has the name, it is found under its own name
found_step : (b : Bool) (name own : List ℕ) (d : Declaration) (o : Option Declaration) (r : Option plain.Declaration)
    → (b ≡ true → name ≡ own)
    → option_map (option_in name) o ≡ r → option_map (option_in name) (cond b (Some d) o) ≡ cond b (Some (option_in own d)) r
found_step true name own d o r same e = ap (λ (n : List ℕ). Some (option_in n d)) (same refl)
found_step false name own d o r same e = e

found : (name : List ℕ) (es : List (String Global × Declaration))
    → option_map (option_in name) (lookup (λ k. bytes_eq name (string_bytes k)) es) ≡ option_named (entries_in es) name
found name [] = refl
found name (e ∷ es) =
    found_step (bytes_eq name (string_bytes e.0)) name (string_bytes e.0) e.1 _ _
    (λ same. (bytes_eq-Decides name (string_bytes e.0)).0 same) (found name es)

pub option_found : (name : List ℕ) (es : List (String Global × Declaration)) (r : Option (Bor Declaration))
    → option_copied r ≡ lookup (λ k. bytes_eq name (string_bytes k)) es
    → option_map (λ d. option_in name d.now) r ≡ option_named (entries_in es) name
option_found name es r e = copied name r ∙ ap (option_map (option_in name)) e ∙ found name es

-- Warnings, one after another.
use Rattle.std.proofs.Common.{◌≡◌, ℕ, suc, ◌+◌, ◌<◌, List, ◌++◌, map, drop, length, get_or, String, Global, string_bytes, codes, ap, sym}
use Rattle.std.proofs.Common.{refl, ◌∙◌, add-one}
use Rattle.std.proofs.Math.Seq.{drop-cons}
use Rattle.world.specs.Deed.{then, say}
use Rattle.project_calls.specs.Project.{option_warnings}

-- the next one
pub warned-drop : (ns : List (String Global)) (i : ℕ) (n : String Global) → i < length ns → n ≡ get_or ns i n
    → option_warnings (map string_bytes (drop i ns)) ≡ then (say ((codes "WARNING: unknown option " ++ string_bytes n) ++ codes "\n")) (λ u. option_warnings (map string_bytes (drop (i + 1) ns)))
unfolding option_warnings
warned-drop ns i n h is =
    ap (λ us. option_warnings (map string_bytes us)) (drop-cons ns i n h)
    ∙ ap (λ x. then (say ((codes "WARNING: unknown option " ++ string_bytes x) ++ codes "\n")) (λ (u : Unit {0}). option_warnings (map string_bytes (drop (suc i) ns)))) (sym is)
    ∙ rw add-one refl

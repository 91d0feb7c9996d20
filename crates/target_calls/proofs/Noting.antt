-- Outputs that are noted, one after another.
use Rattle.std.proofs.Common.{◌≡◌, ℕ, suc, ◌+◌, ◌<◌, List, map, drop, length, get_or, String, Global, string_bytes, ap, sym, refl, ◌∙◌}
use Rattle.std.proofs.Common.{add-one}
use Rattle.std.proofs.Math.Seq.{drop-cons}
use Rattle.world.specs.Declaring.{add_install}
use Rattle.world.specs.Deed.{then}
use Rattle.target_calls.specs.CustomInstalls.{WayData, all_noted, output_install}

-- the next one
pub all_noted-drop : (w : WayData) (ns : List (String Global)) (i : ℕ) (n : String Global) → i < length ns → n ≡ get_or ns i n
    → all_noted w (map string_bytes (drop i ns)) ≡ then (add_install (output_install w (string_bytes n))) (λ u. all_noted w (map string_bytes (drop (i + 1) ns)))
unfolding all_noted
all_noted-drop w ns i n h is =
    ap (λ us. all_noted w (map string_bytes us)) (drop-cons ns i n h)
    ∙ ap (λ x. then (add_install (output_install w (string_bytes x))) (λ (u : Unit {0}). all_noted w (map string_bytes (drop (suc i) ns)))) (sym is)
    ∙ rw add-one refl

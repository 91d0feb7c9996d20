use Rattle.std.proofs.Common.{◌≡◌, ◌≤◌, ◌-◌, length, map, drop, string_bytes}
use Rattle.sources.specs.Holes.{meaning_of_name, behind_text, filled_behind}
use Rattle.sources.specs.HolesView.{place_view}
use Rattle.sources.proofs.replacement.fill_behind.Given as goal

abbrev pub invariant-loop-i : goal.invariant-loop-i
invariant-loop-i l = record {
  within : l.i ≤ length l.parts;
  filled :
      behind_text (string_bytes l.made) (filled_behind (meaning_of_name l.scope (place_view l.place)) (map (λ s. s.now) (drop l.i l.parts)))
      ≡ behind_text (string_bytes l.fn.made) (filled_behind (meaning_of_name l.scope (place_view l.place)) (map (λ s. s.now) l.parts));
}

abbrev pub decreases-loop-i : goal.decreases-loop-i
decreases-loop-i l = length l.parts - l.i

-- Defines refusals at another place than that of the call, with a detail.
use Rattle.std.specs.Prelude.{ℕ, List, [], refl}
use Rattle.support.specs.declared.faults.refusal.Refusal.{Refusal}
use Rattle.world.specs.World.{with_line, with_place}
use Rattle.world.specs.Deed.{Deed, refuse, change, ◌>>=◌}

-- Refuses a line of a file, with a detail.
unfoldable pub refuse_about : {A : Type 0} → List ℕ → ℕ → Refusal → List ℕ → Deed A
refuse_about file line refusal detail = do
  _ ← change (with_place file [] line) (λ facts. refl)
  refuse refusal detail

-- Refuses a line of the present file, with a detail.
unfoldable pub refuse_line_about : {A : Type 0} → ℕ → Refusal → List ℕ → Deed A
refuse_line_about line refusal detail = do
  _ ← change (with_line line) (λ facts. refl)
  refuse refusal detail

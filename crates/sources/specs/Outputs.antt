-- Defines the outputs of the targets so far.
use Rattle.std.specs.Prelude.{ℕ, List, Option, option_map, option_and_then, slice_get}
use Rattle.build.specs.edge.Texts.{Path}
use Rattle.build.specs.Libraries.{DeclaredTargetData}

-- Returns the outputs of the target with a number.
abbrev pub outputs_at : List DeclaredTargetData → ℕ → Option (List Path)
outputs_at earlier number = option_map (λ l. l.paths) (slice_get earlier number)

-- Returns an output of the target with a number.
abbrev pub output_at : List DeclaredTargetData → ℕ → ℕ → Option Path
output_at earlier number place = option_and_then (λ paths. slice_get paths place) (outputs_at earlier number)

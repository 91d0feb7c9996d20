-- Defines the parts in which `build.ninja` is written: the text before the edges, the edges of each target, and the text after them.
use Rattle.std.specs.Prelude.{ℕ, List, ◌++◌, codes}
use Rattle.ports.specs.Outputs.{Step, opening_steps, closing_steps, puts}
use Rattle.build.specs.project.World.{WorldData}
use Rattle.build.specs.project.Adding.{edges_at, edges_by_number}
use Rattle.ninja.specs.Defaults.{default_outputs}
use Rattle.ninja.specs.Writing.{edges_text, head_text, tail_text}

-- Returns the steps that write the edges of the target with this number. There are none if no target has it.
unfoldable pub target_steps : WorldData → ℕ → List Step
target_steps w number = puts (edges_text (edges_at w number))

-- Returns the steps that write the edges of all targets, in the order of their numbers.
unfoldable pub targets_steps : WorldData → List Step
targets_steps w = puts (edges_text (edges_by_number w))

-- Returns the steps that open `build.ninja`, write its head, the edges of each target and its tail, and close it.
abbrev pub parts_steps : WorldData → List Step
parts_steps w =
    opening_steps (codes "build.ninja") ++ (puts head_text ++ (targets_steps w ++ (puts (tail_text (default_outputs w)) ++ closing_steps)))

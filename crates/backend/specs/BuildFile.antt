-- Defines `build.ninja` of a project.
use Rattle.std.specs.Prelude.{List, ◌++◌, codes, Result, Ok, Err}
use Rattle.ports.specs.Endings.{Ending, Whole, Failed, Short}
use Rattle.ports.specs.Outputs.{Step, opening_steps, closing_steps, puts}
use Rattle.build.specs.edge.Texts.{Text}
use Rattle.build.specs.project.World.{WorldData, edges_in}
use Rattle.ninja.specs.Defaults.{default_outputs}
use Rattle.ninja.specs.Writing.{file_text}
use Rattle.backend.specs.declared.stop.WriteStop.{WriteStop}
use Rattle.backend.specs.declared.stop.WriteStop.TheVariants as stops

-- Returns the text of `build.ninja`.
abbrev pub build_file : WorldData → Text
build_file w = file_text (edges_in w) (default_outputs w)

-- Returns the steps of the whole output `build.ninja`.
abbrev pub build_steps : WorldData → List Step
build_steps w = opening_steps (codes "build.ninja") ++ (puts (build_file w) ++ closing_steps)

-- Returns the ending of a call that writes.
abbrev pub ending_of : {B : Type 0} → Result B WriteStop → Ending
ending_of (Ok x) = Whole
ending_of (Err stops.Device) = Failed
ending_of (Err stops.Memory) = Short

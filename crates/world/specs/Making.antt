-- Defines how an output of `configure_file` is made: its path is reserved, and later it is opened, filled and closed.
use Rattle.std.specs.Prelude.{◌≡◌, List, map, Option, Some, None, Result, Ok, Err}
use Rattle.build.specs.edge.Texts.{Path, Text}
use Rattle.support.specs.Faults.{FaultData}
use Rattle.ports.specs.Outputs.{Step, closing_steps, name_after, opening_steps}
use Rattle.build.specs.project.Adding.{after_answer, output_answer, with_output}
use Rattle.build.specs.project.World.{WorldData}
use Rattle.build.specs.project.Refused.{RefusedData}
use Rattle.support.specs.paths.Paths.{path_in}
use Rattle.world.specs.Run.{Act, ran, Done, fails, follow, pure}
use Rattle.world.specs.Trace.{Told}
use Rattle.world.specs.World.{facts_after_declaration, fault_here, with_facts}

-- A filling of an output: steps that neither open nor close an output, and the fault, if there is one, at which the output is given up.
pub record Filling : Type 0 where
  pub steps : List Step
  pub stays : (name : Option Path) → name_after name steps ≡ name
  pub fault : Option FaultData

-- Sends steps to the outputs.
abbrev pub sent_steps : List Step → Act (Unit {0})
sent_steps steps w = ran (Done tt) w (map Told steps)

-- Ends the run if there is a fault.
abbrev pub given_up : Option FaultData → Act (Unit {0})
given_up None w = pure tt w
given_up (Some fault) w = fails fault w

-- Fills the output that is open.
abbrev pub filled_output : Filling → Act (Unit {0})
filled_output filling w = follow (sent_steps filling.steps w) (λ _. given_up filling.fault)

-- Opens an output, fills it, and closes it unless it was given up.
abbrev pub written_output : Path → Filling → Act (Unit {0})
written_output path filling w =
    follow (sent_steps (opening_steps path) w) (λ _ v. follow (filled_output filling v) (λ _. sent_steps closing_steps))

-- ---- its path

-- Returns the project after the path of an output is reserved, and the unchanged project if that is refused.
abbrev pub after_output : Path → Text → WorldData → WorldData
after_output folder name p = after_answer (output_answer p folder name) (with_output p (path_in folder name)) p

-- Succeeds if the project accepted the output, and otherwise fails with its refusal and detail.
abbrev pub taken_by : Result (Unit {0}) RefusedData → Act (Unit {0})
taken_by (Ok _) w = pure tt w
taken_by (Err refused) w = fails (fault_here w refused.why refused.detail) w

-- Reserves the path of a file of the folder, or fails with the refusal of the project.
abbrev pub reserved_output : Path → Text → Act (Unit {0})
reserved_output folder name w =
    taken_by (output_answer w.facts.project folder name) (with_facts w (facts_after_declaration (after_output folder name) w.facts))

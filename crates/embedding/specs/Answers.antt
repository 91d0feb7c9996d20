-- Defines what a call answers: the run of the tree that the slices spell.
use Rattle.std.specs.Prelude.{◌≡◌, ℕ, List, None, length}
use Rattle.ports.specs.Outputs.{events_of_steps}
use Rattle.backend.specs.Concluding.{Whole}
use Rattle.backend.specs.declared.run_end.Status.{Status}
use Rattle.backend.specs.declared.run_end.Status.TheVariants as statuses
use Rattle.command_line.specs.declared.line.Task.{Task}
use Rattle.machine_file.specs.Answers.{MachineSaid}
use Rattle.world.specs.Deed.{Files}
use Rattle.world.specs.MakingSettings.{settings_of}
use Rattle.meson.specs.Tasks.{run_by}
use Rattle.embedding.specs.Encoding.{IsFilled, encoding}
use Rattle.embedding.specs.Given.{GivenData}
use Rattle.embedding.specs.MakingSettings.{AreNoSettings}
use Rattle.embedding.specs.declared.ending.Ending.{Ending}
use Rattle.embedding.specs.declared.ending.Ending.TheVariants as ends

-- Returns everything that a run writes, as bytes.
abbrev pub answer_of : Whole → List ℕ
answer_of run = encoding (events_of_steps None run.steps)

-- The status and the length are those of the run's answer, and the room begins with as much of the answer as fits.
pub record Answers (run : Whole) (status : Status) (room : List ℕ) (len : ℕ) : Type 0 where
  pub is_status : status ≡ run.status
  pub is_length : len ≡ length (answer_of run)
  pub filled : IsFilled room (answer_of run)

-- Returns the run of these files, with the settings that are given.
abbrev pub run_given : Task → GivenData → Files → List (List ℕ) → MachineSaid → Whole
run_given task given files options said = run_by task files (settings_of given.source_root given.build_folder options) said

-- Holds of the ending, the room and the length after a call over slices with this meaning.
abbrev pub Ends : Task → GivenData → Files → List (List ℕ) → MachineSaid → Ending → List ℕ → ℕ → Type 0
Ends task given files options said ends.Done room len = Answers (run_given task given files options said) statuses.Done room len
Ends task given files options said ends.Fault room len = Answers (run_given task given files options said) statuses.Fault room len
Ends task given files options said ends.Memory room len = Unit {0}
Ends task given files options said ends.Settings room len = AreNoSettings given
Ends task given files options said ends.Slices room len = ⊥

-- Nothing was written.
pub record IsUntouched (old new : List ℕ) (len : ℕ) : Type 0 where
  pub room : new ≡ old
  pub none : len ≡ 0

-- Holds if nothing was written unless something was run.
abbrev pub Keeps : Ending → List ℕ → List ℕ → ℕ → Type 0
Keeps ends.Done old new len = Unit {0}
Keeps ends.Fault old new len = Unit {0}
Keeps ends.Memory old new len = Unit {0}
Keeps ends.Settings old new len = IsUntouched old new len
Keeps ends.Slices old new len = IsUntouched old new len

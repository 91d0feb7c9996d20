-- Defines how a kept run is answered.
use Rattle.std.specs.Prelude.{ℕ, List}
use Rattle.backend.specs.Concluding.{Whole}
use Rattle.backend.specs.declared.run_end.Status.TheVariants as statuses
use Rattle.embedding.specs.Answers.{Answers}
use Rattle.embedding.specs.declared.ending.Ending.{Ending}
use Rattle.embedding.specs.declared.ending.Ending.TheVariants as ends
use Rattle.embedding.specs.declared.input_slices.InputError.{InputError}
use Rattle.embedding.specs.declared.input_slices.InputError.TheVariants as refusals
use Rattle.embedding.specs.declared.slice_run.Finished.{Finished}
use Rattle.embedding.specs.declared.slice_run.Finished.TheVariants as finishes

-- Returns the ending of a run that finished so.
abbrev pub ending_of : Finished → Ending
ending_of finishes.Done = ends.Done
ending_of finishes.Fault = ends.Fault

-- Returns the ending of a call that is refused so.
abbrev pub ending_at : InputError → Ending
ending_at refusals.Slices = ends.Slices
ending_at refusals.Settings = ends.Settings
ending_at refusals.Memory = ends.Memory

-- Holds if the run is answered, or if its length does not fit in 64 bits.
abbrev pub Answered : Whole → Ending → List ℕ → ℕ → Type 0
Answered run ends.Done room len = Answers run statuses.Done room len
Answered run ends.Fault room len = Answers run statuses.Fault room len
Answered run ends.Memory room len = Unit {0}
Answered run ends.Settings room len = ⊥
Answered run ends.Slices room len = ⊥

-- Holds if the ending is that of a call that ran something.
abbrev pub IsOfRun : Ending → Type 0
IsOfRun ends.Done = Unit {0}
IsOfRun ends.Fault = Unit {0}
IsOfRun ends.Memory = Unit {0}
IsOfRun ends.Settings = ⊥
IsOfRun ends.Slices = ⊥

-- Defines a run whose outputs are kept.
use Rattle.std.specs.Prelude.{◌≡◌, ℕ, List, None, Result, Ok, Err}
use Rattle.ports.specs.Outputs.{events_of_steps}
use Rattle.backend.specs.Concluding.{Whole}
use Rattle.backend.specs.declared.run_end.Status.{Status}
use Rattle.backend.specs.declared.run_end.Status.TheVariants as statuses
use Rattle.byte_devices.specs.KeptView.{kept_seen}
use Rattle.embedding.specs.declared.input_slices.InputError.{InputError}
use Rattle.embedding.specs.declared.input_slices.InputError.TheVariants as refusals
use Rattle.embedding.specs.declared.slice_run.KeptRun.{KeptRun}
use Rattle.embedding.specs.declared.slice_run.Finished.{Finished}
use Rattle.embedding.specs.declared.slice_run.Finished.TheVariants as finishes

-- Returns the status of a run that finished so.
abbrev pub status_of : Finished → Status
status_of finishes.Done = statuses.Done
status_of finishes.Fault = statuses.Fault

-- The outputs took all of the run.
pub record IsKept (run : Whole) (kept : KeptRun) : Type 0 where
  pub is_status : status_of kept.finished ≡ run.status
  pub events : (kept_seen kept.out).events ≡ events_of_steps None run.steps

-- Holds if the whole run is kept, or if memory ran out.
abbrev pub KeepsRun : Whole → Result KeptRun InputError → Type 0
KeepsRun run (Ok kept) = IsKept run kept
KeepsRun run (Err refusals.Slices) = ⊥
KeepsRun run (Err refusals.Settings) = ⊥
KeepsRun run (Err refusals.Memory) = Unit {0}

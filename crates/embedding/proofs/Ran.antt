-- How a run over slices ends.
use Rattle.std.proofs.Common.{◌≡◌, ℕ, List, None, IsTrue, true, Err, [], ◌++◌, refl, sym, ap, subst, ◌∙◌}
use Rattle.ports.specs.Outputs.{OutputState, Step, Sends, all, events_of_steps, name_after}
use Rattle.backend.specs.Concluding.{Whole}
use Rattle.command_line.specs.declared.line.Task.{Task}
use Rattle.machine_file.specs.Answers.{MachineSaid}
use Rattle.world.specs.Deed.{Files}
use Rattle.byte_devices.specs.Kept.{kept_state}
use Rattle.byte_devices.specs.Pieces.{steps_in}
use Rattle.embedding.specs.Answers.{Ends}
use Rattle.embedding.specs.Given.{GivenData}
use Rattle.embedding.specs.Kept.{KeepsRun}
use Rattle.embedding.specs.Running.{ending_at}
use Rattle.embedding.specs.declared.ending.Ending.{Ending}
use Rattle.embedding.specs.declared.input_slices.InputError.{InputError}
use Rattle.embedding.specs.declared.input_slices.InputError.TheVariants as refusals

-- new outputs that took the whole of a run have its events
pub events_told : (old new : OutputState) (run : List Step) → old ≡ kept_state [] 0 → Sends old new run true → new.events ≡ events_of_steps None run
unfolding events_of_steps name_after steps_in
events_told old new run e (all t) =
    t.events (subst (λ s. IsTrue s.tells) (sym e) refl) ∙ ap (λ s. s.events ++ events_of_steps s.open_name run) e

-- a run that did not come to its end
stops : (task : Task) (given : GivenData) (files : Files) (options : List (List ℕ)) (said : MachineSaid) (room : List ℕ) (len : ℕ) (run : Whole) (refused : InputError)
    → KeepsRun run (Err refused) → Ends task given files options said (ending_at refused) room len
stops task given files options said room len run refusals.Slices k = k
stops task given files options said room len run refusals.Settings k = absurd k
stops task given files options said room len run refusals.Memory k = tt

pub ends_stopped : (task : Task) (given : GivenData) (files : Files) (options : List (List ℕ)) (said : MachineSaid) (room : List ℕ) (len : ℕ) (run : Whole)
    (refused : InputError) (e : Ending) → e ≡ ending_at refused → KeepsRun run (Err refused) → Ends task given files options said e room len
ends_stopped task given files options said room len run refused e is k =
    subst (λ (x : Ending). Ends task given files options said x room len) (sym is) (stops task given files options said room len run refused k)

-- States what becomes of the outputs of `configure_file`.
use Rattle.std.specs.Prelude.{◌≡◌, ℕ, true, List, [], ◌∷◌, Option}
use Rattle.build.specs.edge.Texts.{Path}
use Rattle.ports.specs.Outputs.{Event, Open, Byte, Close, Log, Fault, Step, events_of_steps}
use Rattle.build.specs.project.Laws.{all_held}
use Rattle.world.specs.Run.{Run, ran, Done, Faulted}
use Rattle.world.specs.Trace.{steps_of}

-- Returns the outputs that have a `Close` among these events.
abbrev pub closed_in : List Event → List Path
closed_in [] = []
closed_in (Close path ∷ events) = path ∷ closed_in events
closed_in (Open path ∷ events) = closed_in events
closed_in (Byte path byte ∷ events) = closed_in events
closed_in (Log byte ∷ events) = closed_in events
closed_in (Fault byte ∷ events) = closed_in events

-- Returns the outputs that these steps close, if `name` is open before them.
abbrev pub closed_by : Option Path → List Step → List Path
closed_by name steps = closed_in (events_of_steps name steps)

-- Holds if each output of the project is closed by the steps of a run that is done, whichever output is open before them.
abbrev pub ClosesOutputs : {A : Type 0} → Run A → Type 0
ClosesOutputs (ran (Done _) w ms) = (name : Option Path) → all_held (closed_by name (steps_of ms)) w.facts.project.outputs ≡ true
ClosesOutputs (ran (Faulted _) w ms) = Unit {0}

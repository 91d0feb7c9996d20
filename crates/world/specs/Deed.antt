-- Defines deeds: what a function does with its evaluated arguments. A deed ends no rule and enters no folder. Only `ask` reads the file
-- tree, only `consult` reads the machine file, and only `make` makes an output of `configure_file`.
use Rattle.std.specs.Prelude.{ℕ, Bool, true, false, List, [], Option, Result, Ok, Err, is_some}
use Rattle.build.specs.edge.Texts.{Path, Text}
use Rattle.ports.specs.Outputs.{Step, logs}
use Rattle.ports.specs.Tree.{file_at}
use Rattle.values.specs.declared.refusal.OperationRefusal.{OperationRefusal as OperationRefusal}
use Rattle.machine_file.specs.Questions.{Answer, Question, answer_to}
use Rattle.build.specs.Data.{FactsData}
use Rattle.support.specs.paths.Paths.{path_in}
use Rattle.world.specs.Making.{Filling, reserved_output, sent_steps, written_output}
use Rattle.world.specs.Operation.{of_operation}
use Rattle.world.specs.World.{Facts, LeavesPaths, world_after_question, facts_after_project, world_after_look, with_facts, fault_here}
use Rattle.world.specs.Run.{Act, ran, Done, pure, fails, follow}
use Rattle.support.specs.declared.faults.refusal.Refusal.{Refusal}
use Rattle.support.specs.declared.faults.refusal.Refusal.TheVariants as refusals

-- Files are a list of pairs: the path of each file, and its bytes.
abbrev pub Files : Type 0
Files = List (List ℕ × List ℕ)

-- A deed, made from these steps.
pub data Deed : Type 0 → Type 1 where
  -- Returns a value.
  give : {A : Type 0} → A → Deed A
  -- Refuses the call at the present place, with a name, path or text as detail.
  refuse : {A : Type 0} → Refusal → List ℕ → Deed A
  -- Sends steps to the outputs.
  tell : List Step → Deed (Unit {0})
  -- Returns the bytes of the file at this path. The path counts as looked at, and the project notes whether it is present.
  ask : List ℕ → Deed (Option (List ℕ))
  -- Returns the machine file's answer to this question, which counts as asked.
  consult : Question → Deed Answer
  -- Returns the facts, and changes nothing.
  read : Deed Facts
  -- Changes the facts, but not the paths that the project notes or makes: only `ask` looks at a path, and only `make` makes one.
  change : (f : Facts → Facts) → LeavesPaths f → Deed (Unit {0})
  -- Begins the project, with nothing declared yet.
  begin_project : FactsData → Deed (Unit {0})
  -- Makes the file of the folder with this name. Its path is reserved, or refused as the project does. After the deed `ready`, whose value
  -- is returned, the output is opened, filled and closed.
  make : {A : Type 0} → (folder : Path) (name : Text) → (ready : Deed A) → Filling → Deed A
  -- Does a deed, and then the deed that follows for its value.
  then : {A B : Type 0} → Deed A → (A → Deed B) → Deed B

infixl 10 ◌>>=◌
-- Returns one deed followed by another.
abbrev pub ◌>>=◌ : {A B : Type 0} → Deed A → (A → Deed B) → Deed B
first >>= next = then first next

-- Returns the act of a deed.
abbrev pub perform : {A : Type 0} → Files → Deed A → Act A
perform files (give a) w = pure a w
perform files (refuse refusal detail) w = fails (fault_here w refusal detail) w
perform files (tell steps) w = sent_steps steps w
perform files (ask path) w = ran (Done (file_at files path)) (world_after_look w path (is_some (file_at files path))) []
perform files (consult question) w = ran (Done (answer_to w.machine question.topic)) (world_after_question w question) []
perform files read w = pure w.facts w
perform files (change f leaves) w = ran (Done tt) (with_facts w (f w.facts)) []
perform files (begin_project facts) w = ran (Done tt) (with_facts w (facts_after_project facts w.facts)) []
perform files (make folder name ready filling) w =
    follow (reserved_output folder name w)
    (λ _ v. follow (perform files ready v) (λ a u. follow (written_output (path_in folder name) filling u) (λ _. pure a)))
perform files (then first next) w = follow (perform files first w) (λ a. perform files (next a))

-- ---- small deeds

-- Writes bytes to the log.
unfoldable pub say : List ℕ → Deed (Unit {0})
say bytes = tell (logs bytes)

-- Returns the value of an operation, or its refusal.
unfoldable pub answer_or_refusal : {A : Type 0} → Result A OperationRefusal → Deed A
answer_or_refusal (Ok a) = give a
answer_or_refusal (Err refusal) = refuse (of_operation refusal) []

-- Returns the value of a check of arguments, or its refusal.
unfoldable pub fitting_value : {A : Type 0} → Result A Refusal → Deed A
fitting_value (Ok a) = give a
fitting_value (Err refusal) = refuse refusal []

-- Refuses the call unless a condition is true.
unfoldable pub need : Bool → Refusal → List ℕ → Deed (Unit {0})
need true refusal detail = give tt
need false refusal detail = refuse refusal detail

-- Returns whether a file is present.
unfoldable pub there : List ℕ → Deed Bool
there path = do
  bytes ← ask path
  give (is_some bytes)

-- Refuses the call unless a file is present (E14).
unfoldable pub required_file : List ℕ → Deed (Unit {0})
required_file path = do
  found ← there path
  need found refusals.FileMissing path

-- Defines plans: what evaluation does. A plan reads and changes the world by deeds; it also ends rules and enters folders.
use Rattle.std.specs.Prelude.{ℕ, List, [], Result, Ok, Err, refl}
use Rattle.values.specs.declared.refusal.OperationRefusal.{OperationRefusal as OperationRefusal}
use Rattle.world.specs.Operation.{of_operation}
use Rattle.world.specs.World.{world_in_folder, with_line}
use Rattle.world.specs.Run.{Act, ran, Done, pure, with_end, follow}
use Rattle.world.specs.Deed.{Files, Deed, give as give_deed, refuse as refuse_deed, change, perform}
use Rattle.support.specs.declared.faults.refusal.Refusal.{Refusal}

-- A plan, made from these steps.
pub data Plan : Type 0 → Type 1 where
  -- Does a deed.
  deed : {A : Type 0} → Deed A → Plan A
  -- Ends the rule of a node or of a loop round after this plan.
  ruled : {A : Type 0} → Plan A → Plan A
  -- Marks a folder as entered.
  enter : List ℕ → Plan (Unit {0})
  -- Returns the folders entered.
  entered : Plan (List (List ℕ))
  -- Carries out a plan, and then the plan that follows for its value.
  next : {A B : Type 0} → Plan A → (A → Plan B) → Plan B

infixl 10 ◌>>=◌
-- Returns one plan followed by another.
abbrev pub ◌>>=◌ : {A B : Type 0} → Plan A → (A → Plan B) → Plan B
first >>= others = next first others

-- Returns the act of a plan.
abbrev pub carry : {A : Type 0} → Files → Plan A → Act A
carry files (deed d) w = perform files d w
carry files (ruled p) w = with_end (carry files p w)
carry files (enter folder) w = ran (Done tt) (world_in_folder w folder) []
carry files entered w = pure w.entered w
carry files (next first others) w = follow (carry files first w) (λ a. carry files (others a))

-- ---- small plans

-- Returns a value.
abbrev pub give : {A : Type 0} → A → Plan A
give a = deed (give_deed a)

-- Makes a line the present one.
abbrev pub at : ℕ → Plan (Unit {0})
at line = deed (change (with_line line) (λ facts. refl))

-- Refuses a line, with a name, path or text as detail.
abbrev pub refuse : {A : Type 0} → ℕ → Refusal → List ℕ → Plan A
refuse line refusal detail = at line >>= λ _. deed (refuse_deed refusal detail)

-- Returns the value of an operation, or its refusal at a line.
abbrev pub answer_at_line : {A : Type 0} → ℕ → Result A OperationRefusal → Plan A
answer_at_line line (Ok a) = give a
answer_at_line line (Err refusal) = refuse line (of_operation refusal) []

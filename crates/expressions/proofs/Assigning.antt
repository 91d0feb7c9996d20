-- Variables that take values.
use Rattle.std.proofs.Common.{◌≡◌, ℕ, ◌+◌, ◌<◌, List, [], length, length-append, get_or, arith, Bool, true, false, Option, Some, None}
use Rattle.std.proofs.Common.{Result, Ok, Err, IsErrAnd, bytes_eq, refl, sym, ap, subst, ◌∙◌}
use Rattle.std.specs.Prelude.{if◌then◌else◌}
use Rattle.code.specs.Draft.{IsFront}
use Rattle.code.proofs.Trees.{at_front}
use Rattle.values.specs.Data.{Data}
use Rattle.values.specs.declared.refusal.OperationRefusal.{OperationRefusal as OperationRefusal}
use Rattle.ports.specs.Outputs.{OutputState}
use Rattle.ports.specs.Tree.{TreeState}
use Rattle.world.specs.Deed.{Files}
use Rattle.world.specs.Gives.{Gives, Holds}
use Rattle.world.specs.Plan.{Plan, next, give, carry, answer_at_line}
use Rattle.world.specs.Store.{world_after_change}
use Rattle.world.specs.Trace.{Seen, seen_from_parts}
use Rattle.world.specs.Run.{ran, Done, Faulted, outcome_of}
use Rattle.world.specs.Operation.{of_operation}
use Rattle.support.specs.Faults.{FaultData}
use Rattle.support.specs.declared.faults.refusal.Refusal.TheVariants as refusals
use Rattle.operations.specs.declared.operators.operator.Binary.TheVariants.{Add}
use Rattle.operations.specs.operators.Operations.{binary_answer}
use Rattle.values.specs.language_names.Names.{is_predefined}
use Rattle.world.specs.World.{World, with_facts, with_line, with_variable, with_variables, variables_with}
use Rattle.world.specs.declared.stop.Stop.{Stop}
use Rattle.world.specs.declared.stop.Stop.TheVariants as stops
use Rattle.world.proofs.Follow.{gives_at, wanted_grown}
use Rattle.world.proofs.Setting.{world_lost}
use Rattle.expressions.specs.Contexts.{Stand, Given, seen_of}
use Rattle.world.specs.Answering.{Refuses}
use Rattle.expressions.specs.Forms.{known_value, set_variable}
use Rattle.expressions.proofs.Evaluating.{given_as, given_read, given_refuse, given_stop}
use Rattle.expressions.specs.Assignments.{assignment_of_sum, variable_assignment, assigned_by}
use Rattle.arguments.specs.Rules.{breach_message}
use Rattle.arguments.specs.declared.rule.Rule.TheVariants as rules

-- want of memory, where the table of names may have grown
pub given_none_grown : {A B : Type 0} {view : B → A} {files : Files} {p : Plan A} {w w1 : World} {names names1 : List (List ℕ)} {tree : TreeState} {out : OutputState} {n : ℕ} {result : Result B Stop}
    → Holds tree files → IsErrAnd result (λ e. e ≡ stops.Memory) → IsFront names names1
    → Given view files p (record { world = w; names = names; tree = tree; out = out; ticks = n }) result (record { world = w1; names = names1; tree = tree; out = out; ticks = n })
given_none_grown {view = view} {files = files} {p = p} {w = w} {w1 = w1} {names = names} {names1 = names1} {out = out} {n = n} {result = result} h is more = record {
  gives = wanted_grown view (carry files p w) w1 (seen_from_parts out n names) (seen_from_parts out n names1) result is refl refl more;
  holds = h;
}

-- ---- a value that is taken out of its variable, which then takes another

over_by : (b : Bool) (x o : Option Data) → (if b then o else (if b then None else x)) ≡ (if b then o else x)
over_by true x o = refl
over_by false x o = refl

over : (f : List ℕ → Option Data) (name : List ℕ) (o : Option Data) (q : List ℕ) → variables_with (variables_with f name None) name o q ≡ variables_with f name o q
over f name o q = over_by (bytes_eq name q) (f q) o

overwritten : (name : List ℕ) (o : Option Data) (w : World) → world_after_change (with_variable name o) (world_after_change (with_variable name None) w) ≡ world_after_change (with_variable name o) w
overwritten name o w = λ i. with_facts w (with_variables (λ q. over w.facts.variables name o q i) w.facts)

faulted_gives : {A B : Type 0} (view : B → A) (f : FaultData) (w1 w2 v : World) (result : Result B Stop) (old new : Seen) → w1.asked ≡ w2.asked
    → Gives view (ran (Faulted f) w1 []) result v old new → Gives view (ran (Faulted f) w2 []) result v old new
faulted_gives view f w1 w2 v (Ok x) old new same g = absurd (let h : Faulted f ≡ Done (view x) = ap outcome_of g.is in cc)
faulted_gives view f w1 w2 v (Err (stops.Refused fault)) old new same g = record { is = g.is; asks = g.asks ∙ same; written = g.written }
faulted_gives view f w1 w2 v (Err stops.Device) old new same g = g
faulted_gives view f w1 w2 v (Err stops.Memory) old new same g = g

over_by_name : (b : Bool) (files : Files) (line : ℕ) (name : List ℕ) (d : Data) (w v : World) (result : Result (Unit {0}) Stop) (old new : Seen)
    → Gives (λ (u : Unit {0}). u) (carry files (next (give d) (λ sum. assigned_by b line name sum)) (world_after_change (with_variable name None) w)) result v old new
    → Gives (λ (u : Unit {0}). u) (carry files (next (give d) (λ sum. assigned_by b line name sum)) w) result v old new
over_by_name true files line name d w v result old new g =
    faulted_gives (λ (u : Unit {0}). u) (record { file = w.facts.file; line = line; refusal = refusals.Arguments; detail = breach_message rules.IsSettable name })
    (world_after_change (with_line line) (world_after_change (with_variable name None) w)) (world_after_change (with_line line) w) v result old new refl g
over_by_name false files line name d w v result old new g =
    gives_at (λ (u : Unit {0}). u) (λ x. ran (Done tt) x []) result v old new (overwritten name (Some d) w) g

over_gives : (r : Result Data OperationRefusal) (files : Files) (line : ℕ) (name : List ℕ) (w v : World) (result : Result (Unit {0}) Stop) (old new : Seen)
    → Gives (λ (u : Unit {0}). u) (carry files (next (answer_at_line line r) (λ sum. variable_assignment line name sum)) (world_after_change (with_variable name None) w)) result v old new
    → Gives (λ (u : Unit {0}). u) (carry files (next (answer_at_line line r) (λ sum. variable_assignment line name sum)) w) result v old new
over_gives (Ok d) files line name w v result old new g = over_by_name (is_predefined name) files line name d w v result old new g
over_gives (Err refusal) files line name w v result old new g =
    faulted_gives (λ (u : Unit {0}). u) (record { file = w.facts.file; line = line; refusal = of_operation refusal; detail = [] })
    (world_after_change (with_line line) (world_after_change (with_variable name None) w)) (world_after_change (with_line line) w) v result old new refl g

-- a sum is assigned to the variable whose value was taken out of it, as if that still had it
pub given_over : (line : ℕ) (name : List ℕ) (d e : Data) {files : Files} {w w1 : World} {names names1 : List (List ℕ)} {tree : TreeState} {out : OutputState} {n : ℕ} {result : Result (Unit {0}) Stop} {s : Stand}
    → w1 ≡ world_after_change (with_variable name None) w → names1 ≡ names
    → Given (λ (u : Unit {0}). u) files (assignment_of_sum line name d e) (record { world = w1; names = names1; tree = tree; out = out; ticks = n }) result s
    → Given (λ (u : Unit {0}). u) files (assignment_of_sum line name d e) (record { world = w; names = names; tree = tree; out = out; ticks = n }) result s
given_over line name d e {files = files} {w = w} {w1 = w1} {names = names} {names1 = names1} {out = out} {n = n} {result = result} {s = s} is same g = record {
  gives = over_gives (binary_answer Add d e) files line name w s.world result (seen_from_parts out n names) (seen_of s)
      (subst (λ v. Gives (λ (u : Unit {0}). u) (carry files (assignment_of_sum line name d e) v) result s.world (seen_from_parts out n names) (seen_of s)) is
      (subst (λ ns. Gives (λ (u : Unit {0}). u) (carry files (assignment_of_sum line name d e) w1) result s.world (seen_from_parts out n ns) (seen_of s)) same g.gives));
  holds = g.holds;
}

-- a variable that has no value, and the rest never comes
pub given_unknown : {B C : Type 0} {view : C → B} {files : Files} {line : ℕ} {name : List ℕ} {others : Data → Plan B} {s : Stand} (result : Result C Stop)
    → Holds s.tree files → None ≡ s.world.facts.variables name → Refuses (record { file = s.world.facts.file; line = line; refusal = refusals.UndefinedName; detail = name }) result
    → Given view files (next (set_variable line name) others) s result s
given_unknown (Ok x) h none is = absurd is
given_unknown {view = view} {files = files} {line = line} {name = name} {s = s} (Err e) h none is =
    given_stop {view = λ (d : Data). d} (given_read (given_as (ap (known_value line name) none)
    (given_refuse {A = Data} {B = Data} {view = λ (d : Data). d} {files = files} {line = line} {refusal = refusals.UndefinedName} {detail = name} {s = s} {result = Err e} h is))) refl

-- the same after its value was to be taken
pub given_untaken : {B C : Type 0} {view : C → B} {files : Files} {line : ℕ} {name detail : List ℕ} {others : Data → Plan B} {w w1 : World} {names names1 : List (List ℕ)} {tree : TreeState} {out : OutputState} {n : ℕ} (result : Result C Stop)
    → Holds tree files → None ≡ w.facts.variables name → w1 ≡ world_after_change (with_variable name None) w → names1 ≡ names → detail ≡ name
    → Refuses (record { file = w1.facts.file; line = line; refusal = refusals.UndefinedName; detail = detail }) result
    → Given view files (next (set_variable line name) others) (record { world = w; names = names; tree = tree; out = out; ticks = n }) result (record { world = w1; names = names1; tree = tree; out = out; ticks = n })
given_untaken {view = view} {files = files} {line = line} {name = name} {detail = detail} {others = others} {w = w} {w1 = w1} {names = names} {names1 = names1} {tree = tree} {out = out} {n = n} result h none is same called refused =
    let stays : w1 ≡ w = is ∙ sym (world_lost w name (sym none)) in
    let told = subst (λ (d : List ℕ). Refuses (record { file = w.facts.file; line = line; refusal = refusals.UndefinedName; detail = d }) result) called
    (subst (λ (v : World). Refuses (record { file = v.facts.file; line = line; refusal = refusals.UndefinedName; detail = detail }) result) stays refused) in
    subst (λ (v : World). Given view files (next (set_variable line name) others) (record { world = w; names = names; tree = tree; out = out; ticks = n }) result (record { world = v; names = names1; tree = tree; out = out; ticks = n })) (sym stays)
    (subst (λ (ns : List (List ℕ)). Given view files (next (set_variable line name) others) (record { world = w; names = names; tree = tree; out = out; ticks = n }) result (record { world = w; names = ns; tree = tree; out = out; ticks = n })) (sym same)
    (given_unknown {line = line} {name = name} {s = record { world = w; names = names; tree = tree; out = out; ticks = n }} result h none told))

-- a name keeps its number where the table grows
pub name_stays : {old new : List (List ℕ)} → IsFront old new → (i : ℕ) → i < length old → (i < length new) × (get_or new i [] ≡ get_or old i [])
name_stays {old = old} {new = new} f i l =
    let e : length new ≡ length old + length f.more = ap length f.is ∙ length-append old f.more in
    (omega (arith, l, e), ap (λ ns. get_or ns i []) f.is ∙ at_front old f.more i [] l)

-- How an evaluation begins.
use Rattle.std.proofs.Common.{◌≡◌, ℕ, ◌<◌, Bool, true, false, List, [], ◌∷◌, length, get_or, IsTrue, Option, Some, None, Result, Ok, Err}
use Rattle.std.proofs.Common.{IsErrAnd, refl, sym, ap, subst, ◌∙◌}
use Rattle.std.specs.Prelude.{codes, slice_get}
use Rattle.code.specs.Nodes.{tree_at, tree_of}
use Rattle.code.specs.Statements.{statement_at, statement_tree, statement_within}
use Rattle.code.specs.declared.code.Code.{Code}
use Rattle.code.specs.declared.node.Node.{Node}
use Rattle.code.specs.declared.node.StatementNode.{StatementNode}
use Rattle.code.specs.declared.node.StatementNode.TheVariants as flat
use Rattle.code.proofs.CallerLemmas.{node_opens, statement_opens, statement_parts_before}
use Rattle.code.proofs.Trees.{less}
use Rattle.expressions.specs.Contexts.{Given, Stand}
use Rattle.expressions.specs.Codes.{expressions_by, statements_by}
use Rattle.machine_file.specs.Fault.{fault_of_machine_file}
use Rattle.machine_file.specs.Files.{Section}
use Rattle.world.specs.Details.{refuse_about}
use Rattle.world.specs.Settings.{SettingsData}
use Rattle.world.specs.Start.{first_world}
use Rattle.world.specs.Deed.{Files}
use Rattle.ports.specs.Outputs.{OutputState}
use Rattle.world.specs.Store.{Kept, world_of}
use Rattle.interp.specs.Evaluated.{Evaluated}
use Rattle.interp.proofs.Ticking.{evaluated_done, evaluated_none, evaluated_stop, unnamed}
use Rattle.world.specs.Gives.{Ends, Gives}
use Rattle.world.specs.Run.{Done, Run}
use Rattle.world.specs.Plan.{Plan, carry}
use Rattle.world.specs.Trace.{Seen, seen_from_parts}
use Rattle.world.specs.World.{World, with_facts, with_place}
use Rattle.world.specs.declared.stop.Stop.{Stop}
use Rattle.world.specs.declared.stop.Stop.TheVariants as stops
use Rattle.world.proofs.Follow.{begun, refused_later}
use Rattle.syntax.specs.Tree.{StatementTree, AssignTree, AppendTree, ValueTree, BreakTree, ContinueTree, IfTree, ForeachTree, Statements}
use Rattle.syntax.specs.Tree.{NoStatement, MoreStatements}
use Rattle.interp.specs.FirstStatement.{Reads, RootGives, Starts, begun_at, line_before, line_unless, other_line}
use Rattle.interp.specs.Evaluation.{MachineSaid, begins, begins_all, begun_by, plan_of_definitions, evaluation, is_project, sections_of}

-- the tree of a statement that is there
pub statement_is : (names : List (List ℕ)) (c : Code) (i : ℕ) (x n : StatementNode) → i < length c.statements.items → x ≡ get_or c.statements.items i x → x ≡ n
    → statement_at (statements_by names c) i ≡ statement_tree names (expressions_by names c) (statements_by names c) n
statement_is names c i x n l at is =
    statement_opens names (expressions_by names c) c.names (length c.nodes.items) c.statements.items i x c.placed l
    ∙ ap (statement_tree names (expressions_by names c) (statements_by names c)) (sym at ∙ is)

-- the expression of a statement is there
pub value_there : (c : Code) (i : ℕ) (x : StatementNode) (value line : ℕ) → i < length c.statements.items → x ≡ get_or c.statements.items i x → x ≡ flat.Expression value line
    → value < length c.nodes.items
value_there c i x value line l at is =
    less value (length c.nodes.items)
    (subst (λ n. IsTrue (statement_within c.names (length c.nodes.items) i n)) (sym at ∙ is) (statement_parts_before c.names (length c.nodes.items) c.statements.items i x c.placed l))

-- whether an expression that is a statement is a call of `project`
pub value_line : (names : List (List ℕ)) (c : Code) (value line : ℕ) (n : Node) (b : Bool) → value < length c.nodes.items → n ≡ get_or c.nodes.items value n
    → b ≡ is_project (tree_of names (expressions_by names c) n) → line_unless line b ≡ line_unless line (is_project (tree_at (expressions_by names c) value))
value_line names c value line n b l at is =
    ap (line_unless line) is ∙ ap (λ m. line_unless line (is_project (tree_of names (expressions_by names c) m))) at
    ∙ sym (ap (λ t. line_unless line (is_project t)) (node_opens names c.names c.nodes.items value n c.ordered l))

begun_as : (line : ℕ) (b : Bool) → begun_by line b ≡ begun_at (line_unless line b)
begun_as line true = refl
begun_as line false = refl

begins_as : (s : StatementTree) → begins s ≡ begun_at (other_line s)
begins_as (ValueTree e line) = begun_as line (is_project e)
begins_as (AssignTree name line value) = refl
begins_as (AppendTree name line value) = refl
begins_as (BreakTree line) = refl
begins_as (ContinueTree line) = refl
begins_as (IfTree line branches otherwise) = refl
begins_as (ForeachTree line first second items items_line body) = refl

-- how a file begins
pub begins_at : (ss : Statements) (o : Option ℕ) → o ≡ line_before ss → begun_at o ≡ begins_all ss
begins_at NoStatement o is = ap begun_at is
begins_at (MoreStatements s ss) o is = ap begun_at is ∙ sym (begins_as s)

-- an evaluation, by whether long loops are refused
abbrev pub run_of : Bool → Files → SettingsData → MachineSaid → Run (Unit {0})
run_of few files s said = carry files (evaluation few said) (first_world s (sections_of said))

-- the world in which the root file is evaluated, and the whole evaluation
started : (few : Bool) (files : Files) (s : SettingsData) (said : MachineSaid) (kept : Kept) → Starts s said (Ok kept)
    → carry files (plan_of_definitions few) (world_of kept) ≡ run_of few files s said
started few files s (Ok sections) kept is = ap (carry files (plan_of_definitions few)) is
started few files s (Err fault) kept is = absurd is

-- what stops where the machine file is read stops the start
unread : {A : Type 0} (view : A → List Section) (s : SettingsData) (said : MachineSaid) (e : Stop) → Reads view said (Err e) → Starts s said (Err e)
unread view s (Ok sections) (stops.Refused f) h = absurd h
unread view s (Err g) (stops.Refused f) h = h
unread view s (Ok sections) stops.Device h = absurd h
unread view s (Err g) stops.Device h = absurd h
unread view s (Ok sections) stops.Memory h = tt
unread view s (Err g) stops.Memory h = tt

pub not_read : {A : Type 0} (view : A → List Section) (s : SettingsData) (said : MachineSaid) (e : Stop) (result : Result Kept Stop) → IsErrAnd result (λ r. r ≡ e)
    → Reads view said (Err e) → Starts s said result
not_read view s said e (Ok k) is h = absurd is
not_read view s said e (Err d) is h = subst (λ x. Starts s said (Err x)) (sym is) (unread view s said e h)

-- the first world over what was read
pub was_read : {A : Type 0} (view : A → List Section) (s : SettingsData) (said : MachineSaid) (x : A) (k : Kept) → Reads view said (Ok x) → world_of k ≡ first_world s (view x)
    → Starts s said (Ok k)
was_read view s (Ok sections) x k h e = e ∙ ap (first_world s) h
was_read view s (Err g) x k h e = absurd h

-- a machine file that is refused, or no memory
pub not_started : (few : Bool) (files : Files) (s : SettingsData) (said : MachineSaid) (e : Stop) (result : Result Kept Stop) (out : OutputState) (n : ℕ) → IsErrAnd result (λ r. r ≡ e)
    → Starts s said (Err e) → Evaluated (run_of few files s said) result (seen_from_parts out n []) (seen_from_parts out n [])
unfolding refuse_about
not_started few files s said stops.Memory result out n is h = evaluated_none (run_of few files s said) (seen_from_parts out n []) result is
not_started few files s said stops.Device result out n is h = absurd h
not_started few files s (Ok sections) (stops.Refused f) result out n is h = absurd h
not_started few files s (Err fault) (stops.Refused f) result out n is h =
    let w = first_world s [] in
    evaluated_stop (run_of few files s (Err fault)) (stops.Refused f) result w (seen_from_parts out n []) (seen_from_parts out n []) is
    (refused_later (λ (u : Unit {0}). u) (fault_of_machine_file fault) (stops.Refused f) (with_facts w (with_place (codes "<machine file>") [] fault.line w.facts)) w (seen_from_parts out n [])
    (begun (run_of few files s (Err fault)) (seen_from_parts out n [])) h refl)

-- the root file ended
pub whole_done : (few : Bool) (files : Files) (s : SettingsData) (said : MachineSaid) (kept k : Kept) (old new : Seen) → Starts s said (Ok kept)
    → Ends (carry files (plan_of_definitions few) (world_of kept)) (Done tt) (world_of k) old new → Evaluated (run_of few files s said) (Ok k) (unnamed old) (unnamed new)
whole_done few files s said kept k old new is g =
    evaluated_done (run_of few files s said) k old new
    (subst (λ r. Ends r (Done tt) (world_of k) old new) (started few files s said kept is) g)

-- or it stopped
pub whole_stopped : (few : Bool) (files : Files) (s : SettingsData) (said : MachineSaid) (kept : Kept) (w : World) (e : Stop) (result : Result Kept Stop) (old new : Seen) → Starts s said (Ok kept)
    → IsErrAnd result (λ r. r ≡ e) → Gives {A = Unit {0}} {B = Unit {0}} (λ r. r) (carry files (plan_of_definitions few) (world_of kept)) (Err e) w old new
    → Evaluated (run_of few files s said) result (unnamed old) (unnamed new)
whole_stopped few files s said kept w e result old new is stop g =
    evaluated_stop (run_of few files s said) e result w old new stop
    (subst (λ x. Gives {A = Unit {0}} {B = Unit {0}} (λ r. r) x (Err e) w old new) (started few files s said kept is) g)

-- the first number of a list
pub first_is : (xs : List ℕ) (n : ℕ) → Some n ≡ slice_get xs 0 → (rest : List ℕ) × (xs ≡ n ∷ rest)
first_is [] n e = absurd (let h : Some n ≡ None = e in cc)
first_is (x ∷ xs) n e = (xs, let h : Some n ≡ Some x = e in cc)

-- the same of equal values
pub root_moved : {O : Type 0} (see : O → OutputState) {files : Files} {k0 k v0 v : Kept} {o0 o p0 p : O} {n0 n m0 m : ℕ} {result : Result (Unit {0}) Stop}
    → k0 ≡ k → o0 ≡ o → n0 ≡ n → v0 ≡ v → p0 ≡ p → m0 ≡ m → RootGives files k0 (see o0) n0 result v0 (see p0) m0 → RootGives files k (see o) n result v (see p) m
root_moved see {files = files} {k0 = k0} {k = k} {v0 = v0} {v = v} {o0 = o0} {o = o} {p0 = p0} {p = p} {n0 = n0} {n = n} {m0 = m0} {m = m} {result = result} store out ticks store_now out_now ticks_now g =
    subst (λ x. RootGives files k (see o) n result v (see p) x) ticks_now
    (subst (λ x. RootGives files k (see o) n result v (see x) m0) out_now
    (subst (λ x. RootGives files k (see o) n result x (see p0) m0) store_now
    (subst (λ x. RootGives files k (see o) x result v0 (see p0) m0) ticks
    (subst (λ x. RootGives files k (see x) n0 result v0 (see p0) m0) out
    (subst (λ x. RootGives files x (see o0) n0 result v0 (see p0) m0) store g)))))

-- the same answer, written otherwise
pub given_is : {A B : Type 0} {view : B → A} {files : Files} {p : Plan A} {s0 s1 : Stand} {r r' : Result B Stop} → r ≡ r' → Given view files p s0 r s1 → Given view files p s0 r' s1
given_is {view = view} {files = files} {p = p} {s0 = s0} {s1 = s1} e g = subst (λ x. Given view files p s0 x s1) e g

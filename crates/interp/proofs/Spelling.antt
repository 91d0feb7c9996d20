-- What the statements of code spell, by the table of names as it was when the code was made.
use Rattle.std.proofs.Common.{◌≡◌, Bool, ℕ, zero, suc, ◌+◌, ◌<◌, ◌≤◌, List, [], ◌∷◌, drop, drop_of_length-le, IsErrAnd, Result, Ok, Err}
use Rattle.std.proofs.Common.{length, length-append, get_or, Box, Global, Vec, map, IsTrue, Option, Some, None, option_map}
use Rattle.std.proofs.Common.{refl, sym, ap, subst, ◌∙◌, arith}
use Rattle.std.specs.Prelude.{nat_lt}
use Rattle.std.specs.List.{list_all}
use Rattle.code.specs.Draft.{IsFront}
use Rattle.code.specs.Nodes.{argument_at, tree_at, tree_of}
use Rattle.code.specs.Statements.{branch_at, branch_within, name_at, second_within, statement_at, statement_tree, statement_within}
use Rattle.code.specs.declared.code.Code.{Code}
use Rattle.code.specs.declared.node.CallNode.{CallNode}
use Rattle.code.specs.declared.node.LinkNode.{LinkNode}
use Rattle.code.specs.declared.node.Node.{Node}
use Rattle.code.specs.declared.node.Node.TheVariants as nodes
use Rattle.code.specs.declared.node.BranchNode.{BranchNode}
use Rattle.code.specs.declared.node.StatementNode.{StatementNode}
use Rattle.code.specs.declared.node.StatementNode.TheVariants as flat
use Rattle.code.proofs.CallerLemmas.{node_opens, statement_opens, statement_parts_before}
use Rattle.code.proofs.Trees.{at_front, both_true, is_less, less}
use Rattle.syntax.specs.ExpressionTree.{ExpressionTree, FunctionTree, arguments}
use Rattle.syntax.specs.Tree.{StatementTree, Statements, MoreBranches, branches, statements}
use Rattle.world.specs.Deed.{Files}
use Rattle.world.specs.Plan.{Plan, give, next, ruled}
use Rattle.world.specs.declared.stop.Stop.{Stop}
use Rattle.interp.specs.Bounds.{Bounds}
use Rattle.interp.specs.Blocks.{branch_or, node_at}
use Rattle.expressions.specs.Codes.{expressions_by, statements_by}
use Rattle.interp.specs.Evaluates.{Comes, HaltsTo, Reads}
use Rattle.expressions.specs.Contexts.{Given, Stand, Leads}
use Rattle.interp.specs.Expressions.{given_by, value_of}
use Rattle.interp.specs.Frames.{Chooses, Made, above_branch, part_done}
use Rattle.interp.specs.Parts.{above}
use Rattle.expressions.specs.Rounds.{RoundAt, round_data, Round}
use Rattle.expressions.specs.Assignments.{assignment_of_round}
use Rattle.interp.specs.Statements.{do_all, expression_statement}
use Rattle.expressions.specs.declared.loops.Round.{Round as Declared}
use Rattle.interp.specs.declared.flow.Flow.{Flow}
use Rattle.interp.specs.declared.flow.Flow.TheVariants.{Next}
use Rattle.interp.specs.declared.halt.Halt.{Halt}
use Rattle.interp.specs.declared.halt.Halt.TheVariants as halts
use Rattle.interp.proofs.Coming.{halts_end, halts_then}
use Rattle.expressions.proofs.Evaluating.{given_stop, leads_end, next_is}
use Rattle.interp.proofs.Reading.{name_of, opened}

-- the trees of the expressions
pub reads_at : {c d : Code} {names table : List (List ℕ)} → d ≡ c → Made c names table → Reads (expressions_by table c) d names
reads_at {table = table} e m = record {
  table = table;
  front = m.front;
  known = subst (λ (x : Code). x.names ≤ length table) (sym e) m.known;
  are = ap (λ (x : Code). expressions_by table x) (sym e);
}

-- a name is what it was
pub named : {c : Code} {names table : List (List ℕ)} (m : Made c names table) (number : ℕ) → IsTrue (nat_lt number c.names)
    → (number < length names) × (name_at names number ≡ name_at table number)
named {c = c} {names = names} {table = table} m number h =
    let r : Reads (expressions_by table c) c names = record { table = table; front = m.front; known = m.known; are = refl } in
    name_of r number h

pub second_named : {c : Code} {names table : List (List ℕ)} (m : Made c names table) (second : Option ℕ) → IsTrue (second_within c.names second)
    → IsTrue (second_within (length names) second) × (option_map (name_at names) second ≡ option_map (name_at table) second)
second_named m None h = (h, refl)
second_named {names = names} m (Some number) h = let p = named m number h in (is_less number (length names) p.0, ap Some p.1)

-- ---- statements

get_or-there : {A : Type 0} (xs : List A) (i : ℕ) (d e : A) → i < length xs → get_or xs i d ≡ get_or xs i e
get_or-there [] i d e l = absurd (omega arith)
get_or-there (x ∷ xs) zero d e l = refl
get_or-there (x ∷ xs) (suc i) d e l = get_or-there xs i d e (omega arith)

-- the statement with a number
pub node_is : (c : Code) (number : ℕ) (x node : StatementNode) → number < length c.statements.items → x ≡ get_or c.statements.items number x → x ≡ node → node_at c number ≡ node
node_is c number x node l at is = get_or-there c.statements.items number (flat.Break 0) x l ∙ sym at ∙ is

-- its tree has the trees of its parts
pub spelled : (table : List (List ℕ)) (c : Code) (number : ℕ) (x node : StatementNode) → number < length c.statements.items → x ≡ get_or c.statements.items number x → x ≡ node
    → statement_tree table (expressions_by table c) (statements_by table c) node ≡ statement_at (statements_by table c) number
spelled table c number x node l at is =
    let tree : StatementNode → StatementTree = λ y. statement_tree table (expressions_by table c) (statements_by table c) y in
    sym (statement_opens table (expressions_by table c) c.names (length c.nodes.items) c.statements.items number x c.placed l ∙ ap tree (sym at ∙ is))

-- and these are there
pub parts_of : (c : Code) (number : ℕ) (x node : StatementNode) → number < length c.statements.items → x ≡ get_or c.statements.items number x → x ≡ node
    → IsTrue (statement_within c.names (length c.nodes.items) number node)
parts_of c number x node l at is =
    subst (λ y. IsTrue (statement_within c.names (length c.nodes.items) number y)) (sym at ∙ is)
    (statement_parts_before c.names (length c.nodes.items) c.statements.items number x c.placed l)

-- ---- places

-- ---- the parts of an `if`

-- a part is a block of the statement
pub part_is : (into : List ℕ → Plan Flow) (few : Bool) (ts : List ExpressionTree) (ss : List StatementTree) (otherwise : List ℕ) (bs : List BranchNode) (k : ℕ)
    → part_done into few (branches (map (branch_at ts ss) bs)) (statements (map (statement_at ss) otherwise)) (Some k) ≡ do_all into few (statements (map (statement_at ss) (branch_or otherwise bs k)))
part_is into few ts ss otherwise [] k = refl
part_is into few ts ss otherwise (b ∷ bs) zero = refl
part_is into few ts ss otherwise (b ∷ bs) (suc k) = part_is into few ts ss otherwise bs k

-- the part of a branch that is there
pub part_there : (into : List ℕ → Plan Flow) (few : Bool) (ts : List ExpressionTree) (ss : List StatementTree) (otherwise : Statements) (bs : List BranchNode) (k : ℕ) (b : BranchNode) → k < length bs
    → part_done into few (branches (map (branch_at ts ss) bs)) otherwise (Some k) ≡ do_all into few (statements (map (statement_at ss) (get_or bs k b).body.items))
part_there into few ts ss otherwise [] k b l = absurd (omega arith)
part_there into few ts ss otherwise (x ∷ bs) zero b l = refl
part_there into few ts ss otherwise (x ∷ bs) (suc k) b l = part_there into few ts ss otherwise bs k b (omega arith)

-- the part behind all branches
pub part_behind : (into : List ℕ → Plan Flow) (few : Bool) (ts : List ExpressionTree) (ss : List StatementTree) (otherwise : Statements) (bs : List BranchNode) (k : ℕ) → length bs ≤ k
    → part_done into few (branches (map (branch_at ts ss) bs)) otherwise (Some k) ≡ do_all into few otherwise
part_behind into few ts ss otherwise [] k l = refl
part_behind into few ts ss otherwise (x ∷ bs) zero l = absurd (omega arith)
part_behind into few ts ss otherwise (x ∷ bs) (suc k) l = part_behind into few ts ss otherwise bs k (omega arith)

-- a name that was there is there, and is the same
pub name_kept : {old new : List (List ℕ)} (h : IsFront old new) (number : ℕ) → number < length old → (number < length new) × (name_at new number ≡ name_at old number)
name_kept {old = old} {new = new} h number l =
    let e : length new ≡ length old + length h.more = ap length h.is ∙ length-append old h.more in
    (omega (arith, l, e), ap (λ ns. name_at ns number) h.is ∙ at_front old h.more number [] l)

-- ---- rounds

pub round_is : (xs : List Round) (at : ℕ) (o : Option Declared) (r : Declared) → o ≡ Some r → RoundAt xs at o → drop at xs ≡ round_data r ∷ drop (at + 1) xs
round_is xs at o r is h = let P : Option Declared → Type 0 = λ p. RoundAt xs at p in subst P is h

pub round_none : (xs : List Round) (at : ℕ) (o : Option Declared) → o ≡ None → RoundAt xs at o → drop at xs ≡ []
round_none xs at o is h = let P : Option Declared → Type 0 = λ p. RoundAt xs at p in subst P is h

-- the variables of a round by the names as they were
pub bound_as : {c : Code} {names table : List (List ℕ)} (m : Made c names table) (line first : ℕ) (second : Option ℕ) (r : Round) → IsTrue (nat_lt first c.names) → IsTrue (second_within c.names second)
    → assignment_of_round line (name_at names first) (option_map (name_at names) second) r ≡ assignment_of_round line (name_at table first) (option_map (name_at table) second) r
bound_as {names = names} {table = table} m line first second r h k =
    ap (λ (n : List ℕ). assignment_of_round line n (option_map (name_at names) second) r) (named m first h).1
    ∙ ap (λ (o : Option (List ℕ)). assignment_of_round line (name_at table first) o r) (second_named m second k).1

-- the next branch
pub branch_next : (ts : List ExpressionTree) (ss : List StatementTree) (bs : List BranchNode) (i : ℕ) (b : BranchNode) → i < length bs → b ≡ get_or bs i b
    → branches (map (branch_at ts ss) (drop i bs)) ≡ MoreBranches (tree_at ts b.condition) b.line (statements (map (statement_at ss) b.body.items)) (branches (map (branch_at ts ss) (drop (i + 1) bs)))
branch_next ts ss bs i b l at = ap branches (next_is (branch_at ts ss) bs i b l at)

-- a condition that halts
pub chooses_halt : {A C : Type 0} {view : C → A} {files : Files} {left : Bounds} {whole : Plan Flow} {p : Plan A} {others : A → Plan Flow} {s0 s1 s2 : Stand} {halt : Halt} (part : Option ℕ → Plan Flow) (result : Result (Option ℕ) Halt)
    → IsErrAnd result (λ e. e ≡ halt) → Leads files whole s0 (next p others) s1 → Comes view files left p s1 (Err halt) s2 → Chooses files left whole s0 part result s2
chooses_halt part (Ok x) is l h = absurd is
chooses_halt {files = files} {left = left} {whole = whole} {p = p} {others = others} {s0 = s0} {s1 = s1} {s2 = s2} {halt = halt} part (Err e) is l h =
    subst (λ d. HaltsTo files left whole s0 d s2) (sym is) (halts_end files left whole (next p others) s0 s1 s2 halt l (halts_then files left p others s1 s2 halt h.comes))

-- a choice that stops
pub chooses_refused : {A C : Type 0} {view : C → A} {files : Files} (left : Bounds) {whole : Plan Flow} {p : Plan A} {others : A → Plan Flow} {s0 s1 s2 : Stand} {stop : Stop} (part : Option ℕ → Plan Flow) (result : Result (Option ℕ) Halt)
    → IsErrAnd result (λ e. e ≡ halts.Stops stop) → Leads files whole s0 (next p others) s1 → Given view files p s1 (Err stop) s2 → Chooses files left whole s0 part result s2
chooses_refused left part (Ok x) is l g = absurd is
chooses_refused {files = files} left {whole = whole} {s0 = s0} {s2 = s2} {stop = stop} part (Err e) is l g =
    subst (λ d. HaltsTo files left whole s0 d s2) (sym is) (leads_end l (given_stop {view' = λ (f : Flow). f} {result = Err stop} g refl))

pub drop_all : {A : Type 0} (xs : List A) (i : ℕ) → length xs ≤ i → drop i xs ≡ []
drop_all xs i le = drop_of_length-le xs le

-- ---- expressions alone

-- the tree of a node that is a call
pub call_at : (table : List (List ℕ)) (c : Code) (value : ℕ) (x : Node) (call : Box CallNode Global) (line : ℕ) → value < length c.nodes.items → x ≡ get_or c.nodes.items value x → x ≡ nodes.Call call line
    → tree_at (expressions_by table c) value ≡ FunctionTree call.value.name (arguments (map (argument_at (expressions_by table c)) call.value.arguments.items)) line
call_at table c value x call line l at is = node_opens table c.names c.nodes.items value x c.ordered l ∙ ap (tree_of table (expressions_by table c)) (sym at ∙ is)

stated_other : (into : List ℕ → Plan Flow) (table : List (List ℕ)) (ts : List ExpressionTree) (x : Node)
    → ((call : Box CallNode Global) (line : ℕ) → x ≡ nodes.Call call line → ⊥)
    → expression_statement into (tree_of table ts x) ≡ next (ruled (given_by into (tree_of table ts x))) (λ _. give Next)
stated_other into table ts (nodes.Name number line) h = refl
stated_other into table ts (nodes.Literal line node) h = refl
stated_other into table ts (nodes.List items line) h = refl
stated_other into table ts (nodes.Dictionary es line) h = refl
stated_other into table ts (nodes.Call call line) h = absurd (h call line refl)
stated_other into table ts (nodes.Postfix first ls line) h = refl
stated_other into table ts (nodes.Prefix prefix value line) h = refl
stated_other into table ts (nodes.Chain first others line) h = refl
stated_other into table ts (nodes.Ternary test one other line) h = refl

-- what is stated by a node that is none
pub stated_at : (into : List ℕ → Plan Flow) (table : List (List ℕ)) (c : Code) (value : ℕ) (x : Node) → value < length c.nodes.items → x ≡ get_or c.nodes.items value x
    → ((call : Box CallNode Global) (line : ℕ) → x ≡ nodes.Call call line → ⊥)
    → next (ruled (given_by into (tree_at (expressions_by table c) value))) (λ _. give Next) ≡ expression_statement into (tree_at (expressions_by table c) value)
stated_at into table c value x l at h =
    let e : tree_at (expressions_by table c) value ≡ tree_of table (expressions_by table c) x = node_opens table c.names c.nodes.items value x c.ordered l ∙ ap (tree_of table (expressions_by table c)) (sym at) in
    sym (ap (expression_statement into) e ∙ stated_other into table (expressions_by table c) x h ∙ ap (λ (t : ExpressionTree). next (ruled (given_by into t)) (λ _. give Next)) (sym e))

given_other : (into : List ℕ → Plan Flow) (table : List (List ℕ)) (ts : List ExpressionTree) (x : Node)
    → ((first : ℕ) (ls : Vec LinkNode Global) (line : ℕ) → x ≡ nodes.Postfix first ls line → ⊥)
    → next (value_of into (tree_of table ts x)) (λ d. give (Some d)) ≡ given_by into (tree_of table ts x)
given_other into table ts (nodes.Name number line) h = refl
given_other into table ts (nodes.Literal line node) h = refl
given_other into table ts (nodes.List items line) h = refl
given_other into table ts (nodes.Dictionary es line) h = refl
given_other into table ts (nodes.Call call line) h = refl
given_other into table ts (nodes.Postfix first ls line) h = absurd (h first ls line refl)
given_other into table ts (nodes.Prefix prefix value line) h = refl
given_other into table ts (nodes.Chain first others line) h = refl
given_other into table ts (nodes.Ternary test one other line) h = refl

-- what a node gives that asks nothing of a value
pub given_at : (into : List ℕ → Plan Flow) {ts : List ExpressionTree} {c : Code} {names : List (List ℕ)} (r : Reads ts c names) (value : ℕ) (x : Node) → value < length c.nodes.items → x ≡ get_or c.nodes.items value x
    → ((first : ℕ) (ls : Vec LinkNode Global) (line : ℕ) → x ≡ nodes.Postfix first ls line → ⊥)
    → next (value_of into (tree_at ts value)) (λ d. give (Some d)) ≡ given_by into (tree_at ts value)
given_at into {ts = ts} r value x l at h =
    let e : tree_at ts value ≡ tree_of r.table ts x = opened r value x x l at refl in
    ap (λ (t : ExpressionTree). next (value_of into t) (λ d. give (Some d))) e ∙ given_other into r.table ts x h ∙ ap (given_by into) (sym e)

-- the conditions of branches are there
pub branches_reach : (m n : ℕ) (bs : List BranchNode) → IsTrue (list_all (branch_within m n) bs) → above above_branch bs ≤ m
branches_reach m n [] h = omega arith
branches_reach m n (b ∷ bs) h =
    let p = both_true (branch_within m n b) (list_all (branch_within m n) bs) h in
    let q = both_true (nat_lt b.condition m) (list_all (λ i. nat_lt i n) b.body.items) p.0 in
    let a : b.condition < m = less b.condition m q.0 in
    let r : above above_branch bs ≤ m = branches_reach m n bs p.1 in
    omega arith

use Rattle.std.proofs.Common.{ℕ, List, length, ap, refl, ◌∙◌}
use Rattle.std.specs.Prelude.{nat_lt}
use Rattle.code.specs.Nodes.{tree_at}
use Rattle.code.specs.declared.node.StatementNode.TheVariants as flat
use Rattle.code.proofs.Trees.{both_true, less}
use Rattle.values.specs.Data.{Data}
use Rattle.syntax.specs.Tree.{StatementTree}
use Rattle.world.specs.Plan.{give, next, ruled}
use Rattle.expressions.specs.Assignments.{plus_assignment, variable_assignment, own}
use Rattle.expressions.specs.Codes.{expressions_by}
use Rattle.interp.specs.Expressions.{value_of}
use Rattle.interp.specs.Folders.{folder}
use Rattle.interp.specs.Statements.{does}
use Rattle.interp.specs.declared.flow.Flow.{Flow}
use Rattle.interp.specs.declared.flow.Flow.TheVariants as flows
use Rattle.interp.proofs.Coming.{comes_as, comes_same}
use Rattle.expressions.proofs.Evaluating.{given_as, given_give}
use Rattle.interp.proofs.Spelling.{named, parts_of, reads_at, spelled}
use Rattle.interp.proofs.evaluator.Evaluator.do_simple_statement.Goals as goal

pub assign_value-requires-clause-here : goal.assign_value-requires-clause-here
assign_value-requires-clause-here g c =
    let code = c.args.code.now in
    let node = flat.Assign c.in-Assign.name c.in-Assign.line c.in-Assign.value in
    let parts = parts_of code c.args.number c.index.result.now node c.requires.there c.index.ensures c.in-Assign.is in
    let m = length code.nodes.items in
    less c.in-Assign.value m (both_true (nat_lt c.in-Assign.name code.names) (nat_lt c.in-Assign.value m) parts).1

pub append_value-requires-clause-here : goal.append_value-requires-clause-here
append_value-requires-clause-here g c =
    let code = c.args.code.now in
    let node = flat.Append c.in-Append.name c.in-Append.line c.in-Append.value in
    let parts = parts_of code c.args.number c.index.result.now node c.requires.there c.index.ensures c.in-Append.is in
    let m = length code.nodes.items in
    less c.in-Append.value m (both_true (nat_lt c.in-Append.name code.names) (nat_lt c.in-Append.value m) parts).1

pub returns-in_err-assign_value-in-Assign-clause-gives : goal.returns-in_err-assign_value-in-Assign-clause-gives
returns-in_err-assign_value-in-Assign-clause-gives g c = λ files left table hold made.
    let code = c.args.code.now in
    let node = flat.Assign c.in-Assign.name c.in-Assign.line c.in-Assign.value in
    let tree = spelled table code c.args.number c.index.result.now node c.requires.there c.index.ensures c.in-Assign.is in
    let plan = ap (λ (t : StatementTree). does (folder left) left.few t) tree in
    let parts = parts_of code c.args.number c.index.result.now node c.requires.there c.index.ensures c.in-Assign.is in
    let m = length code.nodes.items in
    let name = named made c.in-Assign.name (both_true (nat_lt c.in-Assign.name code.names) (nat_lt c.in-Assign.value m) parts).0 in
    let same = ap (λ (n : List ℕ). next (ruled (value_of (folder left) (tree_at (expressions_by table code) c.in-Assign.value))) (λ (d : Data). next (own d) (λ (e : Data). next (variable_assignment c.in-Assign.line n e) (λ _. give flows.Next)))) name.1 in
    comes_same {view = λ (f : Flow). f} (comes_as (same ∙ plan) (c.in_err-assign_value-in-Assign.ensures.gives name.0 files left (expressions_by table code) hold (reads_at refl made)))
    c.from_residual.ensures.1

pub returns-in_ok-assign_value-in-Assign-clause-gives : goal.returns-in_ok-assign_value-in-Assign-clause-gives
returns-in_ok-assign_value-in-Assign-clause-gives g c = λ files left table hold made.
    let code = c.args.code.now in
    let node = flat.Assign c.in-Assign.name c.in-Assign.line c.in-Assign.value in
    let tree = spelled table code c.args.number c.index.result.now node c.requires.there c.index.ensures c.in-Assign.is in
    let plan = ap (λ (t : StatementTree). does (folder left) left.few t) tree in
    let parts = parts_of code c.args.number c.index.result.now node c.requires.there c.index.ensures c.in-Assign.is in
    let m = length code.nodes.items in
    let name = named made c.in-Assign.name (both_true (nat_lt c.in-Assign.name code.names) (nat_lt c.in-Assign.value m) parts).0 in
    let same = ap (λ (n : List ℕ). next (ruled (value_of (folder left) (tree_at (expressions_by table code) c.in-Assign.value))) (λ (d : Data). next (own d) (λ (e : Data). next (variable_assignment c.in-Assign.line n e) (λ _. give flows.Next)))) name.1 in
    record { comes = given_as (same ∙ plan) (c.in_ok-assign_value-in-Assign.ensures.gives name.0 files left (expressions_by table code) hold (reads_at refl made)).comes }

pub returns-in_err-append_value-in-Append-clause-gives : goal.returns-in_err-append_value-in-Append-clause-gives
returns-in_err-append_value-in-Append-clause-gives g c = λ files left table hold made.
    let code = c.args.code.now in
    let node = flat.Append c.in-Append.name c.in-Append.line c.in-Append.value in
    let tree = spelled table code c.args.number c.index.result.now node c.requires.there c.index.ensures c.in-Append.is in
    let plan = ap (λ (t : StatementTree). does (folder left) left.few t) tree in
    let parts = parts_of code c.args.number c.index.result.now node c.requires.there c.index.ensures c.in-Append.is in
    let m = length code.nodes.items in
    let name = named made c.in-Append.name (both_true (nat_lt c.in-Append.name code.names) (nat_lt c.in-Append.value m) parts).0 in
    let same = ap (λ (n : List ℕ). next (plus_assignment c.in-Append.line n (ruled (value_of (folder left) (tree_at (expressions_by table code) c.in-Append.value)))) (λ _. give flows.Next)) name.1 in
    comes_same {view = λ (f : Flow). f} (comes_as (same ∙ plan) (c.in_err-append_value-in-Append.ensures.gives name.0 files left (expressions_by table code) hold (reads_at refl made)))
    c.from_residual-in_err-append_value-in-Append.ensures.1

pub returns-in_ok-append_value-in-Append-clause-gives : goal.returns-in_ok-append_value-in-Append-clause-gives
returns-in_ok-append_value-in-Append-clause-gives g c = λ files left table hold made.
    let code = c.args.code.now in
    let node = flat.Append c.in-Append.name c.in-Append.line c.in-Append.value in
    let tree = spelled table code c.args.number c.index.result.now node c.requires.there c.index.ensures c.in-Append.is in
    let plan = ap (λ (t : StatementTree). does (folder left) left.few t) tree in
    let parts = parts_of code c.args.number c.index.result.now node c.requires.there c.index.ensures c.in-Append.is in
    let m = length code.nodes.items in
    let name = named made c.in-Append.name (both_true (nat_lt c.in-Append.name code.names) (nat_lt c.in-Append.value m) parts).0 in
    let same = ap (λ (n : List ℕ). next (plus_assignment c.in-Append.line n (ruled (value_of (folder left) (tree_at (expressions_by table code) c.in-Append.value)))) (λ _. give flows.Next)) name.1 in
    record { comes = given_as (same ∙ plan) (c.in_ok-append_value-in-Append.ensures.gives name.0 files left (expressions_by table code) hold (reads_at refl made)).comes }

pub returns-in-Break-clause-gives : goal.returns-in-Break-clause-gives
returns-in-Break-clause-gives g c = λ files left table hold made.
    let code = c.args.code.now in
    let node = flat.Break c.in-Break.line in
    let tree = spelled table code c.args.number c.index.result.now node c.requires.there c.index.ensures c.in-Break.is in
    let plan = ap (λ (t : StatementTree). does (folder left) left.few t) tree in
    record { comes = given_as plan (given_give hold refl) }

pub returns-in-Continue-clause-gives : goal.returns-in-Continue-clause-gives
returns-in-Continue-clause-gives g c = λ files left table hold made.
    let code = c.args.code.now in
    let node = flat.Continue c.in-Continue.line in
    let tree = spelled table code c.args.number c.index.result.now node c.requires.there c.index.ensures c.in-Continue.is in
    let plan = ap (λ (t : StatementTree). does (folder left) left.few t) tree in
    record { comes = given_as plan (given_give hold refl) }

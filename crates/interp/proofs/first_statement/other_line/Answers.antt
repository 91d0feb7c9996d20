use Rattle.std.proofs.Common.{◌<◌, length, Some, ap, sym, ◌∙◌, arith, rules}
use Rattle.std.proofs.lemmas.Grind.{common_steps}
use Rattle.code.specs.declared.node.ForeachNode.{ForeachNode}
use Rattle.code.specs.declared.node.IfNode.{IfNode}
use Rattle.code.specs.declared.node.StatementNode.TheVariants as flat
use Rattle.interp.specs.FirstStatement.{line_unless, other_line}
use Rattle.expressions.specs.Codes.{expressions_by}
use Rattle.interp.proofs.Starting.{statement_is, value_line, value_there}
use Rattle.interp.proofs.first_statement.other_line.Goals as goal

pub index-requires-in-Expression : goal.index-requires-in-Expression
index-requires-in-Expression c =
    let there : c.in-Expression.value < length c.args.code.now.nodes.items =
    value_there c.args.code.now c.args.number c.index.result.now c.in-Expression.value c.in-Expression.line c.requires c.index.ensures c.in-Expression.is in
    first_of (search rules, grind (arith, common_steps))

pub returns-then-is_project : goal.returns-then-is_project
returns-then-is_project c = λ names.
    let there = value_there c.args.code.now c.args.number c.index.result.now c.in-Expression.value c.in-Expression.line c.requires c.index.ensures c.in-Expression.is in
    sym (ap (line_unless c.in-Expression.line) c.if-is_project.true)
    ∙ value_line names c.args.code.now c.in-Expression.value c.in-Expression.line c.index-in-Expression.result.now c.is_project.result there c.index-in-Expression.ensures
    (c.is_project.ensures names (expressions_by names c.args.code.now))
    ∙ sym (ap other_line (statement_is names c.args.code.now c.args.number c.index.result.now (flat.Expression c.in-Expression.value c.in-Expression.line) c.requires c.index.ensures c.in-Expression.is))

pub returns-else-is_project : goal.returns-else-is_project
returns-else-is_project c = λ names.
    let there = value_there c.args.code.now c.args.number c.index.result.now c.in-Expression.value c.in-Expression.line c.requires c.index.ensures c.in-Expression.is in
    sym (ap (line_unless c.in-Expression.line) c.if-is_project.false)
    ∙ value_line names c.args.code.now c.in-Expression.value c.in-Expression.line c.index-in-Expression.result.now c.is_project.result there c.index-in-Expression.ensures
    (c.is_project.ensures names (expressions_by names c.args.code.now))
    ∙ sym (ap other_line (statement_is names c.args.code.now c.args.number c.index.result.now (flat.Expression c.in-Expression.value c.in-Expression.line) c.requires c.index.ensures c.in-Expression.is))

pub returns-in-Assign : goal.returns-in-Assign
returns-in-Assign c = λ names. sym (ap other_line (statement_is names c.args.code.now c.args.number c.index.result.now (flat.Assign c.in-Assign.name c.in-Assign.line c.in-Assign.value) c.requires c.index.ensures c.in-Assign.is))

pub returns-in-Append : goal.returns-in-Append
returns-in-Append c = λ names. sym (ap other_line (statement_is names c.args.code.now c.args.number c.index.result.now (flat.Append c.in-Append.name c.in-Append.line c.in-Append.value) c.requires c.index.ensures c.in-Append.is))

pub returns-in-Break : goal.returns-in-Break
returns-in-Break c = λ names. sym (ap other_line (statement_is names c.args.code.now c.args.number c.index.result.now (flat.Break c.in-Break.line) c.requires c.index.ensures c.in-Break.is))

pub returns-in-Continue : goal.returns-in-Continue
returns-in-Continue c = λ names. sym (ap other_line (statement_is names c.args.code.now c.args.number c.index.result.now (flat.Continue c.in-Continue.line) c.requires c.index.ensures c.in-Continue.is))

pub returns-in-If : goal.returns-in-If
returns-in-If c = λ names. ap (λ (x : IfNode). Some x.line) c.deref.ensures ∙ sym (ap other_line (statement_is names c.args.code.now c.args.number c.index.result.now (flat.If c.in-If.node) c.requires c.index.ensures c.in-If.is))

pub returns-in-Foreach : goal.returns-in-Foreach
returns-in-Foreach c = λ names. ap (λ (x : ForeachNode). Some x.line) c.deref-in-Foreach.ensures ∙ sym (ap other_line (statement_is names c.args.code.now c.args.number c.index.result.now (flat.Foreach c.in-Foreach.node) c.requires c.index.ensures c.in-Foreach.is))

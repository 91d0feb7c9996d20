use Rattle.std.proofs.Common.{map, nat_lt, length, refl, option_map, ◌∙◌}
use Rattle.std.specs.List.{list_all}
use Rattle.syntax.specs.ExpressionTree.{expression_of}
use Rattle.syntax.specs.Tree.{ForeachTree, statements}
use Rattle.code.specs.declared.node.StatementNode.TheVariants as flat
use Rattle.code.specs.Nodes.{tree_at}
use Rattle.code.specs.Draft.{trees_in}
use Rattle.code.specs.Statements.{name_at, statement_at, statement_tree, second_within}
use Rattle.code.specs.FileDraft.{AreStatements, statements_in}
use Rattle.code.proofs.Parts.{stands_more}
use Rattle.code.proofs.Placed.{extends_trans, are_more, and_three, each_is, each_within, foreach_made, statement_as}
use Rattle.code.proofs.file_draft.FileDraft.foreach.Goals as goal

pub push-requires : goal.push-requires
push-requires c =
    let old = c.args.self.now in
    let mid = c.expression.new.self in
    let new = c.loop_names.new.self in
    let whole = extends_trans old mid new c.expression.ensures.extends c.loop_names.ensures.extends in
    let list = stands_more (trees_in mid.draft) (trees_in new.draft) c.in_ok-list.list (expression_of c.args.list.now)
    c.loop_names.ensures.extends.draft.trees c.in_ok-list.ensures.stands in
    let body : AreStatements new c.args.body.items (map (statement_at (statements_in old)) c.args.body.items) =
    are_more old new c.args.body.items (map (statement_at (statements_in old)) c.args.body.items) whole record
    { within = c.requires; are = refl } in
    each_within (length new.draft.names) (length (trees_in new.draft)) (length (statements_in new)) c.in_ok-node.node _ c.in_ok-node.ensures.ok
    (and_three (nat_lt c.in_ok-first.first (length new.draft.names)) (second_within (length new.draft.names) c.in_ok-first.second)
    (nat_lt c.in_ok-list.list (length (trees_in new.draft)))
    (list_all (λ i. nat_lt i (length (statements_in new))) c.args.body.items) c.in_ok-first.ensures.within
    c.in_ok-first.ensures.second_within list.within body.within)

pub returns-clause-is : goal.returns-clause-is
returns-clause-is c =
    let old = c.args.self.now in
    let mid = c.expression.new.self in
    let new = c.loop_names.new.self in
    let whole = extends_trans old mid new c.expression.ensures.extends c.loop_names.ensures.extends in
    let list = stands_more (trees_in mid.draft) (trees_in new.draft) c.in_ok-list.list (expression_of c.args.list.now)
    c.loop_names.ensures.extends.draft.trees c.in_ok-list.ensures.stands in
    let body : AreStatements new c.args.body.items (map (statement_at (statements_in old)) c.args.body.items) =
    are_more old new c.args.body.items (map (statement_at (statements_in old)) c.args.body.items) whole record
    { within = c.requires; are = refl } in
    statement_as c.push.result c.push.new.self
    (statement_tree new.draft.names (trees_in new.draft) (statements_in new)
    (flat.Foreach c.in_ok-node.node))
    (ForeachTree c.args.line c.args.first.now (option_map (λ n. n.now) c.args.second) (expression_of c.args.list.now) c.args.list_line
    (statements (map (statement_at (statements_in old)) c.args.body.items)))
    c.push.ensures.is
    (each_is new.draft.names (trees_in new.draft) (statements_in new) c.in_ok-node.node _ c.in_ok-node.ensures.ok
    ∙ foreach_made c.args.line c.args.list_line (name_at new.draft.names c.in_ok-first.first) c.args.first.now
    (option_map (name_at new.draft.names) c.in_ok-first.second) (option_map (λ n. n.now) c.args.second)
    (tree_at (trees_in new.draft) c.in_ok-list.list) (expression_of c.args.list.now)
    (map (statement_at (statements_in new)) c.args.body.items) (map (statement_at (statements_in old)) c.args.body.items)
    c.in_ok-first.ensures.is c.in_ok-first.ensures.second_is list.is body.are)

pub returns-in_err-list-clause-extends : goal.returns-in_err-list-clause-extends
returns-in_err-list-clause-extends c = c.expression.ensures.extends

pub returns-in_err-first-clause-extends : goal.returns-in_err-first-clause-extends
returns-in_err-first-clause-extends c =
    extends_trans c.args.self.now c.expression.new.self c.loop_names.new.self c.expression.ensures.extends c.loop_names.ensures.extends

pub returns-in_err-node-clause-extends : goal.returns-in_err-node-clause-extends
returns-in_err-node-clause-extends c =
    extends_trans c.args.self.now c.expression.new.self c.loop_names.new.self c.expression.ensures.extends c.loop_names.ensures.extends

pub returns-clause-extends : goal.returns-clause-extends
returns-clause-extends c =
    extends_trans c.args.self.now c.loop_names.new.self c.push.new.self
    (extends_trans c.args.self.now c.expression.new.self c.loop_names.new.self c.expression.ensures.extends c.loop_names.ensures.extends)
    c.push.ensures.extends

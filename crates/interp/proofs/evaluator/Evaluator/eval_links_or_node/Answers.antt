use Rattle.std.proofs.Common.{◌≤◌, suc, max, List, length, map, Some, sym, ap, subst, refl, arith}
use Rattle.code.specs.Nodes.{link_at, link_within, tree_at}
use Rattle.code.specs.declared.node.LinkNode.{LinkNode}
use Rattle.code.specs.declared.node.Node.TheVariants as nodes
use Rattle.syntax.specs.ExpressionTree.{links}
use Rattle.interp.specs.Expressions.{given_by, links_of, value_of}
use Rattle.world.specs.Plan.{next, ruled}
use Rattle.interp.specs.Parts.{above, above_link}
use Rattle.interp.specs.Folders.{folder}
use Rattle.interp.proofs.Coming.{comes_as, comes_given, comes_halt}
use Rattle.expressions.proofs.Evaluating.{given_as, given_give, given_then}
use Rattle.interp.proofs.Reading.{first_reach, links_reach, opened, parts_at}
use Rattle.interp.proofs.Spelling.{given_at}
use Rattle.interp.proofs.evaluator.Evaluator.eval_links_or_node.Goals as goal

pub ask_links-requires-clause-here : goal.ask_links-requires-clause-here
ask_links-requires-clause-here g c =
    let reach : max (suc c.in-Postfix.first) (above above_link c.in-Postfix.links.items) ≤ c.args.value =
    first_reach c.args.value c.in-Postfix.first above_link c.in-Postfix.links.items (link_within c.args.value) (links_reach c.args.value c.in-Postfix.links.items)
    (parts_at c.args.code.now c.args.value c.index.result.now (nodes.Postfix c.in-Postfix.first c.in-Postfix.links c.in-Postfix.line) c.requires.here c.index.ensures c.in-Postfix.is) in
    let near : max (suc c.in-Postfix.first) (above above_link c.in-Postfix.links.items) ≤ length c.args.code.now.nodes.items = omega (arith, reach, c.requires.here) in
    subst (λ (xs : List LinkNode). max (suc c.in-Postfix.first) (above above_link xs) ≤ length c.args.code.now.nodes.items) (sym c.deref.ensures.value) near

pub returns-in-Postfix-clause-gives : goal.returns-in-Postfix-clause-gives
returns-in-Postfix-clause-gives g c = λ files left ts hold reads.
    comes_as (ap (given_by (folder left)) (sym (opened reads c.args.value c.index.result.now (nodes.Postfix c.in-Postfix.first c.in-Postfix.links c.in-Postfix.line) c.requires.here c.index.ensures c.in-Postfix.is)))
    (comes_as (ap (λ (xs : List LinkNode). next (ruled (value_of (folder left) (tree_at ts c.in-Postfix.first))) (λ d. links_of (folder left) c.in-Postfix.line (Some d) (links (map (link_at ts) xs)))) c.deref.ensures.value)
    (c.ask_links.ensures.gives files left ts hold reads))

pub returns-in_err-eval_node-clause-gives : goal.returns-in_err-eval_node-clause-gives
returns-in_err-eval_node-clause-gives g c = λ files left ts hold reads.
    comes_as (given_at (folder left) reads c.args.value c.index.result.now c.requires.here c.index.ensures c.in_default.not-Postfix)
    (comes_halt (c.in_err-eval_node.ensures.gives files left ts hold reads) c.from_residual.ensures.1)

pub returns-in_ok-eval_node-clause-gives : goal.returns-in_ok-eval_node-clause-gives
returns-in_ok-eval_node-clause-gives g c = λ files left ts hold reads.
    let eval_node = (c.in_ok-eval_node.ensures.gives files left ts hold reads).comes in
    comes_given (given_as (given_at (folder left) reads c.args.value c.index.result.now c.requires.here c.index.ensures c.in_default.not-Postfix)
    (given_then eval_node (given_give eval_node.holds refl)))

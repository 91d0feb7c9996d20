use Rattle.std.proofs.Common.{◌≡◌, suc, ◌+◌, ◌*◌, max, List, Some, drop, map, option_map}
use Rattle.syntax.specs.ExpressionTree.{ExpressionTree, ListTree, DictionaryTree, ChainTree, expressions, entries, arguments, links}
use Rattle.syntax.specs.ExpressionTree.{operands}
use Rattle.code.specs.Nodes.{tree_at, entry_at, argument_at, operand_at, link_at}
use Rattle.values.specs.View.{data_of, items_of}
use Rattle.operations.specs.operators.Literal.{pairs_of}
use Rattle.arguments.specs.Arguments.{arguments_data, no_arguments}
use Rattle.world.specs.Deed.{Files}
use Rattle.world.specs.Gives.{Holds}
use Rattle.world.specs.Plan.{next, ruled}
use Rattle.expressions.specs.Contexts.{Leads, Same, stand_of}
use Rattle.interp.specs.Bounds.{Bounds}
use Rattle.interp.specs.Evaluates.{Reads}
use Rattle.interp.specs.Expressions.{value_of, values_of, entries_of, arguments_of, links_of, chain_of}
use Rattle.expressions.specs.Forms.{list_value, dictionary_value}
use Rattle.interp.specs.Folders.{folder}
use Rattle.interp.specs.Parts.{above, above_number, above_entry, above_argument, above_operand, above_link}
use Rattle.interp.proofs.evaluator.Evaluator.+eval.Given as goal

-- A node is above its parts, and the parts of a form are no higher than the form. Beside that each function has a rank.

abbrev pub decreases-eval : goal.decreases-eval
decreases-eval g l = 8 * l.node + 7

abbrev pub decreases-eval_node : goal.decreases-eval_node
decreases-eval_node g l = 8 * l.node + 6

abbrev pub decreases-eval_parts : goal.decreases-eval_parts
decreases-eval_parts g l = 8 * l.node + 5

abbrev pub decreases-eval_other : goal.decreases-eval_other
decreases-eval_other g l = 8 * l.node + 4

abbrev pub decreases-list : goal.decreases-list
decreases-list g l = 8 * above above_number l.items.now + 3

abbrev pub decreases-dictionary : goal.decreases-dictionary
decreases-dictionary g l = 8 * above above_entry l.entries.now + 3

abbrev pub decreases-arguments : goal.decreases-arguments
decreases-arguments g l = 8 * above above_argument l.arguments.now

abbrev pub decreases-ask_links : goal.decreases-ask_links
decreases-ask_links g l = 8 * max (suc l.first) (above above_link l.links.now) + 4

abbrev pub decreases-link : goal.decreases-link
decreases-link g l = 8 * above_link l.link.now + 2

abbrev pub decreases-chain : goal.decreases-chain
decreases-chain g l = 8 * max (suc l.first) (above above_operand l.others.now) + 4

-- ---- loops: what was done, and the rest, are all

abbrev pub invariant-list-loop-item : goal.invariant-list-loop-item
invariant-list-loop-item g l =
    let see = g.T.Tree.seen in
    let heard = g.O.Outputs.seen in
    record {
      same : Same l.fn.self.context l.self.context;
      tree : (see l.self.context.tree.now).failures ≡ (see l.fn.self.context.tree.now).failures;
      out : (heard l.self.context.out.now).failures ≡ (heard l.fn.self.context.out.now).failures;
      done : (files : Files) (left : Bounds) (ts : List ExpressionTree) → Holds (see l.fn.self.context.tree.now) files → Reads ts l.code l.fn.self.context.store.now.names
          → Leads files (value_of (folder left) (ListTree (expressions (map (tree_at ts) l.fn.items)) l.fn.line)) (stand_of see heard l.fn.self.context)
          (next (values_of (folder left) (items_of l.values.items) (expressions (map (tree_at ts) (drop l.item-index l.items)))) (list_value l.line)) (stand_of see heard l.self.context);
    }

abbrev pub invariant-dictionary-loop-entry : goal.invariant-dictionary-loop-entry
invariant-dictionary-loop-entry g l =
    let see = g.T.Tree.seen in
    let heard = g.O.Outputs.seen in
    record {
      same : Same l.fn.self.context l.self.context;
      tree : (see l.self.context.tree.now).failures ≡ (see l.fn.self.context.tree.now).failures;
      out : (heard l.self.context.out.now).failures ≡ (heard l.fn.self.context.out.now).failures;
      done : (files : Files) (left : Bounds) (ts : List ExpressionTree) → Holds (see l.fn.self.context.tree.now) files → Reads ts l.code l.fn.self.context.store.now.names
          → Leads files (value_of (folder left) (DictionaryTree (entries (map (entry_at ts) l.fn.entries)) l.fn.line)) (stand_of see heard l.fn.self.context)
          (next (entries_of (folder left) (pairs_of l.pairs.items) (entries (map (entry_at ts) (drop l.entry-index l.entries)))) (dictionary_value l.line)) (stand_of see heard l.self.context);
    }

abbrev pub invariant-arguments-loop-argument : goal.invariant-arguments-loop-argument
invariant-arguments-loop-argument g l =
    let see = g.T.Tree.seen in
    let heard = g.O.Outputs.seen in
    record {
      same : Same l.fn.self.context l.self.context;
      tree : (see l.self.context.tree.now).failures ≡ (see l.fn.self.context.tree.now).failures;
      out : (heard l.self.context.out.now).failures ≡ (heard l.fn.self.context.out.now).failures;
      done : (files : Files) (left : Bounds) (ts : List ExpressionTree) → Holds (see l.fn.self.context.tree.now) files → Reads ts l.code l.fn.self.context.store.now.names
          → Leads files (arguments_of (folder left) no_arguments (arguments (map (argument_at ts) l.fn.arguments))) (stand_of see heard l.fn.self.context) (arguments_of (folder left) (arguments_data l.evaluated) (arguments (map (argument_at ts) (drop l.argument-index l.arguments)))) (stand_of see heard l.self.context);
    }

abbrev pub invariant-ask_links-loop-link : goal.invariant-ask_links-loop-link
invariant-ask_links-loop-link g l =
    let see = g.T.Tree.seen in
    let heard = g.O.Outputs.seen in
    record {
      same : Same l.fn.self.context l.self.context;
      tree : (see l.self.context.tree.now).failures ≡ (see l.fn.self.context.tree.now).failures;
      out : (heard l.self.context.out.now).failures ≡ (heard l.fn.self.context.out.now).failures;
      done : (files : Files) (left : Bounds) (ts : List ExpressionTree) → Holds (see l.fn.self.context.tree.now) files → Reads ts l.code l.fn.self.context.store.now.names
          → Leads files (next (ruled (value_of (folder left) (tree_at ts l.fn.first))) (λ d. links_of (folder left) l.fn.line (Some d) (links (map (link_at ts) l.fn.links)))) (stand_of see heard l.fn.self.context) (links_of (folder left) l.line (option_map data_of l.given) (links (map (link_at ts) (drop l.link-index l.links)))) (stand_of see heard l.self.context);
    }

abbrev pub invariant-chain-loop-operand : goal.invariant-chain-loop-operand
invariant-chain-loop-operand g l =
    let see = g.T.Tree.seen in
    let heard = g.O.Outputs.seen in
    record {
      same : Same l.fn.self.context l.self.context;
      tree : (see l.self.context.tree.now).failures ≡ (see l.fn.self.context.tree.now).failures;
      out : (heard l.self.context.out.now).failures ≡ (heard l.fn.self.context.out.now).failures;
      done : (files : Files) (left : Bounds) (ts : List ExpressionTree) → Holds (see l.fn.self.context.tree.now) files → Reads ts l.code l.fn.self.context.store.now.names
          → Leads files (value_of (folder left) (ChainTree (tree_at ts l.fn.first) (operands (map (operand_at ts) l.fn.others)) l.fn.line)) (stand_of see heard l.fn.self.context) (chain_of (folder left) l.line (data_of l.value) (operands (map (operand_at ts) (drop l.operand-index l.others)))) (stand_of see heard l.self.context);
    }

use Rattle.std.proofs.Common.{ℕ, suc, ◌+◌, ◌≤◌, max, Bool, List, [], ◌∷◌, drop, map, get_or, Option, Err, Some, option_map, refl, sym, ap}
use Rattle.std.proofs.Common.{◌∙◌, arith, rules}
use Rattle.syntax.specs.ExpressionTree.{ListTree, DictionaryTree, FunctionTree, PostfixTree, ChainTree, expressions, entries, arguments}
use Rattle.syntax.specs.ExpressionTree.{links, operands}
use Rattle.syntax.specs.declared.tree.Operator.TheVariants as flatop
use Rattle.code.specs.declared.node.Node.TheVariants as flat
use Rattle.code.specs.declared.node.EntryNode.{EntryNode}
use Rattle.code.specs.declared.node.ArgumentNode.{ArgumentNode}
use Rattle.code.specs.declared.node.CallNode.{CallNode}
use Rattle.code.specs.declared.node.OperandNode.{OperandNode}
use Rattle.code.specs.declared.node.LinkNode.{LinkNode}
use Rattle.code.specs.Nodes.{tree_at, entry_at, argument_at, operand_at, link_at, operand_within, link_within}
use Rattle.values.specs.Data.{Data, Items, is_disabler}
use Rattle.values.specs.View.{data_of, items_of}
use Rattle.values.proofs.ItemsLemmas.{items_of-append}
use Rattle.operations.specs.operators.Literal.{pairs_of}
use Rattle.arguments.specs.Arguments.{arguments_data, no_arguments}
use Rattle.world.specs.Plan.{ruled, next}
use Rattle.interp.specs.Expressions.{arguments_of, chain_of, entries_of, link_of, links_of, method_of, value_of, values_of}
use Rattle.operations.specs.declared.operators.logic.Left.{Left}
use Rattle.expressions.specs.Forms.{ternary_value, operator_value, list_value, dictionary_value, unless_decided, variable}
use Rattle.expressions.specs.declared.meaning.InfixOperator.{InfixOperator}
use Rattle.interp.specs.Operations.{left_view}
use Rattle.interp.specs.declared.halt.Halt.TheVariants as halts
use Rattle.interp.specs.Parts.{above, above_number, above_entry, above_argument, above_operand, above_link}
use Rattle.interp.specs.Folders.{folder}
use Rattle.interp.proofs.Coming.{comes_as, comes_end, comes_given, comes_halt, comes_halt_inside, comes_last, comes_none, comes_rule}
use Rattle.interp.proofs.Coming.{comes_same, comes_stop, comes_then}
use Rattle.expressions.proofs.Evaluating.{given_as, given_give, given_then, leads_as, leads_end, leads_inside, leads_on, leads_start}
use Rattle.expressions.proofs.Evaluating.{next_is, next_item, no_item}
use Rattle.interp.proofs.Pairs.{pairs_of-push}
use Rattle.interp.proofs.Reading.{reads_on, opened, parts_at, name_of, number_reach, first_reach, three_reach, numbers_reach, entries_reach}
use Rattle.interp.proofs.Reading.{arguments_reach, operands_reach, links_reach}
use Rattle.interp.proofs.evaluator.Evaluator.+eval.Goals as goal

pub eval-returns-clause-gives : goal.eval-returns-clause-gives
eval-returns-clause-gives g t c = λ files left ts hold reads. comes_rule c.eval_node-answer.result c.end_rule_inside.new.answer c.end_rule_inside.ensures.ends (c.eval_node-answer.ensures.gives files left ts hold reads)

pub arguments-loop-argument-init : goal.arguments-loop-argument-init
arguments-loop-argument-init g t c = record { same = (refl, (refl, (refl, refl))); tree = refl; out = refl; done = λ files left ts hold reads. rw c.clear.ensures (leads_start hold) }

pub arguments-returns-in_err-value-clause-gives : goal.arguments-returns-in_err-value-clause-gives
arguments-returns-in_err-value-clause-gives g t c = λ files left ts hold reads. comes_end (leads_as (ap (λ ys. arguments_of (folder left) (arguments_data c.loop-argument.evaluated) (arguments ys)) (next_is (argument_at ts) c.args.arguments.now c.loop-argument.argument-index c.argument-item.result c.loop-argument-test.true c.argument-item.is)) (c.loop-argument.invariant.done files left ts hold reads)) (comes_halt (c.in_err-value.ensures.gives files left ts (c.loop-argument.invariant.done files left ts hold reads).holds (reads_on reads (c.loop-argument.invariant.done files left ts hold reads).continues.written.names)) c.from_residual.ensures.1)

pub arguments-returns-in_err-add_argument-clause-gives : goal.arguments-returns-in_err-add_argument-clause-gives
arguments-returns-in_err-add_argument-clause-gives g t c = λ files left ts hold reads. comes_end (leads_on (leads_as (ap (λ ys. arguments_of (folder left) (arguments_data c.loop-argument.evaluated) (arguments ys)) (next_is (argument_at ts) c.args.arguments.now c.loop-argument.argument-index c.argument-item.result c.loop-argument-test.true c.argument-item.is)) (c.loop-argument.invariant.done files left ts hold reads)) (c.in_ok-value.ensures.gives files left ts (c.loop-argument.invariant.done files left ts hold reads).holds (reads_on reads (c.loop-argument.invariant.done files left ts hold reads).continues.written.names)).comes) (comes_none (leads_on (leads_as (ap (λ ys. arguments_of (folder left) (arguments_data c.loop-argument.evaluated) (arguments ys)) (next_is (argument_at ts) c.args.arguments.now c.loop-argument.argument-index c.argument-item.result c.loop-argument-test.true c.argument-item.is)) (c.loop-argument.invariant.done files left ts hold reads)) (c.in_ok-value.ensures.gives files left ts (c.loop-argument.invariant.done files left ts hold reads).holds (reads_on reads (c.loop-argument.invariant.done files left ts hold reads).continues.written.names)).comes).holds c.from_residual-in_err-add_argument.ensures.1)

pub arguments-loop-argument-preserved : goal.arguments-loop-argument-preserved
arguments-loop-argument-preserved g t c = record { same = search rules; tree = search rules; out = search rules; done = λ files left ts hold reads. rw c.in_ok-add_argument.ensures (leads_on (leads_as (ap (λ ys. arguments_of (folder left) (arguments_data c.loop-argument.evaluated) (arguments ys)) (next_is (argument_at ts) c.args.arguments.now c.loop-argument.argument-index c.argument-item.result c.loop-argument-test.true c.argument-item.is)) (c.loop-argument.invariant.done files left ts hold reads)) (c.in_ok-value.ensures.gives files left ts (c.loop-argument.invariant.done files left ts hold reads).holds (reads_on reads (c.loop-argument.invariant.done files left ts hold reads).continues.written.names)).comes) }

pub arguments-returns-clause-gives : goal.arguments-returns-clause-gives
arguments-returns-clause-gives g t c = λ files left ts hold reads. comes_given (leads_end (leads_as (ap (λ ys. arguments_of (folder left) (arguments_data c.loop-argument.evaluated) (arguments ys)) (no_item (argument_at ts) c.args.arguments.now c.loop-argument.argument-index c.loop-argument-test.false)) (c.loop-argument.invariant.done files left ts hold reads)) (given_give (c.loop-argument.invariant.done files left ts hold reads).holds refl))

pub ask_links-returns-in_err-value-clause-gives : goal.ask_links-returns-in_err-value-clause-gives
ask_links-returns-in_err-value-clause-gives g t c = λ files left ts hold reads. comes_halt (c.in_err-value.ensures.gives files left ts hold reads) c.from_residual.ensures.1

pub ask_links-loop-link-init : goal.ask_links-loop-link-init
ask_links-loop-link-init g t c = record { same = search rules; tree = search rules; out = search rules; done = λ files left ts hold reads. leads_on (leads_start hold) (c.in_ok-value.ensures.gives files left ts hold reads).comes }

pub ask_links-returns-in_err-whole-clause-gives : goal.ask_links-returns-in_err-whole-clause-gives
ask_links-returns-in_err-whole-clause-gives g t c = λ files left ts hold reads.
    let led = (leads_as (ap (λ ys. links_of (folder left) c.args.line (option_map data_of c.loop-link.given) (links ys)) (next_is (link_at ts) c.args.links.now c.loop-link.link-index c.link-item.result c.loop-link-test.true c.link-item.is)) (c.loop-link.invariant.done files left ts hold reads)) in
    comes_end led (comes_stop (c.in_err-whole.ensures.gives files led.holds) c.from_residual-in_err-whole.ensures.1)

pub ask_links-returns-in_err-given-clause-gives : goal.ask_links-returns-in_err-given-clause-gives
ask_links-returns-in_err-given-clause-gives g t c = λ files left ts hold reads.
    let led = (leads_as (ap (λ ys. links_of (folder left) c.args.line (option_map data_of c.loop-link.given) (links ys)) (next_is (link_at ts) c.args.links.now c.loop-link.link-index c.link-item.result c.loop-link-test.true c.link-item.is)) (c.loop-link.invariant.done files left ts hold reads)) in
    let asked = leads_on led (c.in_ok-whole.ensures.gives files led.holds) in
    comes_end asked (comes_halt (c.in_err-given.ensures.gives files left ts asked.holds (reads_on reads asked.continues.written.names)) c.from_residual-in_err-given.ensures.1)

pub ask_links-loop-link-preserved : goal.ask_links-loop-link-preserved
ask_links-loop-link-preserved g t c = record {
  same = search rules;
  tree = search rules;
  out = search rules;
  done = λ files left ts hold reads.
      let led = (leads_as (ap (λ ys. links_of (folder left) c.args.line (option_map data_of c.loop-link.given) (links ys)) (next_is (link_at ts) c.args.links.now c.loop-link.link-index c.link-item.result c.loop-link-test.true c.link-item.is)) (c.loop-link.invariant.done files left ts hold reads)) in
      let asked = leads_on led (c.in_ok-whole.ensures.gives files led.holds) in
      leads_on asked (c.in_ok-given.ensures.gives files left ts asked.holds (reads_on reads asked.continues.written.names)).comes;
}

pub ask_links-returns-clause-gives : goal.ask_links-returns-clause-gives
ask_links-returns-clause-gives g t c = λ files left ts hold reads. comes_given (leads_end (leads_as (ap (λ ys. links_of (folder left) c.args.line (option_map data_of c.loop-link.given) (links ys)) (no_item (link_at ts) c.args.links.now c.loop-link.link-index c.loop-link-test.false)) (c.loop-link.invariant.done files left ts hold reads)) (given_give (c.loop-link.invariant.done files left ts hold reads).holds refl))

pub eval_other-list-requires : goal.eval_other-list-requires
eval_other-list-requires g t c κs lives = let reach : above above_number c.deref.result.now ≤ c.args.node = rw c.deref.ensures.value (numbers_reach c.args.node c.in-List.items.items (parts_at c.args.code.now c.args.node c.index.result.now (flat.List c.in-List.items c.in-List.line) c.requires.here c.index.ensures c.in-List.is)) in (omega arith, (lives.0, (lives.1.0, (lives.1.1, (omega arith, c.requires.room)))))

pub eval_other-dictionary-requires : goal.eval_other-dictionary-requires
eval_other-dictionary-requires g t c κs lives = let reach : above above_entry c.deref-in-Dictionary.result.now ≤ c.args.node = rw c.deref-in-Dictionary.ensures.value (entries_reach c.args.node c.in-Dictionary.entries.items (parts_at c.args.code.now c.args.node c.index.result.now (flat.Dictionary c.in-Dictionary.entries c.in-Dictionary.line) c.requires.here c.index.ensures c.in-Dictionary.is)) in (omega arith, (lives.0, (lives.1.0, (lives.1.1, (omega arith, c.requires.room)))))

pub eval_other-arguments-requires : goal.eval_other-arguments-requires
eval_other-arguments-requires g t c κs lives = let reach : above above_argument c.deref-in-Call.result.now ≤ c.args.node = rw (c.deref-in-Call.ensures.value ∙ ap (λ (x : CallNode). x.arguments.items) c.deref-call.ensures) (arguments_reach c.args.node c.in-Call.call.value.arguments.items (parts_at c.args.code.now c.args.node c.index.result.now (flat.Call c.in-Call.call c.in-Call.line) c.requires.here c.index.ensures c.in-Call.is)) in (omega arith, (lives.0, (lives.1.0, (lives.1.1, (omega arith, c.requires.room)))))

pub eval_parts-chain-requires : goal.eval_parts-chain-requires
eval_parts-chain-requires g t c κs lives = let reach : max (suc c.in-Chain.first) (above above_operand c.deref-in-Chain.result.now) ≤ c.args.node = rw c.deref-in-Chain.ensures.value (first_reach c.args.node c.in-Chain.first above_operand c.in-Chain.others.items (operand_within c.args.node) (operands_reach c.args.node c.in-Chain.others.items) (parts_at c.args.code.now c.args.node c.index.result.now (flat.Chain c.in-Chain.first c.in-Chain.others c.in-Chain.line) c.requires.here c.index.ensures c.in-Chain.is)) in (omega arith, (lives.0, (lives.1.0, (lives.1.1, (omega arith, c.requires.room)))))

pub eval_other-returns-in_err-list-in-List-clause-gives : goal.eval_other-returns-in_err-list-in-List-clause-gives
eval_other-returns-in_err-list-in-List-clause-gives g t c = λ files left ts hold reads. comes_as (ap (value_of (folder left)) (sym (opened reads c.args.node c.index.result.now (flat.List c.in-List.items c.in-List.line) c.requires.here c.index.ensures c.in-List.is))) (comes_as (ap (λ (xs : List ℕ). value_of (folder left) (ListTree (expressions (map (tree_at ts) xs)) c.in-List.line)) c.deref.ensures.value) (comes_same (c.in_err-list-in-List.ensures.gives files left ts hold reads) c.from_residual.ensures.1))

pub eval_other-returns-in-List-clause-gives : goal.eval_other-returns-in-List-clause-gives
eval_other-returns-in-List-clause-gives g t c = λ files left ts hold reads. comes_as (ap (value_of (folder left)) (sym (opened reads c.args.node c.index.result.now (flat.List c.in-List.items c.in-List.line) c.requires.here c.index.ensures c.in-List.is))) (comes_as (ap (λ (xs : List ℕ). value_of (folder left) (ListTree (expressions (map (tree_at ts) xs)) c.in-List.line)) c.deref.ensures.value) (c.in_ok-list-in-List.ensures.gives files left ts hold reads))

pub eval_other-returns-in_err-dictionary-in-Dictionary-clause-gives : goal.eval_other-returns-in_err-dictionary-in-Dictionary-clause-gives
eval_other-returns-in_err-dictionary-in-Dictionary-clause-gives g t c = λ files left ts hold reads. comes_as (ap (value_of (folder left)) (sym (opened reads c.args.node c.index.result.now (flat.Dictionary c.in-Dictionary.entries c.in-Dictionary.line) c.requires.here c.index.ensures c.in-Dictionary.is))) (comes_as (ap (λ (xs : List EntryNode). value_of (folder left) (DictionaryTree (entries (map (entry_at ts) xs)) c.in-Dictionary.line)) c.deref-in-Dictionary.ensures.value) (comes_same (c.in_err-dictionary-in-Dictionary.ensures.gives files left ts hold reads) c.from_residual-in_err-dictionary-in-Dictionary.ensures.1))

pub eval_other-returns-in-Dictionary-clause-gives : goal.eval_other-returns-in-Dictionary-clause-gives
eval_other-returns-in-Dictionary-clause-gives g t c = λ files left ts hold reads. comes_as (ap (value_of (folder left)) (sym (opened reads c.args.node c.index.result.now (flat.Dictionary c.in-Dictionary.entries c.in-Dictionary.line) c.requires.here c.index.ensures c.in-Dictionary.is))) (comes_as (ap (λ (xs : List EntryNode). value_of (folder left) (DictionaryTree (entries (map (entry_at ts) xs)) c.in-Dictionary.line)) c.deref-in-Dictionary.ensures.value) (c.in_ok-dictionary-in-Dictionary.ensures.gives files left ts hold reads))

pub eval_other-returns-in_err-function-in-Call-clause-gives : goal.eval_other-returns-in_err-function-in-Call-clause-gives
eval_other-returns-in_err-function-in-Call-clause-gives g t c = λ files left ts hold reads.
    let line = c.in-Call.line in
    comes_as (ap (value_of (folder left)) (sym (opened reads c.args.node c.index.result.now (flat.Call c.in-Call.call line) c.requires.here c.index.ensures c.in-Call.is)))
    (comes_as (ap (λ (x : CallNode). value_of (folder left) (FunctionTree x.name (arguments (map (argument_at ts) x.arguments.items)) line)) c.deref-call.ensures)
    (comes_stop (c.in_err-function-in-Call.ensures.gives files hold) c.from_residual-in_err-function-in-Call.ensures.1))

pub eval_other-returns-in_err-arguments-in-Call-clause-gives : goal.eval_other-returns-in_err-arguments-in-Call-clause-gives
eval_other-returns-in_err-arguments-in-Call-clause-gives g t c = λ files left ts hold reads.
    let line = c.in-Call.line in
    comes_as (ap (value_of (folder left)) (sym (opened reads c.args.node c.index.result.now (flat.Call c.in-Call.call line) c.requires.here c.index.ensures c.in-Call.is)))
    (comes_as (ap (λ (x : CallNode). value_of (folder left) (FunctionTree x.name (arguments (map (argument_at ts) x.arguments.items)) line)) c.deref-call.ensures)
    (comes_as (ap (λ (xs : List ArgumentNode). value_of (folder left) (FunctionTree c.deref-call.result.now.name (arguments (map (argument_at ts) xs)) line)) c.deref-in-Call.ensures.value)
    (comes_then (c.in_ok-function-in-Call.ensures.gives files hold)
    (comes_halt (c.in_err-arguments-in-Call.ensures.gives files left ts hold reads) c.from_residual-in_err-arguments-in-Call.ensures.1))))

pub eval_other-returns-in_err-given-in-Call-clause-gives : goal.eval_other-returns-in_err-given-in-Call-clause-gives
eval_other-returns-in_err-given-in-Call-clause-gives g t c = λ files left ts hold reads.
    let line = c.in-Call.line in
    let with = (c.in_ok-arguments-in-Call.ensures.gives files left ts hold reads).comes in
    comes_as (ap (value_of (folder left)) (sym (opened reads c.args.node c.index.result.now (flat.Call c.in-Call.call line) c.requires.here c.index.ensures c.in-Call.is)))
    (comes_as (ap (λ (x : CallNode). value_of (folder left) (FunctionTree x.name (arguments (map (argument_at ts) x.arguments.items)) line)) c.deref-call.ensures)
    (comes_as (ap (λ (xs : List ArgumentNode). value_of (folder left) (FunctionTree c.deref-call.result.now.name (arguments (map (argument_at ts) xs)) line)) c.deref-in-Call.ensures.value)
    (comes_then (c.in_ok-function-in-Call.ensures.gives files hold) (comes_then with
    (comes_same (c.in_err-given-in-Call.ensures.gives files left with.holds) c.from_residual-in_err-given-in-Call.ensures.1)))))

pub eval_other-returns-in-Call-clause-gives : goal.eval_other-returns-in-Call-clause-gives
eval_other-returns-in-Call-clause-gives g t c = λ files left ts hold reads.
    let line = c.in-Call.line in
    let with = (c.in_ok-arguments-in-Call.ensures.gives files left ts hold reads).comes in
    comes_as (ap (value_of (folder left)) (sym (opened reads c.args.node c.index.result.now (flat.Call c.in-Call.call line) c.requires.here c.index.ensures c.in-Call.is)))
    (comes_as (ap (λ (x : CallNode). value_of (folder left) (FunctionTree x.name (arguments (map (argument_at ts) x.arguments.items)) line)) c.deref-call.ensures)
    (comes_as (ap (λ (xs : List ArgumentNode). value_of (folder left) (FunctionTree c.deref-call.result.now.name (arguments (map (argument_at ts) xs)) line)) c.deref-in-Call.ensures.value)
    (comes_then (c.in_ok-function-in-Call.ensures.gives files hold) (comes_then with (c.in_ok-given-in-Call.ensures.gives files left with.holds)))))

pub eval_parts-returns-in_err-chain-in-Chain-clause-gives : goal.eval_parts-returns-in_err-chain-in-Chain-clause-gives
eval_parts-returns-in_err-chain-in-Chain-clause-gives g t c = λ files left ts hold reads. comes_as (ap (value_of (folder left)) (sym (opened reads c.args.node c.index.result.now (flat.Chain c.in-Chain.first c.in-Chain.others c.in-Chain.line) c.requires.here c.index.ensures c.in-Chain.is))) (comes_as (ap (λ (xs : List OperandNode). value_of (folder left) (ChainTree (tree_at ts c.in-Chain.first) (operands (map (operand_at ts) xs)) c.in-Chain.line)) c.deref-in-Chain.ensures.value) (comes_same (c.in_err-chain-in-Chain.ensures.gives files left ts hold reads) c.from_residual-in_err-chain-in-Chain.ensures.1))

pub eval_parts-returns-in_ok-chain-in-Chain-clause-gives : goal.eval_parts-returns-in_ok-chain-in-Chain-clause-gives
eval_parts-returns-in_ok-chain-in-Chain-clause-gives g t c = λ files left ts hold reads. comes_as (ap (value_of (folder left)) (sym (opened reads c.args.node c.index.result.now (flat.Chain c.in-Chain.first c.in-Chain.others c.in-Chain.line) c.requires.here c.index.ensures c.in-Chain.is))) (comes_as (ap (λ (xs : List OperandNode). value_of (folder left) (ChainTree (tree_at ts c.in-Chain.first) (operands (map (operand_at ts) xs)) c.in-Chain.line)) c.deref-in-Chain.ensures.value) (c.in_ok-chain-in-Chain.ensures.gives files left ts hold reads))

pub eval_other-returns-in_err-value-in-Ternary-clause-gives : goal.eval_other-returns-in_err-value-in-Ternary-clause-gives
eval_other-returns-in_err-value-in-Ternary-clause-gives g t' c = λ files left ts hold reads.
    let t = c.in-Ternary in
    comes_as (ap (value_of (folder left)) (sym (opened reads c.args.node c.index.result.now (flat.Ternary t.test t.yes t.no t.line) c.requires.here c.index.ensures t.is)))
    (comes_halt (c.in_err-value-in-Ternary.ensures.gives files left ts hold reads) c.from_residual-in_err-value-in-Ternary.ensures.1)

pub eval_other-returns-in-Some-true-clause-gives : goal.eval_other-returns-in-Some-true-clause-gives
eval_other-returns-in-Some-true-clause-gives g t' c = λ files left ts hold reads.
    let t = c.in-Ternary in
    let value = (c.in_ok-value-in-Ternary.ensures.gives files left ts hold reads).comes in
    comes_as (ap (value_of (folder left)) (sym (opened reads c.args.node c.index.result.now (flat.Ternary t.test t.yes t.no t.line) c.requires.here c.index.ensures t.is)))
    (comes_then value
    (comes_as (ap (λ (o : Option Bool). ternary_value t.line o (is_disabler (data_of c.in_ok-value-in-Ternary.value)) (ruled (value_of (folder left) (tree_at ts t.yes))) (ruled (value_of (folder left) (tree_at ts t.no)))) (sym (sym c.in-Some-true.ensures ∙ ap Some c.in-Some-true.field-0-test)))
    (c.eval-in-Some-true.ensures.gives files left ts value.holds (reads_on reads value.gives.written.names))))

pub eval_other-returns-in-Some-false-clause-gives : goal.eval_other-returns-in-Some-false-clause-gives
eval_other-returns-in-Some-false-clause-gives g t' c = λ files left ts hold reads.
    let t = c.in-Ternary in
    let value = (c.in_ok-value-in-Ternary.ensures.gives files left ts hold reads).comes in
    comes_as (ap (value_of (folder left)) (sym (opened reads c.args.node c.index.result.now (flat.Ternary t.test t.yes t.no t.line) c.requires.here c.index.ensures t.is)))
    (comes_then value
    (comes_as (ap (λ (o : Option Bool). ternary_value t.line o (is_disabler (data_of c.in_ok-value-in-Ternary.value)) (ruled (value_of (folder left) (tree_at ts t.yes))) (ruled (value_of (folder left) (tree_at ts t.no)))) (sym (sym c.in-Some-false.ensures ∙ ap Some c.in-Some-false.field-0-test)))
    (c.eval-in-Some-false.ensures.gives files left ts value.holds (reads_on reads value.gives.written.names))))

pub eval_other-returns-in_err-refuse_choice-in-None-clause-gives : goal.eval_other-returns-in_err-refuse_choice-in-None-clause-gives
eval_other-returns-in_err-refuse_choice-in-None-clause-gives g t' c = λ files left ts hold reads.
    let t = c.in-Ternary in
    let value = (c.in_ok-value-in-Ternary.ensures.gives files left ts hold reads).comes in
    comes_as (ap (value_of (folder left)) (sym (opened reads c.args.node c.index.result.now (flat.Ternary t.test t.yes t.no t.line) c.requires.here c.index.ensures t.is)))
    (comes_then value (comes_as (ap (λ (o : Option Bool). ternary_value t.line o (is_disabler (data_of c.in_ok-value-in-Ternary.value)) (ruled (value_of (folder left) (tree_at ts t.yes))) (ruled (value_of (folder left) (tree_at ts t.no)))) c.in-None.ensures)
    (comes_last (c.in_err-refuse_choice-in-None.ensures.gives files value.holds) c.from_residual-in_err-refuse_choice-in-None.ensures.1)))

pub eval_other-returns-in-Ternary-clause-gives : goal.eval_other-returns-in-Ternary-clause-gives
eval_other-returns-in-Ternary-clause-gives g t' c = λ files left ts hold reads.
    let t = c.in-Ternary in
    let value = (c.in_ok-value-in-Ternary.ensures.gives files left ts hold reads).comes in
    comes_given (given_as (ap (value_of (folder left)) (sym (opened reads c.args.node c.index.result.now (flat.Ternary t.test t.yes t.no t.line) c.requires.here c.index.ensures t.is)))
    (given_then value (given_as (ap (λ (o : Option Bool). ternary_value t.line o (is_disabler (data_of c.in_ok-value-in-Ternary.value)) (ruled (value_of (folder left) (tree_at ts t.yes))) (ruled (value_of (folder left) (tree_at ts t.no)))) c.in-None.ensures) (c.in_ok-refuse_choice-in-None.ensures.gives files value.holds))))

pub eval_node-returns-in_err-variable-in-Name-clause-gives : goal.eval_node-returns-in_err-variable-in-Name-clause-gives
eval_node-returns-in_err-variable-in-Name-clause-gives g t c = λ files left ts hold reads. let number = (name_of reads c.in-Name.number (parts_at c.args.code.now c.args.node c.index.result.now (flat.Name c.in-Name.number c.in-Name.line) c.requires.here c.index.ensures c.in-Name.is)) in comes_as (ap (value_of (folder left)) (sym (opened reads c.args.node c.index.result.now (flat.Name c.in-Name.number c.in-Name.line) c.requires.here c.index.ensures c.in-Name.is))) (comes_as (ap (variable c.in-Name.line) number.1) (comes_last (c.in_err-variable-in-Name.ensures.gives number.0 files hold) c.from_residual.ensures.1))

pub eval_node-returns-in_ok-variable-in-Name-clause-gives : goal.eval_node-returns-in_ok-variable-in-Name-clause-gives
eval_node-returns-in_ok-variable-in-Name-clause-gives g t c = λ files left ts hold reads. comes_given (let number = (name_of reads c.in-Name.number (parts_at c.args.code.now c.args.node c.index.result.now (flat.Name c.in-Name.number c.in-Name.line) c.requires.here c.index.ensures c.in-Name.is)) in given_as (ap (value_of (folder left)) (sym (opened reads c.args.node c.index.result.now (flat.Name c.in-Name.number c.in-Name.line) c.requires.here c.index.ensures c.in-Name.is))) (given_as (ap (variable c.in-Name.line) number.1) (c.in_ok-variable-in-Name.ensures.gives number.0 files hold)))

pub eval_node-returns-in_err-literal-in-Literal-clause-gives : goal.eval_node-returns-in_err-literal-in-Literal-clause-gives
eval_node-returns-in_err-literal-in-Literal-clause-gives g t c = λ files left ts hold reads. comes_as (ap (value_of (folder left)) (sym (opened reads c.args.node c.index.result.now (flat.Literal c.in-Literal.line c.in-Literal.literal) c.requires.here c.index.ensures c.in-Literal.is))) (comes_last (c.in_err-literal-in-Literal.ensures.gives files hold) c.from_residual-in_err-literal-in-Literal.ensures.1)

pub eval_node-returns-in_ok-literal-in-Literal-clause-gives : goal.eval_node-returns-in_ok-literal-in-Literal-clause-gives
eval_node-returns-in_ok-literal-in-Literal-clause-gives g t c = λ files left ts hold reads. comes_given (given_as (ap (value_of (folder left)) (sym (opened reads c.args.node c.index.result.now (flat.Literal c.in-Literal.line c.in-Literal.literal) c.requires.here c.index.ensures c.in-Literal.is))) (c.in_ok-literal-in-Literal.ensures.gives files hold))

pub list-loop-item-init : goal.list-loop-item-init
list-loop-item-init g t c = record { same = (refl, (refl, (refl, refl))); tree = refl; out = refl; done = λ files left ts hold reads. rw c.new-values.ensures.items (leads_start hold) }

pub list-returns-in_err-value-clause-gives : goal.list-returns-in_err-value-clause-gives
list-returns-in_err-value-clause-gives g t c = λ files left ts hold reads.
    let led = leads_as (ap (λ ys. next (values_of (folder left) (items_of c.loop-item.values.items) (expressions ys)) (list_value c.args.line)) (next_item (tree_at ts) c.args.items.now c.loop-item.item-index 0 c.loop-item-test.true)) (c.loop-item.invariant.done files left ts hold reads) in
    comes_end led (comes_halt_inside (c.in_err-value.ensures.gives files left ts led.holds (reads_on reads led.continues.written.names)) c.from_residual.ensures.1)

pub list-returns-in_err-push-clause-gives : goal.list-returns-in_err-push-clause-gives
list-returns-in_err-push-clause-gives g t c = λ files left ts hold reads.
    let led = leads_as (ap (λ ys. next (values_of (folder left) (items_of c.loop-item.values.items) (expressions ys)) (list_value c.args.line)) (next_item (tree_at ts) c.args.items.now c.loop-item.item-index 0 c.loop-item-test.true)) (c.loop-item.invariant.done files left ts hold reads) in
    let more = leads_inside led (c.in_ok-value.ensures.gives files left ts led.holds (reads_on reads led.continues.written.names)).comes in
    comes_end more (comes_none more.holds c.from_residual-in_err-push.ensures.1)

pub list-loop-item-preserved : goal.list-loop-item-preserved
list-loop-item-preserved g t c = record {
  same = search rules;
  tree = search rules;
  out = search rules;
  done = λ files left ts hold reads.
      let led = leads_as (ap (λ ys. next (values_of (folder left) (items_of c.loop-item.values.items) (expressions ys)) (list_value c.args.line)) (next_item (tree_at ts) c.args.items.now c.loop-item.item-index 0 c.loop-item-test.true)) (c.loop-item.invariant.done files left ts hold reads) in
      let more = ap items_of c.in_ok-push.ensures.items ∙ items_of-append c.loop-item.values.items (c.in_ok-value.value ∷ []) in
      rw more (leads_inside led (c.in_ok-value.ensures.gives files left ts led.holds (reads_on reads led.continues.written.names)).comes);
}

pub list-returns-in_err-list-clause-gives : goal.list-returns-in_err-list-clause-gives
list-returns-in_err-list-clause-gives g t c = λ files left ts hold reads.
    let led = leads_as (ap (λ ys. next (values_of (folder left) (items_of c.loop-item.values.items) (expressions ys)) (list_value c.args.line)) (no_item (tree_at ts) c.args.items.now c.loop-item.item-index c.loop-item-test.false)) (c.loop-item.invariant.done files left ts hold reads) in
    comes_end led (comes_then {view = λ (ds : Items). ds} {x = items_of c.loop-item.values.items} (given_give led.holds refl) (comes_last (c.in_err-list.ensures.gives files led.holds) c.from_residual-in_err-list.ensures.1))

pub list-returns-clause-gives : goal.list-returns-clause-gives
list-returns-clause-gives g t c = λ files left ts hold reads.
    let led = leads_as (ap (λ ys. next (values_of (folder left) (items_of c.loop-item.values.items) (expressions ys)) (list_value c.args.line)) (no_item (tree_at ts) c.args.items.now c.loop-item.item-index c.loop-item-test.false)) (c.loop-item.invariant.done files left ts hold reads) in
    comes_given (leads_end led (given_then {view = λ (ds : Items). ds} {x = items_of c.loop-item.values.items} (given_give led.holds refl) (c.in_ok-list.ensures.gives files led.holds)))

pub dictionary-loop-entry-init : goal.dictionary-loop-entry-init
dictionary-loop-entry-init g t c = record { same = (refl, (refl, (refl, refl))); tree = refl; out = refl; done = λ files left ts hold reads. rw c.new-pairs.ensures.items (leads_start hold) }

pub dictionary-returns-in_err-key-clause-gives : goal.dictionary-returns-in_err-key-clause-gives
dictionary-returns-in_err-key-clause-gives g t c = λ files left ts hold reads.
    let led = leads_as (ap (λ ys. next (entries_of (folder left) (pairs_of c.loop-entry.pairs.items) (entries ys)) (dictionary_value c.args.line)) (next_item (entry_at ts) c.args.entries.now c.loop-entry.entry-index (record { key = 0; value = 0 }) c.loop-entry-test.true)) (c.loop-entry.invariant.done files left ts hold reads) in
    comes_end led (comes_halt_inside (c.in_err-key.ensures.gives files left ts led.holds (reads_on reads led.continues.written.names)) c.from_residual.ensures.1)

pub dictionary-returns-in_err-value-clause-gives : goal.dictionary-returns-in_err-value-clause-gives
dictionary-returns-in_err-value-clause-gives g t c = λ files left ts hold reads.
    let led = leads_as (ap (λ ys. next (entries_of (folder left) (pairs_of c.loop-entry.pairs.items) (entries ys)) (dictionary_value c.args.line)) (next_item (entry_at ts) c.args.entries.now c.loop-entry.entry-index (record { key = 0; value = 0 }) c.loop-entry-test.true)) (c.loop-entry.invariant.done files left ts hold reads) in
    let keyed = leads_inside led (c.in_ok-key.ensures.gives files left ts led.holds (reads_on reads led.continues.written.names)).comes in
    comes_end keyed (comes_halt_inside (c.in_err-value.ensures.gives files left ts keyed.holds (reads_on reads keyed.continues.written.names)) c.from_residual-in_err-value.ensures.1)

pub dictionary-returns-in_err-push-clause-gives : goal.dictionary-returns-in_err-push-clause-gives
dictionary-returns-in_err-push-clause-gives g t c = λ files left ts hold reads.
    let led = leads_as (ap (λ ys. next (entries_of (folder left) (pairs_of c.loop-entry.pairs.items) (entries ys)) (dictionary_value c.args.line)) (next_item (entry_at ts) c.args.entries.now c.loop-entry.entry-index (record { key = 0; value = 0 }) c.loop-entry-test.true)) (c.loop-entry.invariant.done files left ts hold reads) in
    let keyed = leads_inside led (c.in_ok-key.ensures.gives files left ts led.holds (reads_on reads led.continues.written.names)).comes in
    let more = leads_inside keyed (c.in_ok-value.ensures.gives files left ts keyed.holds (reads_on reads keyed.continues.written.names)).comes in
    comes_end more (comes_none more.holds c.from_residual-in_err-push.ensures.1)

pub dictionary-loop-entry-preserved : goal.dictionary-loop-entry-preserved
dictionary-loop-entry-preserved g t c = record {
  same = search rules;
  tree = search rules;
  out = search rules;
  done = λ files left ts hold reads.
      let led = leads_as (ap (λ ys. next (entries_of (folder left) (pairs_of c.loop-entry.pairs.items) (entries ys)) (dictionary_value c.args.line)) (next_item (entry_at ts) c.args.entries.now c.loop-entry.entry-index (record { key = 0; value = 0 }) c.loop-entry-test.true)) (c.loop-entry.invariant.done files left ts hold reads) in
      let keyed = leads_inside led (c.in_ok-key.ensures.gives files left ts led.holds (reads_on reads led.continues.written.names)).comes in
      let more = ap pairs_of c.in_ok-push.ensures.items ∙ pairs_of-push c.loop-entry.pairs.items c.in_ok-key.key c.in_ok-value.value in
      rw more (leads_inside keyed (c.in_ok-value.ensures.gives files left ts keyed.holds (reads_on reads keyed.continues.written.names)).comes);
}

pub dictionary-returns-in_err-pair-clause-gives : goal.dictionary-returns-in_err-pair-clause-gives
dictionary-returns-in_err-pair-clause-gives g t c = λ files left ts hold reads.
    let led = leads_as (ap (λ ys. next (entries_of (folder left) (pairs_of c.loop-entry.pairs.items) (entries ys)) (dictionary_value c.args.line)) (no_item (entry_at ts) c.args.entries.now c.loop-entry.entry-index c.loop-entry-test.false)) (c.loop-entry.invariant.done files left ts hold reads) in
    comes_end led (comes_then {view = λ (ps : List (Data × Data)). ps} {x = pairs_of c.loop-entry.pairs.items} (given_give led.holds refl) (comes_last (c.in_err-pair.ensures.gives files led.holds) c.from_residual-in_err-pair.ensures.1))

pub dictionary-returns-clause-gives : goal.dictionary-returns-clause-gives
dictionary-returns-clause-gives g t c = λ files left ts hold reads.
    let led = leads_as (ap (λ ys. next (entries_of (folder left) (pairs_of c.loop-entry.pairs.items) (entries ys)) (dictionary_value c.args.line)) (no_item (entry_at ts) c.args.entries.now c.loop-entry.entry-index c.loop-entry-test.false)) (c.loop-entry.invariant.done files left ts hold reads) in
    comes_given (leads_end led (given_then {view = λ (ps : List (Data × Data)). ps} {x = pairs_of c.loop-entry.pairs.items} (given_give led.holds refl) (c.in_ok-pair.ensures.gives files led.holds)))

pub chain-returns-in_err-value-clause-gives : goal.chain-returns-in_err-value-clause-gives
chain-returns-in_err-value-clause-gives g t c = λ files left ts hold reads. comes_halt (c.in_err-value.ensures.gives files left ts hold reads) c.from_residual.ensures.1

pub chain-loop-operand-init : goal.chain-loop-operand-init
chain-loop-operand-init g t c = record { same = search rules; tree = search rules; out = search rules; done = λ files left ts hold reads. leads_on (leads_start hold) (c.in_ok-value.ensures.gives files left ts hold reads).comes }

pub chain-returns-in_err-right-in-Combines-clause-gives : goal.chain-returns-in_err-right-in-Combines-clause-gives
chain-returns-in_err-right-in-Combines-clause-gives g t c = λ files left ts hold reads.
    let led = leads_as (ap (λ ys. chain_of (folder left) c.args.line (data_of c.loop-operand.value) (operands ys)) (next_item (operand_at ts) c.args.others.now c.loop-operand.operand-index (record { operator = flatop.Or; value = 0 }) c.loop-operand-test.true)) (c.loop-operand.invariant.done files left ts hold reads) in
    let half = leads_as (ap (λ (m : InfixOperator). next (operator_value c.args.line m (data_of c.loop-operand.value) (ruled (value_of (folder left) (tree_at ts (get_or c.args.others.now c.loop-operand.operand-index (record { operator = flatop.Or; value = 0 })).value)))) (λ d. chain_of (folder left) c.args.line d (operands (map (operand_at ts) (drop (c.loop-operand.operand-index + 1) c.args.others.now))))) (sym c.in-Combines.ensures)) led in
    comes_end half (comes_halt_inside (c.in_err-right-in-Combines.ensures.gives files left ts half.holds (reads_on reads half.continues.written.names)) c.from_residual-in_err-right-in-Combines.ensures.1)

pub chain-returns-in_err-value-in-Combines-clause-gives : goal.chain-returns-in_err-value-in-Combines-clause-gives
chain-returns-in_err-value-in-Combines-clause-gives g t c = λ files left ts hold reads.
    let led = leads_as (ap (λ ys. chain_of (folder left) c.args.line (data_of c.loop-operand.value) (operands ys)) (next_item (operand_at ts) c.args.others.now c.loop-operand.operand-index (record { operator = flatop.Or; value = 0 }) c.loop-operand-test.true)) (c.loop-operand.invariant.done files left ts hold reads) in
    let half = leads_as (ap (λ (m : InfixOperator). next (operator_value c.args.line m (data_of c.loop-operand.value) (ruled (value_of (folder left) (tree_at ts (get_or c.args.others.now c.loop-operand.operand-index (record { operator = flatop.Or; value = 0 })).value)))) (λ d. chain_of (folder left) c.args.line d (operands (map (operand_at ts) (drop (c.loop-operand.operand-index + 1) c.args.others.now))))) (sym c.in-Combines.ensures)) led in
    let whole = leads_inside half (c.in_ok-right-in-Combines.ensures.gives files left ts half.holds (reads_on reads half.continues.written.names)).comes in
    comes_end whole (comes_stop (c.in_err-value-in-Combines.ensures.gives files whole.holds) c.from_residual-in_err-value-in-Combines.ensures.1)

pub chain-loop-operand-preserved-in-Combines : goal.chain-loop-operand-preserved-in-Combines
chain-loop-operand-preserved-in-Combines g t c = record {
  same = search rules;
  tree = search rules;
  out = search rules;
  done = λ files left ts hold reads.
      let led = leads_as (ap (λ ys. chain_of (folder left) c.args.line (data_of c.loop-operand.value) (operands ys)) (next_item (operand_at ts) c.args.others.now c.loop-operand.operand-index (record { operator = flatop.Or; value = 0 }) c.loop-operand-test.true)) (c.loop-operand.invariant.done files left ts hold reads) in
      let half = leads_as (ap (λ (m : InfixOperator). next (operator_value c.args.line m (data_of c.loop-operand.value) (ruled (value_of (folder left) (tree_at ts (get_or c.args.others.now c.loop-operand.operand-index (record { operator = flatop.Or; value = 0 })).value)))) (λ d. chain_of (folder left) c.args.line d (operands (map (operand_at ts) (drop (c.loop-operand.operand-index + 1) c.args.others.now))))) (sym c.in-Combines.ensures)) led in
      let whole = leads_inside half (c.in_ok-right-in-Combines.ensures.gives files left ts half.holds (reads_on reads half.continues.written.names)).comes in
      leads_on whole (c.in_ok-value-in-Combines.ensures.gives files whole.holds);
}

pub chain-returns-in_err-said-clause-gives : goal.chain-returns-in_err-said-clause-gives
chain-returns-in_err-said-clause-gives g t c = λ files left ts hold reads.
    let led = leads_as (ap (λ ys. chain_of (folder left) c.args.line (data_of c.loop-operand.value) (operands ys)) (next_item (operand_at ts) c.args.others.now c.loop-operand.operand-index (record { operator = flatop.Or; value = 0 }) c.loop-operand-test.true)) (c.loop-operand.invariant.done files left ts hold reads) in
    let half = leads_as (ap (λ (m : InfixOperator). next (operator_value c.args.line m (data_of c.loop-operand.value) (ruled (value_of (folder left) (tree_at ts (get_or c.args.others.now c.loop-operand.operand-index (record { operator = flatop.Or; value = 0 })).value)))) (λ d. chain_of (folder left) c.args.line d (operands (map (operand_at ts) (drop (c.loop-operand.operand-index + 1) c.args.others.now))))) (sym c.in-Connects.ensures)) led in
    comes_end half (comes_halt_inside {view = left_view} (comes_last {result = Err (halts.Stops c.in_err-said.field-0.0)} (c.in_err-said.ensures.gives files half.holds) refl) c.from_residual-in_err-said.ensures.1)

pub chain-loop-operand-preserved-in-Decides : goal.chain-loop-operand-preserved-in-Decides
chain-loop-operand-preserved-in-Decides g t c = record {
  same = search rules;
  tree = search rules;
  out = search rules;
  done = λ files left ts hold reads.
      let led = leads_as (ap (λ ys. chain_of (folder left) c.args.line (data_of c.loop-operand.value) (operands ys)) (next_item (operand_at ts) c.args.others.now c.loop-operand.operand-index (record { operator = flatop.Or; value = 0 }) c.loop-operand-test.true)) (c.loop-operand.invariant.done files left ts hold reads) in
      let half = leads_as (ap (λ (m : InfixOperator). next (operator_value c.args.line m (data_of c.loop-operand.value) (ruled (value_of (folder left) (tree_at ts (get_or c.args.others.now c.loop-operand.operand-index (record { operator = flatop.Or; value = 0 })).value)))) (λ d. chain_of (folder left) c.args.line d (operands (map (operand_at ts) (drop (c.loop-operand.operand-index + 1) c.args.others.now))))) (sym c.in-Connects.ensures)) led in
      let one = leads_inside half (c.in_ok-said.ensures.gives files half.holds) in
      let said = leads_as (ap (λ (l : Left). next (unless_decided c.args.line (left_view l) (ruled (value_of (folder left) (tree_at ts (get_or c.args.others.now c.loop-operand.operand-index (record { operator = flatop.Or; value = 0 })).value)))) (λ d. chain_of (folder left) c.args.line d (operands (map (operand_at ts) (drop (c.loop-operand.operand-index + 1) c.args.others.now))))) c.in-Decides.is) one in
      leads_on said (given_give {view = λ (d : Data). d} one.holds refl);
}

pub chain-returns-in_err-right-clause-gives : goal.chain-returns-in_err-right-clause-gives
chain-returns-in_err-right-clause-gives g t c = λ files left ts hold reads.
    let led = leads_as (ap (λ ys. chain_of (folder left) c.args.line (data_of c.loop-operand.value) (operands ys)) (next_item (operand_at ts) c.args.others.now c.loop-operand.operand-index (record { operator = flatop.Or; value = 0 }) c.loop-operand-test.true)) (c.loop-operand.invariant.done files left ts hold reads) in
    let half = leads_as (ap (λ (m : InfixOperator). next (operator_value c.args.line m (data_of c.loop-operand.value) (ruled (value_of (folder left) (tree_at ts (get_or c.args.others.now c.loop-operand.operand-index (record { operator = flatop.Or; value = 0 })).value)))) (λ d. chain_of (folder left) c.args.line d (operands (map (operand_at ts) (drop (c.loop-operand.operand-index + 1) c.args.others.now))))) (sym c.in-Connects.ensures)) led in
    let one = leads_inside half (c.in_ok-said.ensures.gives files half.holds) in
    let said = leads_as (ap (λ (l : Left). next (unless_decided c.args.line (left_view l) (ruled (value_of (folder left) (tree_at ts (get_or c.args.others.now c.loop-operand.operand-index (record { operator = flatop.Or; value = 0 })).value)))) (λ d. chain_of (folder left) c.args.line d (operands (map (operand_at ts) (drop (c.loop-operand.operand-index + 1) c.args.others.now))))) c.in-Open.is) one in
    comes_end said (comes_halt_inside (c.in_err-right.ensures.gives files left ts said.holds (reads_on reads said.continues.written.names)) c.from_residual-in_err-right.ensures.1)

pub chain-returns-in_err-value-2-clause-gives : goal.chain-returns-in_err-value-2-clause-gives
chain-returns-in_err-value-2-clause-gives g t c = λ files left ts hold reads.
    let led = leads_as (ap (λ ys. chain_of (folder left) c.args.line (data_of c.loop-operand.value) (operands ys)) (next_item (operand_at ts) c.args.others.now c.loop-operand.operand-index (record { operator = flatop.Or; value = 0 }) c.loop-operand-test.true)) (c.loop-operand.invariant.done files left ts hold reads) in
    let half = leads_as (ap (λ (m : InfixOperator). next (operator_value c.args.line m (data_of c.loop-operand.value) (ruled (value_of (folder left) (tree_at ts (get_or c.args.others.now c.loop-operand.operand-index (record { operator = flatop.Or; value = 0 })).value)))) (λ d. chain_of (folder left) c.args.line d (operands (map (operand_at ts) (drop (c.loop-operand.operand-index + 1) c.args.others.now))))) (sym c.in-Connects.ensures)) led in
    let one = leads_inside half (c.in_ok-said.ensures.gives files half.holds) in
    let said = leads_as (ap (λ (l : Left). next (unless_decided c.args.line (left_view l) (ruled (value_of (folder left) (tree_at ts (get_or c.args.others.now c.loop-operand.operand-index (record { operator = flatop.Or; value = 0 })).value)))) (λ d. chain_of (folder left) c.args.line d (operands (map (operand_at ts) (drop (c.loop-operand.operand-index + 1) c.args.others.now))))) c.in-Open.is) one in
    let whole = leads_inside said (c.in_ok-right.ensures.gives files left ts said.holds (reads_on reads said.continues.written.names)).comes in
    comes_end whole (comes_stop (c.in_err-value-2.ensures.gives _ c.right_side.ensures files whole.holds) c.from_residual-in_err-value-2.ensures.1)

pub chain-loop-operand-preserved : goal.chain-loop-operand-preserved
chain-loop-operand-preserved g t c = record {
  same = search rules;
  tree = search rules;
  out = search rules;
  done = λ files left ts hold reads.
      let led = leads_as (ap (λ ys. chain_of (folder left) c.args.line (data_of c.loop-operand.value) (operands ys)) (next_item (operand_at ts) c.args.others.now c.loop-operand.operand-index (record { operator = flatop.Or; value = 0 }) c.loop-operand-test.true)) (c.loop-operand.invariant.done files left ts hold reads) in
      let half = leads_as (ap (λ (m : InfixOperator). next (operator_value c.args.line m (data_of c.loop-operand.value) (ruled (value_of (folder left) (tree_at ts (get_or c.args.others.now c.loop-operand.operand-index (record { operator = flatop.Or; value = 0 })).value)))) (λ d. chain_of (folder left) c.args.line d (operands (map (operand_at ts) (drop (c.loop-operand.operand-index + 1) c.args.others.now))))) (sym c.in-Connects.ensures)) led in
      let one = leads_inside half (c.in_ok-said.ensures.gives files half.holds) in
      let said = leads_as (ap (λ (l : Left). next (unless_decided c.args.line (left_view l) (ruled (value_of (folder left) (tree_at ts (get_or c.args.others.now c.loop-operand.operand-index (record { operator = flatop.Or; value = 0 })).value)))) (λ d. chain_of (folder left) c.args.line d (operands (map (operand_at ts) (drop (c.loop-operand.operand-index + 1) c.args.others.now))))) c.in-Open.is) one in
      let whole = leads_inside said (c.in_ok-right.ensures.gives files left ts said.holds (reads_on reads said.continues.written.names)).comes in
      leads_on whole (c.in_ok-value-2.ensures.gives _ c.right_side.ensures files whole.holds);
}

pub chain-returns-clause-gives : goal.chain-returns-clause-gives
chain-returns-clause-gives g t c = λ files left ts hold reads. comes_given (leads_end (leads_as (ap (λ ys. chain_of (folder left) c.args.line (data_of c.loop-operand.value) (operands ys)) (no_item (operand_at ts) c.args.others.now c.loop-operand.operand-index c.loop-operand-test.false)) (c.loop-operand.invariant.done files left ts hold reads)) (given_give (c.loop-operand.invariant.done files left ts hold reads).holds refl))

pub eval_parts-ask_links-requires : goal.eval_parts-ask_links-requires
eval_parts-ask_links-requires g t c κs lives = let reach : max (suc c.in-Postfix.first) (above above_link c.deref.result.now) ≤ c.args.node = rw c.deref.ensures.value (first_reach c.args.node c.in-Postfix.first above_link c.in-Postfix.links.items (link_within c.args.node) (links_reach c.args.node c.in-Postfix.links.items) (parts_at c.args.code.now c.args.node c.index.result.now (flat.Postfix c.in-Postfix.first c.in-Postfix.links c.in-Postfix.line) c.requires.here c.index.ensures c.in-Postfix.is)) in (omega arith, (lives.0, (lives.1.0, (lives.1.1, (omega arith, c.requires.room)))))

pub eval_other-eval-requires : goal.eval_other-eval-requires
eval_other-eval-requires g t c κs lives = let reach : suc c.in-Prefix.value ≤ c.args.node = number_reach c.args.node c.in-Prefix.value (parts_at c.args.code.now c.args.node c.index.result.now (flat.Prefix c.in-Prefix.prefix c.in-Prefix.value c.in-Prefix.line) c.requires.here c.index.ensures c.in-Prefix.is) in (omega arith, (lives.0, (lives.1.0, (lives.1.1, (omega arith, c.requires.room)))))

pub eval_parts-returns-in_err-given-in-Postfix-clause-gives : goal.eval_parts-returns-in_err-given-in-Postfix-clause-gives
eval_parts-returns-in_err-given-in-Postfix-clause-gives g t c = λ files left ts hold reads.
    comes_as (ap (value_of (folder left)) (sym (opened reads c.args.node c.index.result.now (flat.Postfix c.in-Postfix.first c.in-Postfix.links c.in-Postfix.line) c.requires.here c.index.ensures c.in-Postfix.is)))
    (comes_as (ap (λ (xs : List LinkNode). value_of (folder left) (PostfixTree (tree_at ts c.in-Postfix.first) (links (map (link_at ts) xs)) c.in-Postfix.line)) c.deref.ensures.value)
    (comes_halt (c.in_err-given-in-Postfix.ensures.gives files left ts hold reads) c.from_residual.ensures.1))

pub eval_parts-returns-in_err-need-in-Postfix-clause-gives : goal.eval_parts-returns-in_err-need-in-Postfix-clause-gives
eval_parts-returns-in_err-need-in-Postfix-clause-gives g t c = λ files left ts hold reads.
    let given = (c.in_ok-given-in-Postfix.ensures.gives files left ts hold reads).comes in
    comes_as (ap (value_of (folder left)) (sym (opened reads c.args.node c.index.result.now (flat.Postfix c.in-Postfix.first c.in-Postfix.links c.in-Postfix.line) c.requires.here c.index.ensures c.in-Postfix.is)))
    (comes_as (ap (λ (xs : List LinkNode). value_of (folder left) (PostfixTree (tree_at ts c.in-Postfix.first) (links (map (link_at ts) xs)) c.in-Postfix.line)) c.deref.ensures.value)
    (comes_then given (comes_last (c.in_err-need-in-Postfix.ensures.gives files given.holds) c.from_residual-in_err-need-in-Postfix.ensures.1)))

pub eval_parts-returns-in_ok-need-in-Postfix-clause-gives : goal.eval_parts-returns-in_ok-need-in-Postfix-clause-gives
eval_parts-returns-in_ok-need-in-Postfix-clause-gives g t c = λ files left ts hold reads.
    let given = (c.in_ok-given-in-Postfix.ensures.gives files left ts hold reads).comes in
    comes_given (given_as (ap (value_of (folder left)) (sym (opened reads c.args.node c.index.result.now (flat.Postfix c.in-Postfix.first c.in-Postfix.links c.in-Postfix.line) c.requires.here c.index.ensures c.in-Postfix.is)))
    (given_as (ap (λ (xs : List LinkNode). value_of (folder left) (PostfixTree (tree_at ts c.in-Postfix.first) (links (map (link_at ts) xs)) c.in-Postfix.line)) c.deref.ensures.value)
    (given_then given (c.in_ok-need-in-Postfix.ensures.gives files given.holds))))

pub eval_other-returns-in_err-value-in-Prefix-clause-gives : goal.eval_other-returns-in_err-value-in-Prefix-clause-gives
eval_other-returns-in_err-value-in-Prefix-clause-gives g t c = λ files left ts hold reads.
    comes_as (ap (value_of (folder left)) (sym (opened reads c.args.node c.index.result.now (flat.Prefix c.in-Prefix.prefix c.in-Prefix.value c.in-Prefix.line) c.requires.here c.index.ensures c.in-Prefix.is)))
    (comes_halt (c.in_err-value-in-Prefix.ensures.gives files left ts hold reads) c.from_residual-in_err-value-in-Prefix.ensures.1)

pub eval_other-returns-in_err-prefix-in-Prefix-clause-gives : goal.eval_other-returns-in_err-prefix-in-Prefix-clause-gives
eval_other-returns-in_err-prefix-in-Prefix-clause-gives g t c = λ files left ts hold reads.
    let value = (c.in_ok-value-in-Prefix.ensures.gives files left ts hold reads).comes in
    comes_as (ap (value_of (folder left)) (sym (opened reads c.args.node c.index.result.now (flat.Prefix c.in-Prefix.prefix c.in-Prefix.value c.in-Prefix.line) c.requires.here c.index.ensures c.in-Prefix.is)))
    (comes_then value (comes_last (c.in_err-prefix-in-Prefix.ensures.gives files value.holds) c.from_residual-in_err-prefix-in-Prefix.ensures.1))

pub eval_other-returns-in-Prefix-clause-gives : goal.eval_other-returns-in-Prefix-clause-gives
eval_other-returns-in-Prefix-clause-gives g t c = λ files left ts hold reads.
    let value = (c.in_ok-value-in-Prefix.ensures.gives files left ts hold reads).comes in
    comes_given (given_as (ap (value_of (folder left)) (sym (opened reads c.args.node c.index.result.now (flat.Prefix c.in-Prefix.prefix c.in-Prefix.value c.in-Prefix.line) c.requires.here c.index.ensures c.in-Prefix.is)))
    (given_then value (c.in_ok-prefix-in-Prefix.ensures.gives files value.holds)))

pub link-returns-in_err-method_at-in-Method-clause-gives : goal.link-returns-in_err-method_at-in-Method-clause-gives
link-returns-in_err-method_at-in-Method-clause-gives g t c = λ files left ts hold reads.
    comes_as (ap (λ (x : LinkNode). link_of (folder left) c.args.line (data_of c.args.whole) (link_at ts x)) (sym c.in-Method.is))
    (comes_stop (c.in_err-method_at-in-Method.ensures.gives files hold) c.from_residual.ensures.1)

pub link-returns-in_err-arguments-in-Method-clause-gives : goal.link-returns-in_err-arguments-in-Method-clause-gives
link-returns-in_err-arguments-in-Method-clause-gives g t c = λ files left ts hold reads.
    comes_as (ap (λ (x : LinkNode). link_of (folder left) c.args.line (data_of c.args.whole) (link_at ts x)) (sym c.in-Method.is))
    (comes_as (ap (λ (xs : List ArgumentNode). method_of c.args.line (data_of c.args.whole) c.in-Method.name (arguments_of (folder left) no_arguments (arguments (map (argument_at ts) xs)))) c.deref.ensures.value)
    (comes_then (c.in_ok-method_at-in-Method.ensures.gives files hold) (comes_halt (c.in_err-arguments-in-Method.ensures.gives files left ts hold reads) c.from_residual-in_err-arguments-in-Method.ensures.1)))

pub link-returns-in_err-given-in-Method-clause-gives : goal.link-returns-in_err-given-in-Method-clause-gives
link-returns-in_err-given-in-Method-clause-gives g t c = λ files left ts hold reads.
    let asked = (c.in_ok-arguments-in-Method.ensures.gives files left ts hold reads).comes in
    comes_as (ap (λ (x : LinkNode). link_of (folder left) c.args.line (data_of c.args.whole) (link_at ts x)) (sym c.in-Method.is))
    (comes_as (ap (λ (xs : List ArgumentNode). method_of c.args.line (data_of c.args.whole) c.in-Method.name (arguments_of (folder left) no_arguments (arguments (map (argument_at ts) xs)))) c.deref.ensures.value)
    (comes_then (c.in_ok-method_at-in-Method.ensures.gives files hold) (comes_then asked
    (comes_last (c.in_err-given-in-Method.ensures.gives files asked.holds) c.from_residual-in_err-given-in-Method.ensures.1))))

pub link-returns-in-Method-clause-gives : goal.link-returns-in-Method-clause-gives
link-returns-in-Method-clause-gives g t c = λ files left ts hold reads.
    let asked = (c.in_ok-arguments-in-Method.ensures.gives files left ts hold reads).comes in
    comes_given (given_as (ap (λ (x : LinkNode). link_of (folder left) c.args.line (data_of c.args.whole) (link_at ts x)) (sym c.in-Method.is))
    (given_as (ap (λ (xs : List ArgumentNode). method_of c.args.line (data_of c.args.whole) c.in-Method.name (arguments_of (folder left) no_arguments (arguments (map (argument_at ts) xs)))) c.deref.ensures.value)
    (given_then (c.in_ok-method_at-in-Method.ensures.gives files hold) (given_then asked
    (c.in_ok-given-in-Method.ensures.gives files asked.holds)))))

pub link-returns-in_err-at-in-Index-clause-gives : goal.link-returns-in_err-at-in-Index-clause-gives
link-returns-in_err-at-in-Index-clause-gives g t c = λ files left ts hold reads.
    comes_as (ap (λ (x : LinkNode). link_of (folder left) c.args.line (data_of c.args.whole) (link_at ts x)) (sym c.in-Index.is))
    (comes_halt (c.in_err-at-in-Index.ensures.gives files left ts hold reads) c.from_residual-in_err-at-in-Index.ensures.1)

pub link-returns-in_err-part_at-in-Index-clause-gives : goal.link-returns-in_err-part_at-in-Index-clause-gives
link-returns-in_err-part_at-in-Index-clause-gives g t c = λ files left ts hold reads.
    let at = (c.in_ok-at-in-Index.ensures.gives files left ts hold reads).comes in
    comes_as (ap (λ (x : LinkNode). link_of (folder left) c.args.line (data_of c.args.whole) (link_at ts x)) (sym c.in-Index.is))
    (comes_then at (comes_last (c.in_err-part_at-in-Index.ensures.gives files at.holds) c.from_residual-in_err-part_at-in-Index.ensures.1))

pub link-returns-clause-gives : goal.link-returns-clause-gives
link-returns-clause-gives g t c = λ files left ts hold reads.
    let at = (c.in_ok-at-in-Index.ensures.gives files left ts hold reads).comes in
    comes_given (given_as (ap (λ (x : LinkNode). link_of (folder left) c.args.line (data_of c.args.whole) (link_at ts x)) (sym c.in-Index.is))
    (given_then at (c.in_ok-part_at-in-Index.ensures.gives files at.holds)))

pub eval_node-returns-in_err-eval_parts-in_default-clause-gives : goal.eval_node-returns-in_err-eval_parts-in_default-clause-gives
eval_node-returns-in_err-eval_parts-in_default-clause-gives g t c = λ files left ts hold reads.
    comes_same (c.in_err-eval_parts-in_default.ensures.gives files left ts hold reads) c.from_residual-in_err-eval_parts-in_default.ensures.1

pub eval_other-eval-requires-in-Ternary : goal.eval_other-eval-requires-in-Ternary
eval_other-eval-requires-in-Ternary g t c κs lives = let reach = three_reach c.args.node c.in-Ternary.test c.in-Ternary.yes c.in-Ternary.no (parts_at c.args.code.now c.args.node c.index.result.now (flat.Ternary c.in-Ternary.test c.in-Ternary.yes c.in-Ternary.no c.in-Ternary.line) c.requires.here c.index.ensures c.in-Ternary.is) in (omega (arith, reach), (lives.0, (lives.1.0, (lives.1.1, (omega (arith, reach), c.requires.room)))))

pub eval_other-eval-requires-in-Some-true : goal.eval_other-eval-requires-in-Some-true
eval_other-eval-requires-in-Some-true g t c κs lives = let reach = three_reach c.args.node c.in-Ternary.test c.in-Ternary.yes c.in-Ternary.no (parts_at c.args.code.now c.args.node c.index.result.now (flat.Ternary c.in-Ternary.test c.in-Ternary.yes c.in-Ternary.no c.in-Ternary.line) c.requires.here c.index.ensures c.in-Ternary.is) in (omega (arith, reach), (lives.0, (lives.1.0, (lives.1.1, (omega (arith, reach), search rules)))))

pub eval_other-eval-requires-in-Some-false : goal.eval_other-eval-requires-in-Some-false
eval_other-eval-requires-in-Some-false g t c κs lives = let reach = three_reach c.args.node c.in-Ternary.test c.in-Ternary.yes c.in-Ternary.no (parts_at c.args.code.now c.args.node c.index.result.now (flat.Ternary c.in-Ternary.test c.in-Ternary.yes c.in-Ternary.no c.in-Ternary.line) c.requires.here c.index.ensures c.in-Ternary.is) in (omega (arith, reach), (lives.0, (lives.1.0, (lives.1.1, (omega (arith, reach), search rules)))))

pub eval_parts-returns-in_err-eval_other-in_default-clause-gives : goal.eval_parts-returns-in_err-eval_other-in_default-clause-gives
eval_parts-returns-in_err-eval_other-in_default-clause-gives g t c = λ files left ts hold reads.
    comes_same (c.in_err-eval_other-in_default.ensures.gives files left ts hold reads) c.from_residual-in_err-eval_other-in_default.ensures.1

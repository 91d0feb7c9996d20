use Rattle.std.proofs.Common.{sym, ap, ◌∙◌, ◌&&◌, length, map, nat_lt, option_map, subst}
use Rattle.std.specs.Prelude.{IsTrue}
use Rattle.code.specs.declared.node.CallNode.{CallNode}
use Rattle.std.specs.List.{list_all}
use Rattle.syntax.specs.ExpressionTree.{ExpressionTree, ListTree, DictionaryTree, FunctionTree, PostfixTree, PrefixTree, ChainTree}
use Rattle.syntax.specs.ExpressionTree.{TernaryTree, arguments, entries, expressions, links, operands, expression_of, entry_of}
use Rattle.syntax.specs.ExpressionTree.{argument_of, operand_of, link_of}
use Rattle.code.specs.Nodes.{tree_at, entry_at, argument_at, operand_at, link_at, entry_within, argument_within, operand_within}
use Rattle.code.specs.Nodes.{link_within}
use Rattle.code.specs.Draft.{trees_in}
use Rattle.code.proofs.Trees.{and_both}
use Rattle.code.proofs.Parts.{grows_same, grows_trans, stands_more, parts_step, parts_end, keeps_number, keeps_entry, keeps_argument}
use Rattle.code.proofs.Parts.{keeps_operand, keeps_link}
use Rattle.code.proofs.Made.{entry_is, argument_is, operand_is, stands_as, stands_so, name_made, literal_made, list_made, dictionary_made}
use Rattle.code.proofs.Made.{call_made, postfix_made, prefix_made, chain_made, ternary_made}
use Rattle.code.proofs.draft.Draft.+flatten.Goals as goal

pub list-loop-item-preserved : goal.list-loop-item-preserved
list-loop-item-preserved t c =
    let old = c.loop-item.self in
    let new = c.expression.new.self in
    record {
      grows = grows_trans c.args.self.now old new c.loop-item.invariant.grows c.expression.ensures.grows;
      parts = parts_step (λ n i. nat_lt i n) tree_at keeps_number expression_of c.args.items.now c.loop-item.item-index
          c.item-item.result (trees_in old) (trees_in new)
          c.loop-item.numbers.items c.push.new.self.items c.in_ok-number.number c.loop-item-test.true c.item-item.is
          c.in_ok-push.ensures.items
          c.expression.ensures.grows.trees c.loop-item.invariant.parts c.in_ok-number.ensures.stands.within
          c.in_ok-number.ensures.stands.is;
    }

pub dictionary-returns-in_err-push-clause-grows : goal.dictionary-returns-in_err-push-clause-grows
dictionary-returns-in_err-push-clause-grows t c =
    let new = c.expression-in-loop-entry.new.self in
    grows_trans c.args.self.now c.expression.new.self new (grows_trans c.args.self.now c.loop-entry.self c.expression.new.self
    c.loop-entry.invariant.grows c.expression.ensures.grows) c.expression-in-loop-entry.ensures.grows

pub dictionary-loop-entry-preserved : goal.dictionary-loop-entry-preserved
dictionary-loop-entry-preserved t c =
    let old = c.loop-entry.self in
    let mid = c.expression.new.self in
    let new = c.expression-in-loop-entry.new.self in
    let step = grows_trans old mid new c.expression.ensures.grows c.expression-in-loop-entry.ensures.grows in
    let key = stands_more (trees_in mid) (trees_in new) c.in_ok-key.key (expression_of c.entry-item.result.key)
    c.expression-in-loop-entry.ensures.grows.trees c.in_ok-key.ensures.stands in
    let value = c.in_ok-value.ensures.stands in
    record {
      grows = grows_trans c.args.self.now old new c.loop-entry.invariant.grows step;
      parts = parts_step entry_within entry_at keeps_entry entry_of c.args.entries.now c.loop-entry.entry-index c.entry-item.result
          (trees_in old) (trees_in new)
          c.loop-entry.nodes.items c.push.new.self.items record { key = c.in_ok-key.key; value = c.in_ok-value.value }
          c.loop-entry-test.true c.entry-item.is c.in_ok-push.ensures.items
          step.trees c.loop-entry.invariant.parts
          (and_both (nat_lt c.in_ok-key.key (length (trees_in new))) (nat_lt c.in_ok-value.value (length (trees_in new))) key.within
          value.within)
          (ap (λ (k : ExpressionTree). (k, tree_at (trees_in new) c.in_ok-value.value)) key.is
          ∙ ap (λ (v : ExpressionTree). (expression_of c.entry-item.result.key, v)) value.is ∙ sym (entry_is c.entry-item.result));
    }

pub arguments-loop-argument-preserved : goal.arguments-loop-argument-preserved
arguments-loop-argument-preserved t c =
    let old = c.loop-argument.self in
    let new = c.expression.new.self in
    let a = c.argument-item.result in
    record {
      grows = grows_trans c.args.self.now old new c.loop-argument.invariant.grows c.expression.ensures.grows;
      parts = parts_step argument_within argument_at keeps_argument argument_of c.args.arguments.now c.loop-argument.argument-index a
          (trees_in old) (trees_in new)
          c.loop-argument.nodes.items c.push.new.self.items record { name = c.in_ok-name.name; value = c.in_ok-value.value }
          c.loop-argument-test.true c.argument-item.is c.in_ok-push.ensures.items
          c.expression.ensures.grows.trees c.loop-argument.invariant.parts c.in_ok-value.ensures.stands.within
          (ap (λ n. (n, tree_at (trees_in new) c.in_ok-value.value)) c.in_ok-name.ensures
          ∙ ap (λ v. (option_map (λ k. k.now) a.name, v)) c.in_ok-value.ensures.stands.is ∙ sym (argument_is a));
    }

pub chain-loop-operand-preserved : goal.chain-loop-operand-preserved
chain-loop-operand-preserved t c =
    let old = c.loop-operand.self in
    let new = c.expression-in-loop-operand.new.self in
    record {
      grows = grows_trans c.args.self.now old new c.loop-operand.invariant.grows c.expression-in-loop-operand.ensures.grows;
      later = grows_trans c.expression.new.self old new c.loop-operand.invariant.later c.expression-in-loop-operand.ensures.grows;
      parts = parts_step operand_within operand_at keeps_operand operand_of c.args.others.now c.loop-operand.operand-index
          c.operand-item.result (trees_in old) (trees_in new)
          c.loop-operand.nodes.items c.push.new.self.items record {
            operator = c.operand-item.result.operator;
            value =
                c.in_ok-value.value;
          } c.loop-operand-test.true c.operand-item.is c.in_ok-push.ensures.items
          c.expression-in-loop-operand.ensures.grows.trees c.loop-operand.invariant.parts c.in_ok-value.ensures.stands.within
          (ap (λ v. (c.operand-item.result.operator, v)) c.in_ok-value.ensures.stands.is ∙ sym (operand_is c.operand-item.result));
    }

pub postfix-loop-link-preserved : goal.postfix-loop-link-preserved
postfix-loop-link-preserved t c =
    let old = c.loop-link.self in
    let new = c.link.new.self in
    record {
      grows = grows_trans c.args.self.now old new c.loop-link.invariant.grows c.link.ensures.grows;
      later = grows_trans c.expression.new.self old new c.loop-link.invariant.later c.link.ensures.grows;
      parts = parts_step link_within link_at keeps_link link_of c.args.links.now c.loop-link.link-index c.link-item.result
          (trees_in old) (trees_in new)
          c.loop-link.nodes.items c.push.new.self.items c.in_ok-node.node c.loop-link-test.true c.link-item.is c.in_ok-push.ensures.items
          c.link.ensures.grows.trees c.loop-link.invariant.parts c.in_ok-node.ensures.within c.in_ok-node.ensures.is;
    }

pub ternary-push-requires : goal.ternary-push-requires
ternary-push-requires t c =
    let one = trees_in c.expression.new.self in
    let two = trees_in c.expression-2.new.self in
    let ts = trees_in c.expression-3.new.self in
    let test = stands_more two ts c.in_ok-test.test (expression_of c.args.test.now) c.expression-3.ensures.grows.trees
    (stands_more one two c.in_ok-test.test (expression_of c.args.test.now) c.expression-2.ensures.grows.trees
    c.in_ok-test.ensures.stands) in
    let yes = stands_more two ts c.in_ok-yes.yes (expression_of c.args.yes.now) c.expression-3.ensures.grows.trees
    c.in_ok-yes.ensures.stands in
    and_both (nat_lt c.in_ok-test.test (length ts)) (nat_lt c.in_ok-yes.yes (length ts) && nat_lt c.in_ok-no.no (length ts)) test.within
    (and_both (nat_lt c.in_ok-yes.yes (length ts)) (nat_lt c.in_ok-no.no (length ts)) yes.within c.in_ok-no.ensures.stands.within)

-- ---- one variant

pub expression-returns-in-Name-clause-grows : goal.expression-returns-in-Name-clause-grows
expression-returns-in-Name-clause-grows t c = c.add_name.ensures.grows

pub expression-returns-in-Name-clause-stands : goal.expression-returns-in-Name-clause-stands
expression-returns-in-Name-clause-stands t c = stands_as c.add_name.result (trees_in c.add_name.new.self) _ (expression_of c.args.expression.now) c.add_name.ensures.stands
    (name_made c.args.expression.now c.in-Name.line c.in-Name.name c.in-Name.is)

pub expression-returns-in-Literal-clause-grows : goal.expression-returns-in-Literal-clause-grows
expression-returns-in-Literal-clause-grows t c = c.literal.ensures.grows

pub expression-returns-in-Literal-clause-stands : goal.expression-returns-in-Literal-clause-stands
expression-returns-in-Literal-clause-stands t c = stands_as c.literal.result (trees_in c.literal.new.self) _ (expression_of c.args.expression.now) c.literal.ensures.stands
    (literal_made c.args.expression.now c.in-Literal.line c.in-Literal.literal c.in-Literal.text c.in-Literal.is)

pub expression-returns-in-List-clause-grows : goal.expression-returns-in-List-clause-grows
expression-returns-in-List-clause-grows t c = c.list.ensures.grows

pub expression-returns-in-List-clause-stands : goal.expression-returns-in-List-clause-stands
expression-returns-in-List-clause-stands t c = stands_as c.list.result (trees_in c.list.new.self) _ (expression_of c.args.expression.now) c.list.ensures.stands
    (list_made c.args.expression.now c.in-List.line c.in-List.items c.deref.result.now c.in-List.is c.deref.ensures.value)

pub expression-returns-in-Dictionary-clause-grows : goal.expression-returns-in-Dictionary-clause-grows
expression-returns-in-Dictionary-clause-grows t c = c.dictionary.ensures.grows

pub expression-returns-in-Dictionary-clause-stands : goal.expression-returns-in-Dictionary-clause-stands
expression-returns-in-Dictionary-clause-stands t c = stands_as c.dictionary.result (trees_in c.dictionary.new.self) _ (expression_of c.args.expression.now) c.dictionary.ensures.stands
    (dictionary_made c.args.expression.now c.in-Dictionary.line c.in-Dictionary.entries c.deref-in-Dictionary.result.now c.in-Dictionary.is c.deref-in-Dictionary.ensures.value)

pub expression-returns-in-Call-clause-grows : goal.expression-returns-in-Call-clause-grows
expression-returns-in-Call-clause-grows t c = c.call.ensures.grows

pub expression-returns-in-Call-clause-stands : goal.expression-returns-in-Call-clause-stands
expression-returns-in-Call-clause-stands t c = stands_as c.call.result (trees_in c.call.new.self) _ (expression_of c.args.expression.now) c.call.ensures.stands
    (call_made c.args.expression.now c.in-Call.line c.in-Call.name c.in-Call.arguments c.deref-in-Call.result.now c.in-Call.is c.deref-in-Call.ensures.value)

pub expression-returns-in-Postfix-clause-grows : goal.expression-returns-in-Postfix-clause-grows
expression-returns-in-Postfix-clause-grows t c = c.postfix.ensures.grows

pub expression-returns-in-Postfix-clause-stands : goal.expression-returns-in-Postfix-clause-stands
expression-returns-in-Postfix-clause-stands t c = stands_as c.postfix.result (trees_in c.postfix.new.self) _ (expression_of c.args.expression.now) c.postfix.ensures.stands
    (ap (λ e. PostfixTree (expression_of e) (links (map link_of c.deref-in-Postfix-2.result.now)) c.in-Postfix.line) c.deref-in-Postfix.ensures
    ∙ postfix_made c.args.expression.now c.in-Postfix.line c.in-Postfix.first c.in-Postfix.links c.deref-in-Postfix-2.result.now c.in-Postfix.is c.deref-in-Postfix-2.ensures.value)

pub expression-returns-in-Prefix-clause-grows : goal.expression-returns-in-Prefix-clause-grows
expression-returns-in-Prefix-clause-grows t c = c.prefix.ensures.grows

pub expression-returns-in-Prefix-clause-stands : goal.expression-returns-in-Prefix-clause-stands
expression-returns-in-Prefix-clause-stands t c = stands_as c.prefix.result (trees_in c.prefix.new.self) _ (expression_of c.args.expression.now) c.prefix.ensures.stands
    (ap (λ e. PrefixTree c.in-Prefix.prefix (expression_of e) c.in-Prefix.line) c.deref-in-Prefix.ensures
    ∙ prefix_made c.args.expression.now c.in-Prefix.line c.in-Prefix.prefix c.in-Prefix.value c.in-Prefix.is)

pub expression-returns-in-Chain-clause-grows : goal.expression-returns-in-Chain-clause-grows
expression-returns-in-Chain-clause-grows t c = c.chain.ensures.grows

pub expression-returns-in-Chain-clause-stands : goal.expression-returns-in-Chain-clause-stands
expression-returns-in-Chain-clause-stands t c = stands_as c.chain.result (trees_in c.chain.new.self) _ (expression_of c.args.expression.now) c.chain.ensures.stands
    (ap (λ e. ChainTree (expression_of e) (operands (map operand_of c.deref-in-Chain-2.result.now)) c.in-Chain.line) c.deref-in-Chain.ensures
    ∙ chain_made c.args.expression.now c.in-Chain.line c.in-Chain.first c.in-Chain.others c.deref-in-Chain-2.result.now c.in-Chain.is c.deref-in-Chain-2.ensures.value)

pub expression-returns-in-Ternary-clause-grows : goal.expression-returns-in-Ternary-clause-grows
expression-returns-in-Ternary-clause-grows t c = c.ternary.ensures.grows

pub expression-returns-in-Ternary-clause-stands : goal.expression-returns-in-Ternary-clause-stands
expression-returns-in-Ternary-clause-stands t c = stands_as c.ternary.result (trees_in c.ternary.new.self) _ (expression_of c.args.expression.now) c.ternary.ensures.stands
    (ap (λ e. TernaryTree (expression_of e) (expression_of c.deref-in-Ternary-2.result.now) (expression_of c.deref-in-Ternary-3.result.now) c.in-Ternary.line) c.deref-in-Ternary.ensures
    ∙ ap (λ e. TernaryTree (expression_of c.in-Ternary.test.value) (expression_of e) (expression_of c.deref-in-Ternary-3.result.now) c.in-Ternary.line) c.deref-in-Ternary-2.ensures
    ∙ ap (λ e. TernaryTree (expression_of c.in-Ternary.test.value) (expression_of c.in-Ternary.yes.value) (expression_of e) c.in-Ternary.line) c.deref-in-Ternary-3.ensures
    ∙ ternary_made c.args.expression.now c.in-Ternary.line c.in-Ternary.test c.in-Ternary.yes c.in-Ternary.no c.in-Ternary.is)

-- ---- a node over its parts

pub list-push-requires-2 : goal.list-push-requires-2
list-push-requires-2 t c = c.loop-item.invariant.parts.within

pub list-returns-clause-grows : goal.list-returns-clause-grows
list-returns-clause-grows t c = grows_trans c.args.self.now c.loop-item.self c.push-2.new.self c.loop-item.invariant.grows c.push-2.ensures.grows

pub list-returns-clause-stands : goal.list-returns-clause-stands
list-returns-clause-stands t c =
    let all = parts_end (λ n i. nat_lt i n) tree_at keeps_number expression_of c.args.items.now c.loop-item.item-index (trees_in c.loop-item.self)
    c.loop-item.numbers.items c.loop-item-test.false c.loop-item.invariant.parts in
    stands_as c.push-2.result (trees_in c.push-2.new.self) _ _ c.push-2.ensures.stands (ap (λ l. ListTree (expressions l) c.args.line) all.are)

pub dictionary-push-requires-2 : goal.dictionary-push-requires-2
dictionary-push-requires-2 t c = c.loop-entry.invariant.parts.within

pub dictionary-returns-clause-grows : goal.dictionary-returns-clause-grows
dictionary-returns-clause-grows t c = grows_trans c.args.self.now c.loop-entry.self c.push-2.new.self c.loop-entry.invariant.grows c.push-2.ensures.grows

pub dictionary-returns-clause-stands : goal.dictionary-returns-clause-stands
dictionary-returns-clause-stands t c =
    let all = parts_end entry_within entry_at keeps_entry entry_of c.args.entries.now c.loop-entry.entry-index (trees_in c.loop-entry.self)
    c.loop-entry.nodes.items c.loop-entry-test.false c.loop-entry.invariant.parts in
    stands_as c.push-2.result (trees_in c.push-2.new.self) _ _ c.push-2.ensures.stands (ap (λ l. DictionaryTree (entries l) c.args.line) all.are)

pub call-returns-in_err-arguments-clause-grows : goal.call-returns-in_err-arguments-clause-grows
call-returns-in_err-arguments-clause-grows t c = c.arguments.ensures.grows

pub call-push-requires : goal.call-push-requires
call-push-requires t c = subst (λ (x : CallNode). IsTrue (list_all (argument_within (length (trees_in c.arguments.new.self))) x.arguments.items)) (sym c.in_ok-call.ensures.ok) c.in_ok-arguments.ensures.parts.within

pub call-returns-clause-grows : goal.call-returns-clause-grows
call-returns-clause-grows t c = grows_trans c.args.self.now c.arguments.new.self c.push.new.self c.arguments.ensures.grows c.push.ensures.grows

pub call-returns-in_err-call-clause-grows : goal.call-returns-in_err-call-clause-grows
call-returns-in_err-call-clause-grows t c = c.arguments.ensures.grows

pub call-returns-clause-stands : goal.call-returns-clause-stands
call-returns-clause-stands t c = stands_as c.push.result (trees_in c.push.new.self) _ _ c.push.ensures.stands
    (ap (λ (x : CallNode). FunctionTree x.name (arguments (map (argument_at (trees_in c.arguments.new.self)) x.arguments.items)) c.args.line) c.in_ok-call.ensures.ok
    ∙ ap (λ n. FunctionTree n (arguments (map (argument_at (trees_in c.arguments.new.self)) c.in_ok-arguments.arguments.items)) c.args.line) c.in_ok-name.ensures
    ∙ ap (λ l. FunctionTree c.args.name.now (arguments l) c.args.line) c.in_ok-arguments.ensures.parts.are)

pub prefix-returns-in_err-value-clause-grows : goal.prefix-returns-in_err-value-clause-grows
prefix-returns-in_err-value-clause-grows t c = c.expression.ensures.grows

pub prefix-push-requires : goal.prefix-push-requires
prefix-push-requires t c = c.in_ok-value.ensures.stands.within

pub prefix-returns-clause-grows : goal.prefix-returns-clause-grows
prefix-returns-clause-grows t c = grows_trans c.args.self.now c.expression.new.self c.push.new.self c.expression.ensures.grows c.push.ensures.grows

pub prefix-returns-clause-stands : goal.prefix-returns-clause-stands
prefix-returns-clause-stands t c = stands_as c.push.result (trees_in c.push.new.self) _ _ c.push.ensures.stands (ap (λ e. PrefixTree c.args.prefix e c.args.line) c.in_ok-value.ensures.stands.is)

pub postfix-returns-in_err-head-clause-grows : goal.postfix-returns-in_err-head-clause-grows
postfix-returns-in_err-head-clause-grows t c = c.expression.ensures.grows

pub postfix-returns-in_err-first-clause-grows : goal.postfix-returns-in_err-first-clause-grows
postfix-returns-in_err-first-clause-grows t c = c.expression.ensures.grows

pub postfix-push-requires-2 : goal.postfix-push-requires-2
postfix-push-requires-2 t c =
    let ts = trees_in c.loop-link.self in
    let first = stands_more (trees_in c.expression.new.self) ts c.in_ok-first.first (expression_of c.args.first.now) c.loop-link.invariant.later.trees (stands_so (trees_in c.expression.new.self) c.in_ok-first.first c.in_ok-head.head (expression_of c.args.first.now) c.in_ok-first.ensures c.in_ok-head.ensures.stands) in
    and_both (nat_lt c.in_ok-first.first (length ts)) (list_all (link_within (length ts)) c.loop-link.nodes.items) first.within c.loop-link.invariant.parts.within

pub postfix-returns-clause-grows : goal.postfix-returns-clause-grows
postfix-returns-clause-grows t c = grows_trans c.args.self.now c.loop-link.self c.push-2.new.self c.loop-link.invariant.grows c.push-2.ensures.grows

pub postfix-returns-clause-stands : goal.postfix-returns-clause-stands
postfix-returns-clause-stands t c =
    let ts = trees_in c.loop-link.self in
    let first = stands_more (trees_in c.expression.new.self) ts c.in_ok-first.first (expression_of c.args.first.now) c.loop-link.invariant.later.trees (stands_so (trees_in c.expression.new.self) c.in_ok-first.first c.in_ok-head.head (expression_of c.args.first.now) c.in_ok-first.ensures c.in_ok-head.ensures.stands) in
    let all = parts_end link_within link_at keeps_link link_of c.args.links.now c.loop-link.link-index ts c.loop-link.nodes.items c.loop-link-test.false
    c.loop-link.invariant.parts in
    stands_as c.push-2.result (trees_in c.push-2.new.self) _ _ c.push-2.ensures.stands
    (ap (λ e. PostfixTree e (links (map (link_at ts) c.loop-link.nodes.items)) c.args.line) first.is
    ∙ ap (λ l. PostfixTree (expression_of c.args.first.now) (links l) c.args.line) all.are)

pub chain-returns-in_err-head-clause-grows : goal.chain-returns-in_err-head-clause-grows
chain-returns-in_err-head-clause-grows t c = c.expression.ensures.grows

pub chain-returns-in_err-first-clause-grows : goal.chain-returns-in_err-first-clause-grows
chain-returns-in_err-first-clause-grows t c = c.expression.ensures.grows

pub chain-returns-in_err-push-clause-grows : goal.chain-returns-in_err-push-clause-grows
chain-returns-in_err-push-clause-grows t c =
    grows_trans c.args.self.now c.loop-operand.self c.expression-in-loop-operand.new.self c.loop-operand.invariant.grows
    c.expression-in-loop-operand.ensures.grows

pub chain-push-requires-2 : goal.chain-push-requires-2
chain-push-requires-2 t c =
    let ts = trees_in c.loop-operand.self in
    let first = stands_more (trees_in c.expression.new.self) ts c.in_ok-first.first (expression_of c.args.first.now) c.loop-operand.invariant.later.trees (stands_so (trees_in c.expression.new.self) c.in_ok-first.first c.in_ok-head.head (expression_of c.args.first.now) c.in_ok-first.ensures c.in_ok-head.ensures.stands) in
    and_both (nat_lt c.in_ok-first.first (length ts)) (list_all (operand_within (length ts)) c.loop-operand.nodes.items) first.within c.loop-operand.invariant.parts.within

pub chain-returns-clause-grows : goal.chain-returns-clause-grows
chain-returns-clause-grows t c = grows_trans c.args.self.now c.loop-operand.self c.push-2.new.self c.loop-operand.invariant.grows c.push-2.ensures.grows

pub chain-returns-clause-stands : goal.chain-returns-clause-stands
chain-returns-clause-stands t c =
    let ts = trees_in c.loop-operand.self in
    let first = stands_more (trees_in c.expression.new.self) ts c.in_ok-first.first (expression_of c.args.first.now) c.loop-operand.invariant.later.trees (stands_so (trees_in c.expression.new.self) c.in_ok-first.first c.in_ok-head.head (expression_of c.args.first.now) c.in_ok-first.ensures c.in_ok-head.ensures.stands) in
    let all = parts_end operand_within operand_at keeps_operand operand_of c.args.others.now c.loop-operand.operand-index ts c.loop-operand.nodes.items
    c.loop-operand-test.false c.loop-operand.invariant.parts in
    stands_as c.push-2.result (trees_in c.push-2.new.self) _ _ c.push-2.ensures.stands
    (ap (λ e. ChainTree e (operands (map (operand_at ts) c.loop-operand.nodes.items)) c.args.line) first.is
    ∙ ap (λ l. ChainTree (expression_of c.args.first.now) (operands l) c.args.line) all.are)

pub ternary-returns-clause-grows : goal.ternary-returns-clause-grows
ternary-returns-clause-grows t c = grows_trans c.args.self.now c.expression-3.new.self c.push.new.self
    (grows_trans c.args.self.now c.expression-2.new.self c.expression-3.new.self
    (grows_trans c.args.self.now c.expression.new.self c.expression-2.new.self c.expression.ensures.grows c.expression-2.ensures.grows) c.expression-3.ensures.grows)
    c.push.ensures.grows

pub ternary-returns-clause-stands : goal.ternary-returns-clause-stands
ternary-returns-clause-stands t c =
    let one = trees_in c.expression.new.self in
    let two = trees_in c.expression-2.new.self in
    let ts = trees_in c.expression-3.new.self in
    let test = stands_more two ts c.in_ok-test.test (expression_of c.args.test.now) c.expression-3.ensures.grows.trees
    (stands_more one two c.in_ok-test.test (expression_of c.args.test.now) c.expression-2.ensures.grows.trees
    c.in_ok-test.ensures.stands) in
    let yes = stands_more two ts c.in_ok-yes.yes (expression_of c.args.yes.now) c.expression-3.ensures.grows.trees
    c.in_ok-yes.ensures.stands in
    stands_as c.push.result (trees_in c.push.new.self) _ _ c.push.ensures.stands
    (ap (λ e. TernaryTree e (tree_at ts c.in_ok-yes.yes) (tree_at ts c.in_ok-no.no) c.args.line) test.is
    ∙ ap (λ e. TernaryTree (expression_of c.args.test.now) e (tree_at ts c.in_ok-no.no) c.args.line) yes.is
    ∙ ap (λ e. TernaryTree (expression_of c.args.test.now) (expression_of c.args.yes.now) e c.args.line) c.in_ok-no.ensures.stands.is)

-- ---- where memory is refused, and behind the loop of arguments

pub list-returns-in_err-number-clause-grows : goal.list-returns-in_err-number-clause-grows
list-returns-in_err-number-clause-grows t c = grows_trans c.args.self.now c.loop-item.self c.expression.new.self c.loop-item.invariant.grows c.expression.ensures.grows

pub list-returns-in_err-push-clause-grows : goal.list-returns-in_err-push-clause-grows
list-returns-in_err-push-clause-grows t c = grows_trans c.args.self.now c.loop-item.self c.expression.new.self c.loop-item.invariant.grows c.expression.ensures.grows

pub dictionary-returns-in_err-key-clause-grows : goal.dictionary-returns-in_err-key-clause-grows
dictionary-returns-in_err-key-clause-grows t c = grows_trans c.args.self.now c.loop-entry.self c.expression.new.self c.loop-entry.invariant.grows c.expression.ensures.grows

pub dictionary-returns-in_err-value-clause-grows : goal.dictionary-returns-in_err-value-clause-grows
dictionary-returns-in_err-value-clause-grows t c = grows_trans c.args.self.now c.expression.new.self c.expression-in-loop-entry.new.self (grows_trans c.args.self.now c.loop-entry.self c.expression.new.self c.loop-entry.invariant.grows c.expression.ensures.grows) c.expression-in-loop-entry.ensures.grows

pub arguments-returns-in_err-name-clause-grows : goal.arguments-returns-in_err-name-clause-grows
arguments-returns-in_err-name-clause-grows t c = c.loop-argument.invariant.grows

pub arguments-returns-in_err-value-clause-grows : goal.arguments-returns-in_err-value-clause-grows
arguments-returns-in_err-value-clause-grows t c = grows_trans c.args.self.now c.loop-argument.self c.expression.new.self c.loop-argument.invariant.grows c.expression.ensures.grows

pub arguments-returns-in_err-push-clause-grows : goal.arguments-returns-in_err-push-clause-grows
arguments-returns-in_err-push-clause-grows t c = grows_trans c.args.self.now c.loop-argument.self c.expression.new.self c.loop-argument.invariant.grows c.expression.ensures.grows

pub arguments-returns-clause-grows : goal.arguments-returns-clause-grows
arguments-returns-clause-grows t c = c.loop-argument.invariant.grows

pub arguments-returns-clause-parts : goal.arguments-returns-clause-parts
arguments-returns-clause-parts t c =
    parts_end argument_within argument_at keeps_argument argument_of c.args.arguments.now c.loop-argument.argument-index (trees_in c.loop-argument.self)
    c.loop-argument.nodes.items c.loop-argument-test.false c.loop-argument.invariant.parts

pub postfix-returns-in_err-node-clause-grows : goal.postfix-returns-in_err-node-clause-grows
postfix-returns-in_err-node-clause-grows t c = grows_trans c.args.self.now c.loop-link.self c.link.new.self c.loop-link.invariant.grows c.link.ensures.grows

pub postfix-returns-in_err-push-clause-grows : goal.postfix-returns-in_err-push-clause-grows
postfix-returns-in_err-push-clause-grows t c = grows_trans c.args.self.now c.loop-link.self c.link.new.self c.loop-link.invariant.grows c.link.ensures.grows

pub chain-returns-in_err-value-clause-grows : goal.chain-returns-in_err-value-clause-grows
chain-returns-in_err-value-clause-grows t c = grows_trans c.args.self.now c.loop-operand.self c.expression-in-loop-operand.new.self c.loop-operand.invariant.grows c.expression-in-loop-operand.ensures.grows

pub call-returns-in_err-name-clause-grows : goal.call-returns-in_err-name-clause-grows
call-returns-in_err-name-clause-grows t c = grows_same c.args.self.now

pub ternary-returns-in_err-test-clause-grows : goal.ternary-returns-in_err-test-clause-grows
ternary-returns-in_err-test-clause-grows t c = c.expression.ensures.grows

pub ternary-returns-in_err-yes-clause-grows : goal.ternary-returns-in_err-yes-clause-grows
ternary-returns-in_err-yes-clause-grows t c = grows_trans c.args.self.now c.expression.new.self c.expression-2.new.self c.expression.ensures.grows c.expression-2.ensures.grows

pub ternary-returns-in_err-no-clause-grows : goal.ternary-returns-in_err-no-clause-grows
ternary-returns-in_err-no-clause-grows t c = grows_trans c.args.self.now c.expression-2.new.self c.expression-3.new.self (grows_trans c.args.self.now c.expression.new.self c.expression-2.new.self c.expression.ensures.grows c.expression-2.ensures.grows) c.expression-3.ensures.grows

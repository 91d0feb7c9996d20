use Rattle.std.proofs.Common.{◌+◌, ◌*◌, map, max, nat_lt, take}
use denote.Param.Weighed.{most}
use Rattle.syntax.specs.declared.tree.Expression.TheViews.{size-Expression, size-Link, size-Operand}
use Rattle.syntax.specs.ExpressionTree.{expression_of, entry_of, argument_of, operand_of, link_of}
use Rattle.code.specs.Nodes.{tree_at, entry_at, argument_at, operand_at, link_at, entry_within, argument_within, operand_within}
use Rattle.code.specs.Nodes.{link_within}
use Rattle.code.specs.Draft.{trees_in, Grows, Parts}
use Rattle.code.proofs.draft.Draft.+flatten.Given as goal

-- A part is less deep than its whole. At one depth arguments stand above what they are, and a call above its arguments.

abbrev pub decreases-expression : goal.decreases-expression
decreases-expression l = 3 * goal.size-expression l

abbrev pub decreases-link : goal.decreases-link
decreases-link l = 3 * goal.size-link l

abbrev pub decreases-arguments : goal.decreases-arguments
decreases-arguments l = 3 * goal.size-arguments l + 1

abbrev pub decreases-prefix : goal.decreases-prefix
decreases-prefix l = 3 * goal.size-prefix l + 1

abbrev pub decreases-list : goal.decreases-list
decreases-list l = 3 * goal.size-list l + 1

abbrev pub decreases-dictionary : goal.decreases-dictionary
decreases-dictionary l = 3 * goal.size-dictionary l + 1

abbrev pub decreases-call : goal.decreases-call
decreases-call l = 3 * goal.size-call l + 2

abbrev pub decreases-postfix : goal.decreases-postfix
decreases-postfix l = 3 * max (size-Expression l.first.now) (most (λ x. size-Link x) l.links.now) + 1

abbrev pub decreases-chain : goal.decreases-chain
decreases-chain l = 3 * max (size-Expression l.first.now) (most (λ x. size-Operand x) l.others.now) + 1

abbrev pub decreases-ternary : goal.decreases-ternary
decreases-ternary l = 3 * max (size-Expression l.test.now) (max (size-Expression l.yes.now) (size-Expression l.no.now)) + 1

-- ---- the loops: what was there before each stays

abbrev pub invariant-list-loop-item : goal.invariant-list-loop-item
invariant-list-loop-item l = record {
  grows : Grows l.fn.self l.self;
  parts : Parts (λ n i. nat_lt i n) tree_at (trees_in l.self) l.numbers.items (map expression_of (take l.item-index l.items));
}

abbrev pub invariant-dictionary-loop-entry : goal.invariant-dictionary-loop-entry
invariant-dictionary-loop-entry l = record {
  grows : Grows l.fn.self l.self;
  parts : Parts entry_within entry_at (trees_in l.self) l.nodes.items (map entry_of (take l.entry-index l.entries));
}

abbrev pub invariant-arguments-loop-argument : goal.invariant-arguments-loop-argument
invariant-arguments-loop-argument l = record {
  grows : Grows l.fn.self l.self;
  parts : Parts argument_within argument_at (trees_in l.self) l.nodes.items (map argument_of (take l.argument-index l.arguments));
}

abbrev pub invariant-chain-loop-operand : goal.invariant-chain-loop-operand
invariant-chain-loop-operand l = record {
  grows : Grows l.fn.self l.self;
  later : Grows l.initial.self l.self;
  parts : Parts operand_within operand_at (trees_in l.self) l.nodes.items (map operand_of (take l.operand-index l.others));
}

abbrev pub invariant-postfix-loop-link : goal.invariant-postfix-loop-link
invariant-postfix-loop-link l = record {
  grows : Grows l.fn.self l.self;
  later : Grows l.initial.self l.self;
  parts : Parts link_within link_at (trees_in l.self) l.nodes.items (map link_of (take l.link-index l.links));
}

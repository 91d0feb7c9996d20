use Rattle.std.proofs.Common.{◌+◌, ◌*◌, ◌≤◌, length, map}
use Rattle.syntax.specs.lexer.Lexeme.{lexemes}
use Rattle.syntax.specs.ExpressionTree.{argument_of, entry_of, expression_of, link_of, operand_of}
use Rattle.syntax.specs.declared.lexer.token.TokenKind.TheVariants as Kinds
use Rattle.syntax.specs.Expressions.{is_named}
use Rattle.syntax.specs.Form.{same_state}
use Rattle.syntax.specs.Parts.{stands_for}
use Rattle.syntax.specs.ReadingExpressions.{argument_at, elements_at, entries_at, ternary_at, entry_at, given_at, inner_at, link_at}
use Rattle.syntax.specs.ReadingExpressions.{links_at, links_on, operand_at}
use Rattle.syntax.specs.ReadingExpressions.{operands_at, operator_of, part_at, unary_at}
use Rattle.syntax.proofs.ExpressionTails.{weight}
use Rattle.syntax.proofs.Loops.{Pending, StillReads}
use Rattle.syntax.proofs.parser.Parser.+expression.Given as goal

abbrev pub decreases-arguments : goal.decreases-arguments
decreases-arguments l = 64 * l.levels + 1

abbrev pub decreases-call : goal.decreases-call
decreases-call l = 64 * l.levels + 2

abbrev pub decreases-group : goal.decreases-group
decreases-group l = 64 * l.levels + 1

abbrev pub decreases-list : goal.decreases-list
decreases-list l = 64 * l.levels + 1

abbrev pub decreases-dictionary : goal.decreases-dictionary
decreases-dictionary l = 64 * l.levels + 1

abbrev pub decreases-base : goal.decreases-base
decreases-base l = 64 * l.levels + 3

abbrev pub decreases-method : goal.decreases-method
decreases-method l = 64 * l.levels + 2

abbrev pub decreases-index : goal.decreases-index
decreases-index l = 64 * l.levels + 1

abbrev pub decreases-link : goal.decreases-link
decreases-link l = 64 * l.levels + 3

abbrev pub decreases-links : goal.decreases-links
decreases-links l = 64 * l.levels + 4

abbrev pub decreases-postfix : goal.decreases-postfix
decreases-postfix l = 64 * l.levels + 5

abbrev pub decreases-prefixed : goal.decreases-prefixed
decreases-prefixed l = 64 * l.levels + 1

abbrev pub decreases-unary : goal.decreases-unary
decreases-unary l = 64 * l.levels + 6

abbrev pub decreases-compared : goal.decreases-compared
decreases-compared l = 64 * l.levels + 19

abbrev pub decreases-comparison : goal.decreases-comparison
decreases-comparison l = 64 * l.levels + 20

abbrev pub decreases-branches : goal.decreases-branches
decreases-branches l = 64 * l.levels + 28

abbrev pub decreases-choice : goal.decreases-choice
decreases-choice l = 64 * l.levels + 29

abbrev pub decreases-ternary : goal.decreases-ternary
decreases-ternary l = 64 * l.levels + 50

abbrev pub decreases-ended : goal.decreases-ended
decreases-ended l = 64 * l.levels + 51

abbrev pub decreases-entry : goal.decreases-entry
decreases-entry l = 64 * l.levels + 52

abbrev pub decreases-elements : goal.decreases-elements
decreases-elements l = 64 * l.levels + 51

abbrev pub decreases-entries : goal.decreases-entries
decreases-entries l = 64 * l.levels + 53

abbrev pub decreases-argument : goal.decreases-argument
decreases-argument l = 64 * l.levels + 51

abbrev pub decreases-given : goal.decreases-given
decreases-given l = 64 * l.levels + 52

abbrev pub decreases-part : goal.decreases-part
decreases-part l = 64 * l.levels + weight l.rank + 0

abbrev pub decreases-operands : goal.decreases-operands
decreases-operands l = 64 * l.levels + weight l.rank + 1

abbrev pub decreases-chain : goal.decreases-chain
decreases-chain l = 64 * l.levels + weight l.rank + 2

abbrev pub invariant-operands-loop-operator : goal.invariant-operands-loop-operator
invariant-operands-loop-operator l =
    record {
      within : length l.self.rest.now ≤ length l.fn.self.rest.now;
      read : StillReads (stands_for (operator_of l.rank)) (operand_at (operator_of l.rank) (part_at l.rank (unary_at l.levels l.ternaries))) (map operand_of l.others.items) (lexemes l.self.rest.now)
          (operands_at (operator_of l.rank) (part_at l.rank (unary_at l.levels l.ternaries)) (lexemes l.fn.self.rest.now));
    }

abbrev pub decreases-operands-loop-operator : goal.decreases-operands-loop-operator
decreases-operands-loop-operator l = length l.self.rest.now

abbrev pub invariant-links-loop-self : goal.invariant-links-loop-self
invariant-links-loop-self l =
    record {
      within : length l.self.rest.now ≤ length l.fn.self.rest.now;
      read : StillReads links_on (link_at (inner_at l.levels) l.ternaries) (map link_of l.links.items) (lexemes l.self.rest.now)
          (links_at (inner_at l.levels) l.ternaries (lexemes l.fn.self.rest.now));
    }

abbrev pub decreases-links-loop-self : goal.decreases-links-loop-self
decreases-links-loop-self l = length l.self.rest.now

abbrev pub invariant-elements-loop-more : goal.invariant-elements-loop-more
invariant-elements-loop-more l =
    record {
      within : length l.self.rest.now ≤ length l.fn.self.rest.now;
      read : Pending Kinds.CloseBracket (λ s. ternary_at (unary_at l.levels) l.ternaries) same_state l.more tt (map expression_of l.items.items) (lexemes l.self.rest.now)
          (elements_at (unary_at l.levels) l.ternaries (lexemes l.fn.self.rest.now));
    }

abbrev pub decreases-elements-loop-more : goal.decreases-elements-loop-more
decreases-elements-loop-more l = length l.self.rest.now

abbrev pub invariant-entries-loop-more : goal.invariant-entries-loop-more
invariant-entries-loop-more l =
    record {
      within : length l.self.rest.now ≤ length l.fn.self.rest.now;
      read : Pending Kinds.CloseBrace (λ s. entry_at (ternary_at (unary_at l.levels) l.ternaries)) same_state l.more tt (map entry_of l.entries.items) (lexemes l.self.rest.now)
          (entries_at (unary_at l.levels) l.ternaries (lexemes l.fn.self.rest.now));
    }

abbrev pub decreases-entries-loop-more : goal.decreases-entries-loop-more
decreases-entries-loop-more l = length l.self.rest.now

abbrev pub invariant-given-loop-more : goal.invariant-given-loop-more
invariant-given-loop-more l =
    record {
      within : length l.self.rest.now ≤ length l.fn.self.rest.now;
      read : Pending Kinds.CloseParenthesis (argument_at (ternary_at (unary_at l.levels) l.ternaries)) is_named l.more l.behind (map argument_of l.items.items) (lexemes l.self.rest.now)
          (given_at (unary_at l.levels) l.ternaries (lexemes l.fn.self.rest.now));
    }

abbrev pub decreases-given-loop-more : goal.decreases-given-loop-more
decreases-given-loop-more l = length l.self.rest.now

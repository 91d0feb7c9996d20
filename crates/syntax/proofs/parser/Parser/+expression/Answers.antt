use Rattle.std.proofs.Common.{List, Option, Result, Ok, ap, not, refl, ◌∙◌, sym, subst, false, ◌≡◌, map, [], ◌∷◌, ◌++◌, arith, ℕ, ◌<◌, length}
use Rattle.std.proofs.Common.{IfOk}
use Rattle.std.proofs.lemmas.Result.{err_from_is_err_and}
use Rattle.std.specs.Option.{option_map}
use Rattle.syntax.specs.declared.stop.ReadError.{ReadError}
use Rattle.syntax.specs.declared.stop.ParseStop.{ParseStop}
use Rattle.syntax.specs.lexer.Lexeme.{Lexeme, lexemes}
use Rattle.syntax.specs.declared.lexer.token.TokenKind.TheVariants as Kinds
use Rattle.syntax.specs.declared.tree.Argument.{Argument}
use Rattle.syntax.specs.declared.tree.Operand.{Operand}
use Rattle.syntax.specs.ExpressionTree.{ArgumentTree, argument_of, entry_of, expression_of, link_of, operand_of}
use Rattle.syntax.specs.Expressions.{is_named}
use Rattle.syntax.specs.Form.{same_state}
use Rattle.std.proofs.lemmas.List.{map_push}
use Rattle.syntax.specs.Parts.{stands_for}
use Rattle.syntax.specs.ReadingExpressions.{argument_at, base_at, disjunction_at, elements_at, entries_at, entry_at, given_at, inner_at}
use Rattle.syntax.specs.ReadingExpressions.{link_at, links_at, links_on, operand_at, operands_at, operator_of, part_at, sum_at, ternary_at}
use Rattle.syntax.specs.ReadingExpressions.{comparison_at, postfix_at, unary_at}
use Rattle.syntax.proofs.ComparisonTails.{compared_fails, compared_reads, comparison_alone, comparison_fails, comparison_reads}
use Rattle.syntax.proofs.ComparisonTails.{comparison_stops, operator_fails}
use Rattle.syntax.proofs.ExpressionTails.{argument_label_fails, argument_reads, argument_value_fails, branches_colon_fails, branches_read}
use Rattle.syntax.proofs.ExpressionTails.{chain_more, one_fails, operand_fails, operand_reads, other_fails, postfix_alone}
use Rattle.syntax.proofs.ExpressionTails.{postfix_base_fails, postfix_links_fail, postfix_more, question_fails, taken_head, taken_other}
use Rattle.syntax.proofs.ExpressionTails.{ternary_alone, ternary_asks, ternary_branches_fail, ternary_test_fails, unary_prefixed}
use Rattle.syntax.proofs.Loops.{pending_fails, pending_first, pending_more, still_ends, still_fails, still_first, still_more}
use Rattle.syntax.proofs.Made.{alone_kept, boxed_read, ended_fails, ended_reads, failed_kept, made_fails, made_of, read_ok, so_ok}
use Rattle.syntax.proofs.Tails.{length_lexemes}
use Rattle.syntax.proofs.Views.{chain_seen, postfix_seen, some_kept, ternary_seen}
use Rattle.syntax.proofs.parser.Parser.+expression.Goals as goal
use Rattle.syntax.proofs.parser.Parser.+expression.Goals.{choice-then-is_err-via-then-is_err}
use Rattle.syntax.proofs.parser.Parser.+expression.Goals.{choice-then-is_err-via-else-is_err+then-not-asks}
use Rattle.syntax.proofs.parser.Parser.+expression.Goals.{comparison-then-is_err-via-then-is_err}
use Rattle.syntax.proofs.parser.Parser.+expression.Goals.{comparison-then-is_err-via-else-is_err+then-not-compares}
use Rattle.syntax.proofs.parser.Parser.+expression.Goals.{postfix-then-is_err-via-then-is_err}
use Rattle.syntax.proofs.parser.Parser.+expression.Goals.{postfix-then-is_err-via-else-is_err+then-not-links_on}

-- what was read, as the tree of what is returned
returned : {A : Type 0} (read : Result (A × List Lexeme) ParseStop) (a b : A) (rest : List Lexeme) → read ≡ Ok (a, rest) → a ≡ b → read ≡ Ok (b, rest)
returned {A} read a b rest e same = e ∙ ap (λ (x : A). Ok (x, rest)) same

-- ---- chains

pub operands-loop-operator-init : goal.operands-loop-operator-init
unfolding operands_at
operands-loop-operator-init t c = record {
  within = omega arith;
  read = rw c.new-others.ensures.items (still_first _ _ (lexemes c.args.self.now.rest.now));
}

pub operands-returns-in_err-put_operand-clause-read : goal.operands-returns-in_err-put_operand-clause-read
operands-returns-in_err-put_operand-clause-read t c =
    let p = err_from_is_err_and c.from_residual.result c.from_residual.ensures.1 in
    let f = operator_of c.args.rank in
    let part = part_at c.args.rank (unary_at c.args.levels c.args.ternaries) in
    let d = c.in_err-put_operand.field-0.0 in
    let ts = lexemes c.loop-operator.self.rest.now in
    let mid = lexemes c.operator.new.self.rest.now in
    rw (p.1, p.2) (still_fails (stands_for f) (operand_at f part) (map operand_of c.loop-operator.others.items) ts _ d
    c.loop-operator.invariant.read (taken_head f c.operator.result c.in-Some.operator ts mid c.operator.ensures.read c.in-Some.is)
    (operand_fails f part c.operator.result c.in-Some.operator ts mid d c.operator.ensures.read c.in-Some.is
    (made_fails _ expression_of c.part-value.result d (lexemes c.part-value.new.self.rest.now) (part mid) c.in_err-put_operand.ensures
    c.part-value.ensures.read)))

pub operands-loop-operator-preserved : goal.operands-loop-operator-preserved
operands-loop-operator-preserved t c =
    let f = operator_of c.args.rank in
    let part = part_at c.args.rank (unary_at c.args.levels c.args.ternaries) in
    let ts = lexemes c.loop-operator.self.rest.now in
    let mid = lexemes c.operator.new.self.rest.now in
    let rest = lexemes c.part-value.new.self.rest.now in
    let w = made_of _ c.part-value.result c.in_ok-put_operand.field-0 c.in_ok-put_operand.ensures in
    let h = read_ok expression_of c.part-value.result w.0 rest (part mid) w.1 c.part-value.ensures.read in
    let lt : length c.part-value.new.self.rest.now < length c.operator.new.self.rest.now = so_ok c.part-value.result w.0 w.1 c.part-value.ensures.shorter in
    record {
      within = omega (arith, lt, c.operator.ensures.within, c.loop-operator.invariant.within);
      read = rw w.2 (still_more (stands_for f) (operand_at f part) (map operand_of c.loop-operator.others.items) ts _
          (c.in-Some.operator, expression_of w.0) rest c.loop-operator.invariant.read
          (taken_head f c.operator.result c.in-Some.operator ts mid c.operator.ensures.read c.in-Some.is)
          (operand_reads f part c.operator.result c.in-Some.operator ts mid (expression_of w.0) rest c.operator.ensures.read c.in-Some.is h)
          (omega (
            arith,
            lt,
            c.operator.ensures.within,
            length_lexemes c.part-value.new.self.rest.now,
            length_lexemes c.loop-operator.self.rest.now,
          )));
    }

pub operands-returns-clause-read : goal.operands-returns-clause-read
operands-returns-clause-read t c =
    let f = operator_of c.args.rank in
    let part = part_at c.args.rank (unary_at c.args.levels c.args.ternaries) in
    let ts = lexemes c.loop-operator.self.rest.now in
    let w = taken_other f c.operator.result ts (lexemes c.operator.new.self.rest.now) c.operator.ensures.read c.in_default.is in
    rw w.0 (returned _ _ _ _ (still_ends (stands_for f) (operand_at f part) (map operand_of c.loop-operator.others.items) ts _
    c.loop-operator.invariant.read w.1) (ap (map operand_of) (sym c.fit.ensures)))

pub chain-returns-clause-read : goal.chain-returns-clause-read
chain-returns-clause-read t c =
    let f = operator_of c.args.rank in
    let part = part_at c.args.rank (unary_at c.args.levels c.args.ternaries) in
    let ts = lexemes c.args.self.now.rest.now in
    let mid = lexemes c.part-first.new.self.rest.now in
    let h = boxed_read expression_of c.part-first.result c.in_ok-first.first mid (part ts) c.in_ok-first.ensures c.part-first.ensures.read in
    returned _ _ _ _ (chain_more f part ts (expression_of c.in_ok-first.first.value) mid (map operand_of c.in_ok-others.others.items)
    (lexemes c.operands.new.self.rest.now) h (sym c.operates.ensures ∙ c.if-not-operates.false) c.in_ok-others.ensures.read)
    (chain_seen c.in_ok-first.first c.in_ok-others.others c.first_line-line.result _ _ refl (sym c.first_line-line.ensures))

-- ---- comparisons

pub compared-returns-in_err-operator-clause-read : goal.compared-returns-in_err-operator-clause-read
compared-returns-in_err-operator-clause-read t c =
    let p = err_from_is_err_and c.from_residual.result c.from_residual.ensures.1 in
    rw (p.1, p.2) (operator_fails (sum_at (unary_at c.args.levels c.args.ternaries)) (lexemes c.args.self.now.rest.now)
    c.in_err-operator.field-0.0 c.in_err-operator.ensures.read)

pub compared-returns-in_err-put_operand-clause-read : goal.compared-returns-in_err-put_operand-clause-read
unfolding sum_at
compared-returns-in_err-put_operand-clause-read t c =
    let p = err_from_is_err_and c.from_residual-in_err-put_operand.result c.from_residual-in_err-put_operand.ensures.1 in
    let part = sum_at (unary_at c.args.levels c.args.ternaries) in
    let d = c.in_err-put_operand.field-0.0 in
    let mid = lexemes c.comparison_operator.new.self.rest.now in
    rw (p.1, p.2) (compared_fails part (lexemes c.args.self.now.rest.now) c.in_ok-operator.operator mid c.in_ok-operator.ensures.read d
    (made_fails _ expression_of c.chain-value.result d (lexemes c.chain-value.new.self.rest.now) (part mid) c.in_err-put_operand.ensures
    c.chain-value.ensures.read))

pub compared-returns-clause-read : goal.compared-returns-clause-read
unfolding sum_at
compared-returns-clause-read t c =
    let part = sum_at (unary_at c.args.levels c.args.ternaries) in
    let o = c.in_ok-operator.operator in
    let mid = lexemes c.comparison_operator.new.self.rest.now in
    let rest = lexemes c.chain-value.new.self.rest.now in
    let w = made_of _ c.chain-value.result c.in_ok-put_operand.field-0 c.in_ok-put_operand.ensures in
    let h = read_ok expression_of c.chain-value.result w.0 rest (part mid) w.1 c.chain-value.ensures.read in
    returned _ _ _ _ (compared_reads part (lexemes c.args.self.now.rest.now) o mid c.in_ok-operator.ensures.read (expression_of w.0) rest h)
    (sym (w.2 ∙ ap (λ (os : List Operand). map operand_of os ++ (o, expression_of w.0) ∷ []) c.in_ok-others.ensures.items))

pub comparison-returns-then-is_err-clause-read : goal.comparison-returns-then-is_err-clause-read
unfolding sum_at
comparison-returns-then-is_err-clause-read t c =
    let u = unary_at c.args.levels c.args.ternaries in
    let ts = lexemes c.args.self.now.rest.now in
    let mid = lexemes c.chain-first.new.self.rest.now in
    elim c.then-is_err.branch [
      | comparison-then-is_err-via-then-is_err w ↦
          failed_kept expression_of c.chain-first.result mid (sum_at u ts) (comparison_at u ts) c.chain-first.ensures.read
          (comparison_fails u ts) (sym c.is_err.ensures.value ∙ w.if-is_err.true)
      | comparison-then-is_err-via-else-is_err+then-not-compares w ↦
          alone_kept expression_of c.chain-first.result mid (sum_at u ts) (comparison_at u ts) c.chain-first.ensures.read
          (comparison_fails u ts) (λ x h. comparison_alone u ts (expression_of x) mid h (sym w.compares.ensures ∙ w.if-not-compares.true))
    ]

pub comparison-returns-in_err-others-clause-read : goal.comparison-returns-in_err-others-clause-read
unfolding sum_at
comparison-returns-in_err-others-clause-read t c =
    let p = err_from_is_err_and c.from_residual-in_err-others.result c.from_residual-in_err-others.ensures.1 in
    let u = unary_at c.args.levels c.args.ternaries in
    let ts = lexemes c.args.self.now.rest.now in
    let mid = lexemes c.chain-first.new.self.rest.now in
    rw (p.1, p.2) (comparison_stops u ts (expression_of c.in_ok-first.first.value) mid
    (boxed_read expression_of c.chain-first.result c.in_ok-first.first mid (sum_at u ts) c.in_ok-first.ensures c.chain-first.ensures.read)
    (sym c.compares.ensures ∙ c.if-not-compares.false) c.in_err-others.field-0.0 c.in_err-others.ensures.read)

pub comparison-returns-clause-read : goal.comparison-returns-clause-read
unfolding sum_at
comparison-returns-clause-read t c =
    let u = unary_at c.args.levels c.args.ternaries in
    let ts = lexemes c.args.self.now.rest.now in
    let mid = lexemes c.chain-first.new.self.rest.now in
    returned _ _ _ _ (comparison_reads u ts (expression_of c.in_ok-first.first.value) mid
    (boxed_read expression_of c.chain-first.result c.in_ok-first.first mid (sum_at u ts) c.in_ok-first.ensures c.chain-first.ensures.read)
    (sym c.compares.ensures ∙ c.if-not-compares.false) (map operand_of c.in_ok-others.others.items) (lexemes c.compared.new.self.rest.now)
    c.in_ok-others.ensures.read)
    (chain_seen c.in_ok-first.first c.in_ok-others.others c.first_line-line.result _ _ refl (sym c.first_line-line.ensures))

-- ---- ternaries

pub branches-returns-in_err-take-clause-read : goal.branches-returns-in_err-take-clause-read
branches-returns-in_err-take-clause-read t c =
    let p = err_from_is_err_and c.from_residual.result c.from_residual.ensures.1 in
    rw (p.1, p.2) (question_fails (disjunction_at (unary_at c.args.levels false)) (lexemes c.args.self.now.rest.now) c.in_err-take.field-0.0
    c.in_err-take.ensures.read)

pub branches-returns-in_err-yes-clause-read : goal.branches-returns-in_err-yes-clause-read
unfolding disjunction_at
branches-returns-in_err-yes-clause-read t c =
    let p = err_from_is_err_and c.from_residual-in_err-yes.result c.from_residual-in_err-yes.ensures.1 in
    let part = disjunction_at (unary_at c.args.levels false) in
    let d = c.in_err-yes.field-0.0 in
    let mid = lexemes c.take.new.self.rest.now in
    rw (p.1, p.2) (one_fails part (lexemes c.args.self.now.rest.now) _ mid c.in_ok-take.ensures.read d
    (made_fails _ expression_of c.chain-yes.result d (lexemes c.chain-yes.new.self.rest.now) (part mid) c.in_err-yes.ensures
    c.chain-yes.ensures.read))

pub branches-returns-in_err-yes-2-clause-read : goal.branches-returns-in_err-yes-2-clause-read
unfolding disjunction_at
branches-returns-in_err-yes-2-clause-read t c =
    let p = err_from_is_err_and c.from_residual-in_err-yes-2.result c.from_residual-in_err-yes-2.ensures.1 in
    let part = disjunction_at (unary_at c.args.levels false) in
    let mid = lexemes c.take.new.self.rest.now in
    let behind = lexemes c.chain-yes.new.self.rest.now in
    rw (p.1, p.2) (branches_colon_fails part (lexemes c.args.self.now.rest.now) _ mid c.in_ok-take.ensures.read
    (expression_of c.in_ok-yes.yes.value) behind
    (boxed_read expression_of c.chain-yes.result c.in_ok-yes.yes behind (part mid) c.in_ok-yes.ensures c.chain-yes.ensures.read)
    c.in_err-yes-2.field-0.0 c.in_err-yes-2.ensures.read)

pub branches-returns-in_err-no-clause-read : goal.branches-returns-in_err-no-clause-read
unfolding disjunction_at
branches-returns-in_err-no-clause-read t c =
    let p = err_from_is_err_and c.from_residual-in_err-no.result c.from_residual-in_err-no.ensures.1 in
    let part = disjunction_at (unary_at c.args.levels false) in
    let d = c.in_err-no.field-0.0 in
    let mid = lexemes c.take.new.self.rest.now in
    let behind = lexemes c.chain-yes.new.self.rest.now in
    let other = lexemes c.close.new.self.rest.now in
    rw (p.1, p.2) (other_fails part (lexemes c.args.self.now.rest.now) _ mid c.in_ok-take.ensures.read
    (expression_of c.in_ok-yes.yes.value) behind
    (boxed_read expression_of c.chain-yes.result c.in_ok-yes.yes behind (part mid) c.in_ok-yes.ensures c.chain-yes.ensures.read)
    _ other c.in_ok-yes-2.ensures.read d
    (made_fails _ expression_of c.chain-no.result d (lexemes c.chain-no.new.self.rest.now) (part other) c.in_err-no.ensures
    c.chain-no.ensures.read))

pub branches-returns-clause-read : goal.branches-returns-clause-read
unfolding disjunction_at
branches-returns-clause-read t c =
    let part = disjunction_at (unary_at c.args.levels false) in
    let mid = lexemes c.take.new.self.rest.now in
    let behind = lexemes c.chain-yes.new.self.rest.now in
    let other = lexemes c.close.new.self.rest.now in
    let rest = lexemes c.chain-no.new.self.rest.now in
    returned _ _ _ _ (branches_read part (lexemes c.args.self.now.rest.now) _ mid c.in_ok-take.ensures.read
    (expression_of c.in_ok-yes.yes.value) behind
    (boxed_read expression_of c.chain-yes.result c.in_ok-yes.yes behind (part mid) c.in_ok-yes.ensures c.chain-yes.ensures.read)
    _ other c.in_ok-yes-2.ensures.read (expression_of c.in_ok-no.no.value) rest
    (boxed_read expression_of c.chain-no.result c.in_ok-no.no rest (part other) c.in_ok-no.ensures c.chain-no.ensures.read))
    (ap (λ b. (expression_of b.value, expression_of c.in_ok-no.no.value)) (sym c.in_ok-yes-2.ensures.same))

pub choice-returns-then-is_err-clause-read : goal.choice-returns-then-is_err-clause-read
unfolding disjunction_at
choice-returns-then-is_err-clause-read t c =
    let u = unary_at c.args.levels in
    let b = c.args.ternaries in
    let ts = lexemes c.args.self.now.rest.now in
    let mid = lexemes c.chain-test.new.self.rest.now in
    elim c.then-is_err.branch [
      | choice-then-is_err-via-then-is_err w ↦
          failed_kept expression_of c.chain-test.result mid (disjunction_at (u b) ts) (ternary_at u b ts) c.chain-test.ensures.read
          (ternary_test_fails u b ts) (sym c.is_err.ensures.value ∙ w.if-is_err.true)
      | choice-then-is_err-via-else-is_err+then-not-asks w ↦
          alone_kept expression_of c.chain-test.result mid (disjunction_at (u b) ts) (ternary_at u b ts) c.chain-test.ensures.read
          (ternary_test_fails u b ts) (λ x h. ternary_alone u b ts (expression_of x) mid h (sym w.asks.ensures ∙ w.if-not-asks.true))
    ]

pub choice-returns-in_err-yes-clause-read : goal.choice-returns-in_err-yes-clause-read
unfolding disjunction_at
choice-returns-in_err-yes-clause-read t c =
    let p = err_from_is_err_and c.from_residual-in_err-yes.result c.from_residual-in_err-yes.ensures.1 in
    let u = unary_at c.args.levels in
    let b = c.args.ternaries in
    let ts = lexemes c.args.self.now.rest.now in
    let mid = lexemes c.chain-test.new.self.rest.now in
    rw (p.1, p.2) (ternary_branches_fail u b ts (expression_of c.in_ok-test.test.value) mid
    (boxed_read expression_of c.chain-test.result c.in_ok-test.test mid (disjunction_at (u b) ts) c.in_ok-test.ensures c.chain-test.ensures.read)
    (sym c.asks.ensures ∙ c.if-not-asks.false) c.in_err-yes.field-0.0 c.in_err-yes.ensures.read)

pub choice-returns-clause-read : goal.choice-returns-clause-read
unfolding disjunction_at
choice-returns-clause-read t c =
    let u = unary_at c.args.levels in
    let b = c.args.ternaries in
    let ts = lexemes c.args.self.now.rest.now in
    let mid = lexemes c.chain-test.new.self.rest.now in
    returned _ _ _ _ (ternary_asks u b ts (expression_of c.in_ok-test.test.value) mid
    (boxed_read expression_of c.chain-test.result c.in_ok-test.test mid (disjunction_at (u b) ts) c.in_ok-test.ensures c.chain-test.ensures.read)
    (sym c.asks.ensures ∙ c.if-not-asks.false) (expression_of c.in_ok-yes.yes.value) (expression_of c.in_ok-yes.no.value)
    (lexemes c.branches.new.self.rest.now) c.in_ok-yes.ensures.read)
    (ternary_seen c.in_ok-test.test c.in_ok-yes.yes c.in_ok-yes.no c.first_line-line.result _ _ _ _ refl refl refl (sym c.first_line-line.ensures))

pub ended-returns-in_err-value-clause-read : goal.ended-returns-in_err-value-clause-read
ended-returns-in_err-value-clause-read t c =
    let p = err_from_is_err_and c.from_residual.result c.from_residual.ensures.1 in
    rw (p.1, p.2) (ended_fails c.args.kind (ternary_at (unary_at c.args.levels) c.args.ternaries) (lexemes c.args.self.now.rest.now)
    c.in_err-value.field-0.0 c.in_err-value.ensures.read)

pub ended-returns-clause-read : goal.ended-returns-clause-read
ended-returns-clause-read t c = ended_reads c.args.kind (ternary_at (unary_at c.args.levels) c.args.ternaries)
    (lexemes c.args.self.now.rest.now) expression_of c.in_ok-value.value (lexemes c.ternary.new.self.rest.now) c.close.result
    (lexemes c.close.new.self.rest.now) c.in_ok-value.ensures.read c.close.ensures.read c.close.ensures.same

-- ---- lists

pub elements-loop-more-init : goal.elements-loop-more-init
unfolding elements_at
elements-loop-more-init t c = record {
  within = omega arith;
  read = rw c.new-items.ensures.items (pending_first Kinds.CloseBracket (λ s. ternary_at (unary_at c.args.levels) c.args.ternaries) same_state _ tt
      (lexemes c.args.self.now.rest.now) (ap not c.begins-more.ensures));
}

pub elements-returns-in_err-put-clause-read : goal.elements-returns-in_err-put-clause-read
elements-returns-in_err-put-clause-read t c =
    let p = err_from_is_err_and c.from_residual.result c.from_residual.ensures.1 in
    let part = ternary_at (unary_at c.args.levels) c.args.ternaries in
    let d = c.in_err-put.field-0.0 in
    let ts = lexemes c.loop-more.self.rest.now in
    rw (p.1, p.2) (pending_fails Kinds.CloseBracket (λ s. part) same_state c.loop-more.more tt (map expression_of c.loop-more.items.items) ts _
    c.loop-more.invariant.read d c.loop-more-test.true
    (made_fails _ expression_of c.ternary-item.result d (lexemes c.ternary-item.new.self.rest.now) (part ts) c.in_err-put.ensures
    c.ternary-item.ensures.read))

pub elements-loop-more-preserved : goal.elements-loop-more-preserved
elements-loop-more-preserved t c =
    let part = ternary_at (unary_at c.args.levels) c.args.ternaries in
    let ts = lexemes c.loop-more.self.rest.now in
    let mid = lexemes c.ternary-item.new.self.rest.now in
    let w = made_of _ c.ternary-item.result c.in_ok-put.field-0 c.in_ok-put.ensures in
    let h = read_ok expression_of c.ternary-item.result w.0 mid (part ts) w.1 c.ternary-item.ensures.read in
    let lt : length c.ternary-item.new.self.rest.now < length c.loop-more.self.rest.now = so_ok c.ternary-item.result w.0 w.1 c.ternary-item.ensures.shorter in
    let e : map expression_of c.put.new.items.items ≡ map expression_of c.loop-more.items.items ++ expression_of w.0 ∷ [] =
    ap (map expression_of) w.2 ∙ map_push _ c.loop-more.items.items w.0 in
    record {
      within = omega (arith, lt, c.more-more.ensures.within, c.loop-more.invariant.within);
      read = rw e (pending_more Kinds.CloseBracket (λ s. part) same_state c.loop-more.more tt (map expression_of c.loop-more.items.items) ts _
          c.loop-more.invariant.read (expression_of w.0) mid c.more-more.result (lexemes c.more-more.new.self.rest.now) tt c.loop-more-test.true h
          (omega (arith, lt, length_lexemes c.ternary-item.new.self.rest.now, length_lexemes c.loop-more.self.rest.now)) c.more-more.ensures.read refl);
    }

pub entries-loop-more-init : goal.entries-loop-more-init
unfolding entries_at
entries-loop-more-init t c = record {
  within = omega arith;
  read = rw c.new-entries.ensures.items (pending_first Kinds.CloseBrace (λ s. entry_at (ternary_at (unary_at c.args.levels) c.args.ternaries)) same_state _
      tt (lexemes c.args.self.now.rest.now) (ap not c.begins-more.ensures));
}

pub entries-returns-in_err-put-clause-read : goal.entries-returns-in_err-put-clause-read
entries-returns-in_err-put-clause-read t c =
    let p = err_from_is_err_and c.from_residual.result c.from_residual.ensures.1 in
    let part = entry_at (ternary_at (unary_at c.args.levels) c.args.ternaries) in
    let d = c.in_err-put.field-0.0 in
    let ts = lexemes c.loop-more.self.rest.now in
    rw (p.1, p.2) (pending_fails Kinds.CloseBrace (λ s. part) same_state c.loop-more.more tt (map entry_of c.loop-more.entries.items) ts _
    c.loop-more.invariant.read d c.loop-more-test.true
    (made_fails _ entry_of c.entry-entry.result d (lexemes c.entry-entry.new.self.rest.now) (part ts) c.in_err-put.ensures
    c.entry-entry.ensures.read))

pub entries-loop-more-preserved : goal.entries-loop-more-preserved
entries-loop-more-preserved t c =
    let part = entry_at (ternary_at (unary_at c.args.levels) c.args.ternaries) in
    let ts = lexemes c.loop-more.self.rest.now in
    let mid = lexemes c.entry-entry.new.self.rest.now in
    let w = made_of _ c.entry-entry.result c.in_ok-put.field-0 c.in_ok-put.ensures in
    let h = read_ok entry_of c.entry-entry.result w.0 mid (part ts) w.1 c.entry-entry.ensures.read in
    let lt : length c.entry-entry.new.self.rest.now < length c.loop-more.self.rest.now = so_ok c.entry-entry.result w.0 w.1 c.entry-entry.ensures.shorter in
    let e : map entry_of c.put.new.items.items ≡ map entry_of c.loop-more.entries.items ++ entry_of w.0 ∷ [] =
    ap (map entry_of) w.2 ∙ map_push _ c.loop-more.entries.items w.0 in
    record {
      within = omega (arith, lt, c.more-more.ensures.within, c.loop-more.invariant.within);
      read = rw e (pending_more Kinds.CloseBrace (λ s. part) same_state c.loop-more.more tt (map entry_of c.loop-more.entries.items) ts _
          c.loop-more.invariant.read (entry_of w.0) mid c.more-more.result (lexemes c.more-more.new.self.rest.now) tt c.loop-more-test.true h
          (omega (arith, lt, length_lexemes c.entry-entry.new.self.rest.now, length_lexemes c.loop-more.self.rest.now)) c.more-more.ensures.read refl);
    }

-- ---- arguments

pub given-loop-more-init : goal.given-loop-more-init
unfolding given_at
given-loop-more-init t c = record {
  within = omega arith;
  read = rw c.new-items.ensures.items (pending_first Kinds.CloseParenthesis (argument_at (ternary_at (unary_at c.args.levels) c.args.ternaries)) is_named _
      false (lexemes c.args.self.now.rest.now) (ap not c.begins-more.ensures));
}

pub given-returns-in_err-name-clause-read : goal.given-returns-in_err-name-clause-read
given-returns-in_err-name-clause-read t c =
    let p = err_from_is_err_and c.from_residual.result c.from_residual.ensures.1 in
    let part = ternary_at (unary_at c.args.levels) c.args.ternaries in
    let d = c.in_err-name.field-0.0 in
    let ts = lexemes c.loop-more.self.rest.now in
    rw (p.1, p.2) (pending_fails Kinds.CloseParenthesis (argument_at part) is_named c.loop-more.more c.loop-more.behind
    (map argument_of c.loop-more.items.items) ts _ c.loop-more.invariant.read d c.loop-more-test.true
    (argument_label_fails part c.loop-more.behind ts d c.in_err-name.ensures.read))

pub given-returns-in_err-put-clause-read : goal.given-returns-in_err-put-clause-read
given-returns-in_err-put-clause-read t c =
    let p = err_from_is_err_and c.from_residual-in_err-put.result c.from_residual-in_err-put.ensures.1 in
    let part = ternary_at (unary_at c.args.levels) c.args.ternaries in
    let d = c.in_err-put.field-0.0 in
    let ts = lexemes c.loop-more.self.rest.now in
    let mid = lexemes c.label.new.self.rest.now in
    rw (p.1, p.2) (pending_fails Kinds.CloseParenthesis (argument_at part) is_named c.loop-more.more c.loop-more.behind
    (map argument_of c.loop-more.items.items) ts _ c.loop-more.invariant.read d c.loop-more-test.true
    (argument_value_fails part c.loop-more.behind ts _ mid d c.in_ok-name.ensures.read
    (made_fails _ (λ (a : Argument). (argument_of a).1) c.argument-argument.result d (lexemes c.argument-argument.new.self.rest.now) (part mid)
    c.in_err-put.ensures c.argument-argument.ensures.read)))

pub given-loop-more-preserved : goal.given-loop-more-preserved
given-loop-more-preserved t c =
    let part = ternary_at (unary_at c.args.levels) c.args.ternaries in
    let ts = lexemes c.loop-more.self.rest.now in
    let mid = lexemes c.label.new.self.rest.now in
    let rest = lexemes c.argument-argument.new.self.rest.now in
    let w = made_of _ c.argument-argument.result c.in_ok-put.field-0 c.in_ok-put.ensures in
    let h = read_ok (λ (a : Argument). (argument_of a).1) c.argument-argument.result w.0 rest (part mid) w.1 c.argument-argument.ensures.read in
    let lt : length c.argument-argument.new.self.rest.now < length c.label.new.self.rest.now =
    so_ok c.argument-argument.result w.0 w.1 c.argument-argument.ensures.shorter in
    let named : (argument_of w.0).0 ≡ option_map (λ k. k.now) c.in_ok-name.name =
    subst (λ (r : Result Argument ReadError). IfOk r (λ a. (argument_of a).0 ≡ option_map (λ k. k.now) c.in_ok-name.name)) w.1
    c.argument-argument.ensures.named in
    let a : ArgumentTree = (option_map (λ k. k.now) c.in_ok-name.name, (argument_of w.0).1) in
    let same : argument_of w.0 ≡ a = ap (λ (o : Option (List ℕ)). (o, (argument_of w.0).1)) named in
    let e : map argument_of c.put.new.items.items ≡ map argument_of c.loop-more.items.items ++ a ∷ [] =
    ap (map argument_of) w.2 ∙ map_push _ c.loop-more.items.items w.0 ∙ ap (λ (x : ArgumentTree). map argument_of c.loop-more.items.items ++ x ∷ []) same in
    let state : c.is_some-behind.result ≡ is_named c.loop-more.behind a = c.is_some-behind.ensures ∙ sym (some_kept c.in_ok-name.name) in
    record {
      within = omega (arith, lt, c.in_ok-name.ensures.shorter, c.more-more.ensures.within, c.loop-more.invariant.within);
      read = rw e (pending_more Kinds.CloseParenthesis (argument_at part) is_named c.loop-more.more c.loop-more.behind
          (map argument_of c.loop-more.items.items) ts _ c.loop-more.invariant.read a rest c.more-more.result (lexemes c.more-more.new.self.rest.now)
          c.is_some-behind.result c.loop-more-test.true
          (argument_reads part c.loop-more.behind ts _ mid (argument_of w.0).1 rest c.in_ok-name.ensures.read h)
          (omega (
            arith,
            lt,
            c.in_ok-name.ensures.shorter,
            length_lexemes c.argument-argument.new.self.rest.now,
            length_lexemes c.loop-more.self.rest.now,
          )) c.more-more.ensures.read state);
    }

-- ---- what is asked of a value

pub links-loop-self-init : goal.links-loop-self-init
unfolding links_at
links-loop-self-init t c = record {
  within = omega arith;
  read = rw c.new-links.ensures.items (still_first _ _ (lexemes c.args.self.now.rest.now));
}

pub links-loop-self-preserved : goal.links-loop-self-preserved
links-loop-self-preserved t c =
    let part = link_at (inner_at c.args.levels) c.args.ternaries in
    let ts = lexemes c.loop-self.self.rest.now in
    let mid = lexemes c.link-link.new.self.rest.now in
    let w = made_of _ c.link-link.result c.in_ok-put.field-0 c.in_ok-put.ensures in
    let h = read_ok link_of c.link-link.result w.0 mid (part ts) w.1 c.link-link.ensures.read in
    let lt : length c.link-link.new.self.rest.now < length c.loop-self.self.rest.now = so_ok c.link-link.result w.0 w.1 c.link-link.ensures.shorter in
    let e : map link_of c.put.new.items.items ≡ map link_of c.loop-self.links.items ++ link_of w.0 ∷ [] = ap (map link_of) w.2 ∙ map_push _ c.loop-self.links.items w.0 in
    record {
      within = omega (arith, lt, c.loop-self.invariant.within);
      read = rw e (still_more links_on part (map link_of c.loop-self.links.items) ts _ (link_of w.0) mid c.loop-self.invariant.read
          (sym c.links_on.ensures ∙ c.loop-self-test.true) h
          (omega (arith, lt, length_lexemes c.link-link.new.self.rest.now, length_lexemes c.loop-self.self.rest.now)));
    }

pub postfix-returns-then-is_err-clause-read : goal.postfix-returns-then-is_err-clause-read
postfix-returns-then-is_err-clause-read t c =
    let u = inner_at c.args.levels in
    let b = c.args.ternaries in
    let ts = lexemes c.args.self.now.rest.now in
    let mid = lexemes c.base-first.new.self.rest.now in
    elim c.then-is_err.branch [
      | postfix-then-is_err-via-then-is_err w ↦
          failed_kept expression_of c.base-first.result mid (base_at u b ts) (postfix_at u b ts) c.base-first.ensures.read
          (postfix_base_fails u b ts) (sym c.is_err.ensures.value ∙ w.if-is_err.true)
      | postfix-then-is_err-via-else-is_err+then-not-links_on w ↦
          alone_kept expression_of c.base-first.result mid (base_at u b ts) (postfix_at u b ts) c.base-first.ensures.read
          (postfix_base_fails u b ts) (λ x h. postfix_alone u b ts (expression_of x) mid h (sym w.links_on.ensures ∙ w.if-not-links_on.true))
    ]

pub postfix-returns-in_err-links-clause-read : goal.postfix-returns-in_err-links-clause-read
postfix-returns-in_err-links-clause-read t c =
    let p = err_from_is_err_and c.from_residual-in_err-links.result c.from_residual-in_err-links.ensures.1 in
    let u = inner_at c.args.levels in
    let b = c.args.ternaries in
    let ts = lexemes c.args.self.now.rest.now in
    let mid = lexemes c.base-first.new.self.rest.now in
    rw (p.1, p.2) (postfix_links_fail u b ts (expression_of c.in_ok-first.first.value) mid
    (boxed_read expression_of c.base-first.result c.in_ok-first.first mid (base_at u b ts) c.in_ok-first.ensures c.base-first.ensures.read)
    c.in_err-links.field-0.0 c.in_err-links.ensures.read)

pub postfix-returns-clause-read : goal.postfix-returns-clause-read
postfix-returns-clause-read t c =
    let u = inner_at c.args.levels in
    let b = c.args.ternaries in
    let ts = lexemes c.args.self.now.rest.now in
    let mid = lexemes c.base-first.new.self.rest.now in
    returned _ _ _ _ (postfix_more u b ts (expression_of c.in_ok-first.first.value) mid
    (boxed_read expression_of c.base-first.result c.in_ok-first.first mid (base_at u b ts) c.in_ok-first.ensures c.base-first.ensures.read)
    (map link_of c.in_ok-links.links.items) (lexemes c.links.new.self.rest.now) (sym c.links_on.ensures ∙ c.if-not-links_on.false)
    c.in_ok-links.ensures.read)
    (postfix_seen c.in_ok-first.first c.in_ok-links.links c.first_line-line.result _ _ refl (sym c.first_line-line.ensures))

pub unary-returns-in-Some-clause-read : goal.unary-returns-in-Some-clause-read
unary-returns-in-Some-clause-read t c =
    rw (unary_prefixed c.args.levels c.args.ternaries (lexemes c.args.self.now.rest.now) c.in-Some.prefix (sym c.prefix.ensures ∙ c.in-Some.is))
    c.prefixed.ensures.read

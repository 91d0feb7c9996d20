use Rattle.std.proofs.Common.{◌≡◌, ap, map, [], ◌∷◌, ◌++◌, sym, ◌∙◌, subst, arith, List, ◌<◌, length}
use Rattle.std.proofs.lemmas.Result.{err_from_is_err_and}
use Rattle.std.proofs.lemmas.List.{map_push}
use Rattle.syntax.specs.lexer.Lexeme.{lexeme_of, lexemes}
use Rattle.syntax.specs.declared.tree.Branch.{Branch}
use Rattle.syntax.specs.declared.tree.Statement.{Statement}
use Rattle.syntax.specs.ReadingExpressions.{expr_at}
use Rattle.syntax.specs.ReadingStatements.{body_at, branch_at, stmt_at}
use Rattle.syntax.specs.Tree.{branch_of, statement_of}
use Rattle.syntax.proofs.Made.{made_fails, made_of, read_ok, so_ok}
use Rattle.syntax.proofs.StatementTails.{StillBody, body_first, body_line_fails, body_more, body_newline_fails, elif_branch_fails}
use Rattle.syntax.proofs.StatementTails.{elif_word_fails, line_none, line_put, parts_first, parts_fails, parts_more, parts_stop}
use Rattle.syntax.proofs.Tails.{length_lexemes}
use Rattle.syntax.proofs.parser.Parser.+statement.Goals as goal

pub body-loop-self-init : goal.body-loop-self-init
body-loop-self-init t c =
    let r = stmt_at c.args.inside c.args.levels in
    let ts = lexemes c.args.self.now.rest.now in
    record {
      within = omega arith;
      read = subst (λ (xs : List Statement). StillBody r (map statement_of xs) ts (body_at r ts)) (sym c.new-statements.ensures.items)
          (body_first r ts);
    }

pub body-returns-in_err-line-clause-read : goal.body-returns-in_err-line-clause-read
body-returns-in_err-line-clause-read t c =
    let p = err_from_is_err_and c.from_residual.result c.from_residual.ensures.1 in
    rw (p.1, p.2) (body_line_fails (stmt_at c.args.inside c.args.levels) (map statement_of c.loop-self.statements.items)
    (lexemes c.loop-self.self.rest.now) _ c.loop-self.invariant.read (sym c.in_body.ensures ∙ c.loop-self-test.true)
    c.in_err-line.field-0.0 c.in_err-line.ensures.read)

pub body-returns-in_err-take-clause-read : goal.body-returns-in_err-take-clause-read
body-returns-in_err-take-clause-read t c =
    let p = err_from_is_err_and c.from_residual-in_err-take.result c.from_residual-in_err-take.ensures.1 in
    rw (p.1, p.2) (body_newline_fails (stmt_at c.args.inside c.args.levels) (map statement_of c.loop-self.statements.items)
    (lexemes c.loop-self.self.rest.now) _ c.loop-self.invariant.read (sym c.in_body.ensures ∙ c.loop-self-test.true)
    c.in_ok-line.field-0 (map statement_of c.line.new.statements.items) (lexemes c.line.new.self.rest.now)
    c.in_err-take.field-0.0 c.in_ok-line.ensures.read c.in_err-take.ensures.read)

pub body-loop-self-preserved : goal.body-loop-self-preserved
body-loop-self-preserved t c =
    record {
      within = omega (arith, c.in_ok-line.ensures.shorter, c.in_ok-take.ensures.shorter, c.loop-self.invariant.within);
      read = body_more (stmt_at c.args.inside c.args.levels) (map statement_of c.loop-self.statements.items)
          (lexemes c.loop-self.self.rest.now) _ c.loop-self.invariant.read (sym c.in_body.ensures ∙ c.loop-self-test.true)
          c.in_ok-line.field-0 (map statement_of c.line.new.statements.items) (lexemes c.line.new.self.rest.now)
          (lexeme_of c.in_ok-take.field-0) (lexemes c.take.new.self.rest.now) c.in_ok-line.ensures.read c.in_ok-take.ensures.read
          (omega (
            arith,
            c.in_ok-line.ensures.shorter,
            c.in_ok-take.ensures.shorter,
            length_lexemes c.loop-self.self.rest.now,
            length_lexemes c.take.new.self.rest.now,
          ));
    }

pub line-returns-then-ends_line-clause-read : goal.line-returns-then-ends_line-clause-read
line-returns-then-ends_line-clause-read t c = line_none (stmt_at c.args.inside c.args.levels) (map statement_of c.args.statements.now.items)
    (lexemes c.args.self.now.rest.now) (tt {0}) (sym c.ends_line.ensures ∙ c.if-ends_line.true)

pub line-returns-clause-read : goal.line-returns-clause-read
line-returns-clause-read t c = line_put (stmt_at c.args.inside c.args.levels) (lexemes c.args.self.now.rest.now) c.args.statements.now.items
    c.put.new.items.items c.statement-statement.result c.put.result (lexemes c.statement-statement.new.self.rest.now)
    (sym c.ends_line.ensures ∙ c.if-ends_line.false) c.statement-statement.ensures.read c.put.ensures

pub parts-returns-in_err-put-clause-read : goal.parts-returns-in_err-put-clause-read
parts-returns-in_err-put-clause-read t c =
    let p = err_from_is_err_and c.from_residual.result c.from_residual.ensures.1 in
    let expr = expr_at c.args.levels in
    let r = stmt_at c.args.inside c.args.levels in
    let ts = lexemes c.args.self.now.rest.now in
    rw (p.1, p.2) (parts_fails expr r ts c.in_err-put.field-0.0
    (made_fails _ branch_of c.branch-first.result c.in_err-put.field-0.0 (lexemes c.branch-first.new.self.rest.now) (branch_at expr r ts)
    c.in_err-put.ensures c.branch-first.ensures.read))

pub parts-loop-self-init : goal.parts-loop-self-init
parts-loop-self-init t c =
    let expr = expr_at c.args.levels in
    let r = stmt_at c.args.inside c.args.levels in
    let ts = lexemes c.args.self.now.rest.now in
    let rest = lexemes c.branch-first.new.self.rest.now in
    let w = made_of _ c.branch-first.result c.in_ok-put.field-0 c.in_ok-put.ensures in
    let h = read_ok branch_of c.branch-first.result w.0 rest (branch_at expr r ts) w.1 c.branch-first.ensures.read in
    let lt : length c.branch-first.new.self.rest.now < length c.args.self.now.rest.now = so_ok c.branch-first.result w.0 w.1 c.branch-first.ensures.shorter in
    let e : map branch_of c.put.new.items.items ≡ branch_of w.0 ∷ [] = ap (map branch_of) (w.2 ∙ ap (λ (bs : List Branch). bs ++ w.0 ∷ []) c.new-parts.ensures.items) in
    record {
      within = lt;
      read = rw e (parts_first expr r ts (branch_of w.0) rest h);
    }

pub parts-loop-self-preserved : goal.parts-loop-self-preserved
parts-loop-self-preserved t c =
    let expr = expr_at c.args.levels in
    let r = stmt_at c.args.inside c.args.levels in
    let mid = lexemes c.take.new.self.rest.now in
    let rest = lexemes c.branch-other.new.self.rest.now in
    let w = made_of _ c.branch-other.result c.in_ok-put-2.field-0 c.in_ok-put-2.ensures in
    let h = read_ok branch_of c.branch-other.result w.0 rest (branch_at expr r mid) w.1 c.branch-other.ensures.read in
    let lt : length c.branch-other.new.self.rest.now < length c.take.new.self.rest.now = so_ok c.branch-other.result w.0 w.1 c.branch-other.ensures.shorter in
    let e : map branch_of c.put-in-loop-self.new.items.items ≡ map branch_of c.loop-self.parts.items ++ branch_of w.0 ∷ [] =
    ap (map branch_of) w.2 ∙ map_push _ c.loop-self.parts.items w.0 in
    record {
      within = omega (arith, c.in_ok-take.ensures.shorter, lt, c.loop-self.invariant.within);
      read = rw e (parts_more expr r (map branch_of c.loop-self.parts.items) (lexemes c.loop-self.self.rest.now) _ (lexeme_of c.in_ok-take.field-0) mid
          (branch_of w.0) rest c.loop-self.invariant.read (sym c.begins.ensures ∙ c.loop-self-test.true) c.in_ok-take.ensures.read h
          (omega (arith, c.in_ok-take.ensures.shorter, lt, length_lexemes c.loop-self.self.rest.now, length_lexemes c.branch-other.new.self.rest.now)));
    }

pub parts-returns-in_err-take-clause-read : goal.parts-returns-in_err-take-clause-read
parts-returns-in_err-take-clause-read t c =
    let expr = expr_at c.args.levels in
    let r = stmt_at c.args.inside c.args.levels in
    let p = err_from_is_err_and c.from_residual-in_err-take.result c.from_residual-in_err-take.ensures.1 in
    rw (p.1, p.2) (parts_stop expr r (map branch_of c.loop-self.parts.items)
    (lexemes c.loop-self.self.rest.now) _ c.in_err-take.field-0.0 c.loop-self.invariant.read
    (sym c.begins.ensures ∙ c.loop-self-test.true)
    (elif_word_fails expr r (lexemes c.loop-self.self.rest.now) c.in_err-take.field-0.0 c.in_err-take.ensures.read))

pub parts-returns-in_err-put-2-clause-read : goal.parts-returns-in_err-put-2-clause-read
parts-returns-in_err-put-2-clause-read t c =
    let expr = expr_at c.args.levels in
    let r = stmt_at c.args.inside c.args.levels in
    let p = err_from_is_err_and c.from_residual-in_err-put-2.result c.from_residual-in_err-put-2.ensures.1 in
    let d = c.in_err-put-2.field-0.0 in
    let mid = lexemes c.take.new.self.rest.now in
    rw (p.1, p.2) (parts_stop expr r (map branch_of c.loop-self.parts.items)
    (lexemes c.loop-self.self.rest.now) _ d c.loop-self.invariant.read (sym c.begins.ensures ∙ c.loop-self-test.true)
    (elif_branch_fails expr r (lexemes c.loop-self.self.rest.now) (lexeme_of c.in_ok-take.field-0) mid d c.in_ok-take.ensures.read
    (made_fails _ branch_of c.branch-other.result d (lexemes c.branch-other.new.self.rest.now) (branch_at expr r mid)
    c.in_err-put-2.ensures c.branch-other.ensures.read)))

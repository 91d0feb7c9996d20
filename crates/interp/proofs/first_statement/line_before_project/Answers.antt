use Rattle.std.proofs.Common.{List, ℕ, ap, sym, ◌∙◌, map}
use Rattle.std.specs.Prelude.{slice_get}
use Rattle.code.specs.Statements.{statement_at}
use Rattle.syntax.specs.Tree.{statements}
use Rattle.interp.specs.FirstStatement.{line_before}
use Rattle.expressions.specs.Codes.{statements_by}
use Rattle.interp.proofs.Starting.{first_is}
use Rattle.interp.proofs.first_statement.line_before_project.Goals as goal

pub returns-in-Some : goal.returns-in-Some
returns-in-Some c = λ names.
    let first = first_is c.args.code.now.body.items c.in-Some.number.now (c.in-Some.ensures.value ∙ ap (λ (xs : List ℕ). slice_get xs 0) c.deref.ensures.value) in
    c.other_line.ensures names ∙ sym (ap (λ (numbers : List ℕ). line_before (statements (map (statement_at (statements_by names c.args.code.now)) numbers))) first.1)

use Rattle.std.proofs.Common.{ℕ, Option, Ok, [], refl, sym, ap, ◌∙◌}
use Rattle.values.specs.Data.{Data}
use Rattle.support.specs.declared.faults.refusal.Refusal.{Refusal}
use Rattle.operations.specs.operators.Logic.{LeftAnswers, left_answer}
use Rattle.operations.specs.declared.operators.logic.Left.{Left}
use Rattle.operations.specs.declared.operators.logic.Left.TheVariants.{Decides, Open}
use Rattle.operations.specs.declared.operators.operator.Connective.{Connective}
use Rattle.world.specs.Deed.{Files}
use Rattle.world.specs.Gives.{Holds}
use Rattle.world.specs.Plan.{answer_at_line, refuse}
use Rattle.expressions.specs.Contexts.{Given, Stand}
use Rattle.expressions.proofs.Evaluating.{given_as, given_give, given_refuse, given_same}
use Rattle.interp.specs.Operations.{left_view}
use Rattle.interp.proofs.evaluator.Evaluator.decide.Goals as goal

decides : (files : Files) (line : ℕ) (connective : Connective) (d : Data) (s : Stand) (l : Left) → LeftAnswers connective d (Ok l) → Holds s.tree files
    → Given left_view files (answer_at_line line (left_answer connective d)) s (Ok l) s
decides files line connective d s (Decides v) is h = given_as (ap (answer_at_line line) (sym is)) (given_give h refl)
decides files line connective d s Open is h = given_as (ap (answer_at_line line) (sym is)) (given_give h refl)

pub returns-in-Ok-clause-gives : goal.returns-in-Ok-clause-gives
returns-in-Ok-clause-gives g c = λ files h. decides files c.args.line c.args.connective _ _ c.in-Ok.left c.in-Ok.ensures h

pub returns-in_err-refuse-in-Err-clause-gives : goal.returns-in_err-refuse-in-Err-clause-gives
returns-in_err-refuse-in-Err-clause-gives g c = λ files h.
    given_as (ap (λ (r : Refusal). refuse {A = Option Data} c.args.line r []) c.of_operation.ensures ∙ ap (answer_at_line c.args.line) (sym c.in-Err.ensures)) (given_same (given_refuse h c.in_err-refuse-in-Err.ensures) c.from_residual.ensures.1)

pub returns-in_ok-refuse-in-Err-clause-gives : goal.returns-in_ok-refuse-in-Err-clause-gives
returns-in_ok-refuse-in-Err-clause-gives g c = λ files h.
    given_as (ap (λ (r : Refusal). refuse {A = Option Data} c.args.line r []) c.of_operation.ensures ∙ ap (answer_at_line c.args.line) (sym c.in-Err.ensures)) (given_refuse h c.in_ok-refuse-in-Err.ensures)

use Rattle.interp.proofs.Coming.{comes_given, comes_last, comes_stop, comes_then}
use Rattle.expressions.proofs.Evaluating.{given_then}
use Rattle.interp.proofs.evaluator.Evaluator.call_for_value.Goals as goal

pub returns-in_err-answer-clause-gives : goal.returns-in_err-answer-clause-gives
returns-in_err-answer-clause-gives g c = λ files left h. comes_stop (c.in_err-answer.ensures.gives files h) c.from_residual.ensures.1

pub returns-in_err-need-clause-gives : goal.returns-in_err-need-clause-gives
returns-in_err-need-clause-gives g c = λ files left h.
    let a = c.in_ok-answer.ensures.gives files h in
    comes_then a (comes_last (c.in_err-need.ensures.gives files a.holds) c.from_residual-in_err-need.ensures.1)

pub returns-clause-gives : goal.returns-clause-gives
returns-clause-gives g c = λ files left h.
    let a = c.in_ok-answer.ensures.gives files h in
    comes_given (given_then a (c.in_ok-need.ensures.gives files a.holds))

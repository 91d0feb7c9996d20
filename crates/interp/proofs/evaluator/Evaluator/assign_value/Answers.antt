use Rattle.std.proofs.Common.{ap, refl, ◌∙◌}
use Rattle.values.specs.View.{data_of}
use Rattle.expressions.specs.Assignments.{variable_assignment}
use Rattle.interp.proofs.Coming.{comes_given, comes_halt, comes_stop, comes_then}
use Rattle.expressions.proofs.Evaluating.{given_as, given_give, given_then}
use Rattle.interp.proofs.Spelling.{name_kept}
use Rattle.interp.proofs.evaluator.Evaluator.assign_value.Goals as goal

pub returns-in_err-value-clause-gives : goal.returns-in_err-value-clause-gives
returns-in_err-value-clause-gives g c = λ within files left ts hold reads.
    comes_halt (c.in_err-value.ensures.gives files left ts hold reads) c.from_residual.ensures.1

pub returns-in_err-own-clause-gives : goal.returns-in_err-own-clause-gives
returns-in_err-own-clause-gives g c = λ within files left ts hold reads.
    let e = (c.in_ok-value.ensures.gives files left ts hold reads).comes in
    comes_then e (comes_stop (c.in_err-own.ensures.gives files e.holds) c.from_residual-in_err-own.ensures.1)

pub returns-in_err-assign-clause-gives : goal.returns-in_err-assign-clause-gives
returns-in_err-assign-clause-gives g c = λ within files left ts hold reads.
    let e = (c.in_ok-value.ensures.gives files left ts hold reads).comes in
    let o = c.in_ok-own.ensures.gives files e.holds in
    let k = name_kept e.gives.written.names c.args.name within in
    let n = name_kept o.gives.written.names c.args.name k.0 in
    comes_then e (comes_then o (comes_stop (given_as (ap (λ n. variable_assignment c.args.line n (data_of c.in_ok-own.own)) (n.1 ∙ k.1)) (c.in_err-assign.ensures.gives n.0 files o.holds)) c.from_residual-in_err-assign.ensures.1))

pub returns-clause-gives : goal.returns-clause-gives
returns-clause-gives g c = λ within files left ts hold reads.
    let e = (c.in_ok-value.ensures.gives files left ts hold reads).comes in
    let o = c.in_ok-own.ensures.gives files e.holds in
    let k = name_kept e.gives.written.names c.args.name within in
    let n = name_kept o.gives.written.names c.args.name k.0 in
    let a = c.in_ok-assign.ensures.gives n.0 files o.holds in
    comes_given (given_then e (given_then o (given_then (given_as (ap (λ n. variable_assignment c.args.line n (data_of c.in_ok-own.own)) (n.1 ∙ k.1)) a) (given_give a.holds refl))))

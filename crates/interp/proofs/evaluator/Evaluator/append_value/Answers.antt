use Rattle.std.proofs.Common.{Err, ap, refl}
use Rattle.values.specs.View.{data_of}
use Rattle.expressions.specs.Assignments.{plus_assignment_of}
use Rattle.expressions.proofs.Assigning.{name_stays}
use Rattle.interp.proofs.Coming.{comes_given, comes_halt, comes_last, comes_stop, comes_then}
use Rattle.expressions.proofs.Evaluating.{given_as, given_give, given_then}
use Rattle.interp.proofs.evaluator.Evaluator.append_value.Goals as goal

pub returns-in_err-variable-clause-gives : goal.returns-in_err-variable-clause-gives
returns-in_err-variable-clause-gives g c = λ within files left ts hold reads.
    comes_halt (comes_stop {view' = λ (u : Unit {0}). u} {result = Err _} (c.in_err-variable.ensures.gives within files hold) refl) c.from_residual.ensures.1

pub returns-in_err-right-clause-gives : goal.returns-in_err-right-clause-gives
returns-in_err-right-clause-gives g c = λ within files left ts hold reads.
    comes_halt (comes_then (c.in_ok-variable.ensures.gives within files hold)
    (comes_halt {view' = λ (u : Unit {0}). u} {result = Err _} (c.in_err-right.ensures.gives files left ts hold reads) refl)) c.from_residual-in_err-right.ensures.1

pub returns-in_err-add-clause-gives : goal.returns-in_err-add-clause-gives
returns-in_err-add-clause-gives g c = λ within files left ts hold reads.
    let right = (c.in_ok-right.ensures.gives files left ts hold reads).comes in
    let stays = name_stays right.gives.written.names c.args.name within in
    comes_halt (comes_then (c.in_ok-variable.ensures.gives within files hold) (comes_then right
    (comes_last {view' = λ (u : Unit {0}). u} {result = Err _}
    (given_as (ap (λ n. plus_assignment_of c.args.line n (data_of c.in_ok-right.right)) stays.1) (c.in_err-add.ensures.gives stays.0 files right.holds)) refl))) c.from_residual-in_err-add.ensures.1

pub returns-clause-gives : goal.returns-clause-gives
returns-clause-gives g c = λ within files left ts hold reads.
    let right = (c.in_ok-right.ensures.gives files left ts hold reads).comes in
    let stays = name_stays right.gives.written.names c.args.name within in
    let a = given_then (c.in_ok-variable.ensures.gives within files hold) (given_then right
    (given_as (ap (λ n. plus_assignment_of c.args.line n (data_of c.in_ok-right.right)) stays.1) (c.in_ok-add.ensures.gives stays.0 files right.holds))) in
    comes_given (given_then a (given_give a.holds refl))

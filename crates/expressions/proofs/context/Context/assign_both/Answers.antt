use Rattle.std.proofs.Common.{ap}
use Rattle.values.specs.View.{data_of}
use Rattle.code.proofs.Trees.{less}
use Rattle.expressions.specs.Assignments.{variable_assignment}
use Rattle.expressions.proofs.Assigning.{name_stays}
use Rattle.expressions.proofs.Evaluating.{given_as, given_stop, given_then}
use Rattle.expressions.proofs.context.Context.assign_both.Goals as goal

pub returns-in_err-assign-clause-gives : goal.returns-in_err-assign-clause-gives
returns-in_err-assign-clause-gives g c = λ one two files h. given_stop (c.in_err-assign.ensures.gives one files h) c.from_residual.ensures.1

pub returns-clause-gives : goal.returns-clause-gives
returns-clause-gives g c = λ one two files h.
    let first = c.in_ok-assign.ensures.gives one files h in
    let stays = name_stays first.gives.written.names c.args.other.0 (less c.args.other.0 _ two) in
    given_then first (given_as (ap (λ n. variable_assignment c.args.line n (data_of c.args.other.1)) stays.1) (c.assign-answer.ensures.gives stays.0 files first.holds))

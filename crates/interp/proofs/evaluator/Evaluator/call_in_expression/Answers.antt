use Rattle.std.proofs.Common.{ap}
use Rattle.arguments.specs.Arguments.{arguments_data}
use Rattle.interp.specs.Expressions.{inside_by}
use Rattle.interp.specs.Folders.{folder}
use Rattle.interp.proofs.Coming.{comes_as}
use Rattle.interp.proofs.evaluator.Evaluator.call_in_expression.Goals as goal

pub returns-in-Enter-clause-gives : goal.returns-in-Enter-clause-gives
returns-in-Enter-clause-gives g c = λ files left h. comes_as (ap (λ a. inside_by (folder left) a c.args.line c.args.function (arguments_data c.args.arguments.now)) c.in-Enter.ensures) (c.leave_for_folder.ensures.gives files left h)

pub returns-in-Leave-clause-gives : goal.returns-in-Leave-clause-gives
returns-in-Leave-clause-gives g c = λ files left h. comes_as (ap (λ a. inside_by (folder left) a c.args.line c.args.function (arguments_data c.args.arguments.now)) c.in-Leave.ensures) (c.call_for_value.ensures.gives files left h)

pub returns-in-Call-clause-gives : goal.returns-in-Call-clause-gives
returns-in-Call-clause-gives g c = λ files left h. comes_as (ap (λ a. inside_by (folder left) a c.args.line c.args.function (arguments_data c.args.arguments.now)) c.in-Call.ensures) (c.call_for_value-in-Call.ensures.gives files left h)

use Rattle.std.proofs.Common.{ap, sym}
use Rattle.arguments.specs.Arguments.{arguments_data}
use Rattle.world.proofs.Answering.{carries_as, carries_stop, carries_then}
use Rattle.world.specs.Fit.{fit}
use Rattle.methods.specs.Machines.{machine_method}
use Rattle.methods.specs.Methods.{object_method}
use Rattle.methods.proofs.Others.{others_tell}
use Rattle.methods.proofs.dispatch.object_method.Goals as goal

pub returns-in-Compiler : goal.returns-in-Compiler
unfolding object_method
returns-in-Compiler g c =
    carries_as (ap (λ o. object_method o c.args.name.now (arguments_data c.args.arguments.now)) (sym c.in-Compiler.is)) c.compiler_method.ensures

pub returns-in_err-fit-in-Machine : goal.returns-in_err-fit-in-Machine
unfolding object_method machine_method
returns-in_err-fit-in-Machine g c =
    carries_as (ap (λ o. object_method o c.args.name.now (arguments_data c.args.arguments.now)) (sym c.in-Machine.is))
    (carries_stop (carries_as (ap (λ r. fit r (arguments_data c.args.arguments.now)) c.of.ensures) c.in_err-fit-in-Machine.ensures)
    c.from_residual.ensures.1)

pub returns-in_ok-fit-in-Machine : goal.returns-in_ok-fit-in-Machine
unfolding object_method machine_method
returns-in_ok-fit-in-Machine g c =
    carries_as (ap (λ o. object_method o c.args.name.now (arguments_data c.args.arguments.now)) (sym c.in-Machine.is))
    (carries_then (carries_as (ap (λ r. fit r (arguments_data c.args.arguments.now)) c.of.ensures) c.in_ok-fit-in-Machine.ensures)
    c.machine_answer.ensures)

pub returns-in-ConfigurationData : goal.returns-in-ConfigurationData
unfolding object_method
returns-in-ConfigurationData g c =
    carries_as (ap (λ o. object_method o c.args.name.now (arguments_data c.args.arguments.now)) (sym c.in-ConfigurationData.is))
    c.configuration_method.ensures

pub returns-in_default : goal.returns-in_default
returns-in_default g c =
    carries_as (others_tell c.args.object.now c.args.name.now (arguments_data c.args.arguments.now) c.in_default.not-Compiler
    c.in_default.not-Machine c.in_default.not-ConfigurationData) c.tell.ensures

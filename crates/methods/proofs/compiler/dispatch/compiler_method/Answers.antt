use Rattle.std.proofs.Common.{ap, sym, ◌∙◌}
use Rattle.arguments.specs.Arguments.{arguments_data}
use Rattle.world.specs.Fit.{fit}
use Rattle.world.proofs.Answering.{carries_as, carries_refuse, carries_stop, carries_then}
use Rattle.methods.specs.CompilerMethods.{compiler_method_call, called_by, compiler_method, does}
use Rattle.methods.proofs.compiler.dispatch.compiler_method.Goals as goal

pub returns-in_err-fit-in-Some : goal.returns-in_err-fit-in-Some
unfolding compiler_method compiler_method_call
returns-in_err-fit-in-Some g c =
    let a = arguments_data c.args.arguments.now in
    carries_as (ap (λ m. called_by m c.args.name.now a) (sym c.in-Some.is ∙ c.of_compiler.ensures))
    (carries_stop (carries_as (ap (λ r. fit r a) c.row.ensures) c.in_err-fit-in-Some.ensures) c.from_residual.ensures.1)

pub returns-in_ok-fit-in-Some : goal.returns-in_ok-fit-in-Some
unfolding compiler_method compiler_method_call
returns-in_ok-fit-in-Some g c =
    let a = arguments_data c.args.arguments.now in
    carries_as (ap (λ m. called_by m c.args.name.now a) (sym c.in-Some.is ∙ c.of_compiler.ensures))
    (carries_then (carries_as (ap (λ r. fit r a) c.row.ensures) c.in_ok-fit-in-Some.ensures)
    (carries_as (ap (λ n. does c.in-Some.method n a) c.as_str.ensures) c.act.ensures))

pub returns-in-None : goal.returns-in-None
unfolding compiler_method
returns-in-None g c =
    carries_as (ap (λ m. called_by m c.args.name.now (arguments_data c.args.arguments.now)) (sym c.in-None.is ∙ c.of_compiler.ensures)) (carries_refuse c.refuse.ensures)

use Rattle.std.proofs.Common.{subst}
use Rattle.arguments.specs.Arguments.{arguments_data}
use Rattle.arguments.specs.Given.{argument}
use Rattle.arguments.specs.Stops.{Says}
use Rattle.template.specs.Config.{Configuration}
use Rattle.world.proofs.Settling.{carries_says}
use Rattle.configuration_calls.specs.ConfigurationData.{said_data}
use Rattle.configuration_calls.specs.Given.{data_given}
use Rattle.configuration_calls.proofs.data_call.said_data.Goals as goal

pub returns : goal.returns
unfolding said_data
returns g c =
    let same : Configuration → Configuration = λ x. x in
    carries_says {view = same} (data_given (argument 0 (arguments_data c.args.arguments.now))) c.data_given.result
    (subst (λ d. Says same (data_given d) c.data_given.result) c.argument.ensures c.data_given.ensures) c.settle.ensures

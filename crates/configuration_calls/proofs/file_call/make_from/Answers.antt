use Rattle.arguments.specs.Arguments.{arguments_data}
use Rattle.world.proofs.Answering.{room_later}
use Rattle.configuration_calls.specs.ConfigureFile.{configured_output, output_file}
use Rattle.configuration_calls.specs.GivenView.{given_view}
use Rattle.configuration_calls.specs.Written.{template_filling}
use Rattle.configuration_calls.proofs.Filling.{of_asked, of_unasked}
use Rattle.configuration_calls.proofs.file_call.make_from.Goals as goal

pub make-requires : goal.make-requires
make-requires g c = room_later c.requires c.in_ok-require_file.ensures

pub returns-in_err-require_file : goal.returns-in_err-require_file
unfolding configured_output
returns-in_err-require_file g c =
    let values = given_view c.args.given.now in
    of_unasked c.args.template.now (λ bytes. output_file (arguments_data c.args.arguments.now) values (template_filling values.entries c.args.template.now bytes)) c.in_err-require_file.ensures c.from_residual.ensures.1

pub returns : goal.returns
unfolding configured_output
returns g c =
    let values = given_view c.args.given.now in
    of_asked c.args.template.now (λ bytes. output_file (arguments_data c.args.arguments.now) values (template_filling values.entries c.args.template.now bytes)) c.in_ok-require_file.ensures c.make.ensures

use Rattle.std.proofs.Common.{option_and_then, sym, ap, ◌∙◌}
use Rattle.template.specs.ConfigData.{content_of}
use Rattle.world.proofs.Answering.{carries_none}
use Rattle.configuration_calls.specs.Contents.{content_in}
use Rattle.configuration_calls.specs.Methods.{content_given}
use Rattle.world.proofs.Found.{carries_found}
use Rattle.configuration_calls.proofs.methods.content_given.Goals as goal

pub returns-in_err-found : goal.returns-in_err-found
returns-in_err-found g c = carries_none c.from_residual.ensures.1

pub returns : goal.returns
unfolding content_given
returns g c =
    let said = ap (option_and_then content_in) (sym c.argument.ensures) ∙ sym c.in_ok-found.ensures in
    carries_found {view = content_of} c.in_ok-found.found said c.ok_or.ensures.value c.fitting.ensures

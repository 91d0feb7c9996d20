use Rattle.std.proofs.Common.{codes, option_map, sym, ap, refl, ◌∙◌}
use Rattle.arguments.specs.Given.{text_of}
use Rattle.arguments.specs.Arguments.{arguments_data}
use Rattle.world.specs.Declaring.{add_install}
use Rattle.world.specs.Store.{world_of}
use Rattle.world.proofs.Answering.{carries_as, carries_give, carries_none, carries_read}
use Rattle.configuration_calls.specs.ConfigureFile.{install_at, installed_output, noted_install}
use Rattle.world.proofs.Values.{two}
use Rattle.configuration_calls.proofs.file_call.install.Goals as goal

pub returns-in_err-install-in-Some : goal.returns-in_err-install-in-Some
returns-in_err-install-in-Some g c = carries_none c.from_residual.ensures.1

pub returns-in_ok-install-in-Some : goal.returns-in_ok-install-in-Some
unfolding installed_output noted_install
returns-in_ok-install-in-Some g c =
    let facts = (world_of c.args.caller.now.store.now).facts in
    let name = text_of (codes "output") (arguments_data c.args.arguments.now) in
    let to = ap (option_map (λ t. t.now)) (sym c.in-Some.is) ∙ c.text_given.ensures in
    let at = c.in_ok-install-in-Some.ensures ∙ two (install_at facts c.args.path.now) c.text-name.ensures c.as_str.ensures.text in
    carries_read (carries_as (ap add_install at ∙ ap (λ o. noted_install (option_map (install_at facts c.args.path.now name) o)) to) c.add_install.ensures)

pub returns-in-None : goal.returns-in-None
unfolding installed_output noted_install
returns-in-None g c =
    let facts = (world_of c.args.caller.now.store.now).facts in
    let name = text_of (codes "output") (arguments_data c.args.arguments.now) in
    let to = ap (option_map (λ t. t.now)) (sym c.in-None.is) ∙ c.text_given.ensures in
    carries_read (carries_as (ap (λ o. noted_install (option_map (install_at facts c.args.path.now name) o)) to) (carries_give refl))

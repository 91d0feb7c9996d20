use Rattle.std.proofs.Common.{option_map, sym, ap, ◌∙◌}
use Rattle.template.specs.Config.{Configuration, value_of}
use Rattle.world.proofs.Configuring.{found_at, none_at}
use Rattle.configuration_calls.proofs.methods.content_at.Goals as goal

pub returns-in-Some : goal.returns-in-Some
returns-in-Some c =
    let at = found_at c.args.number c.args.store.now.configurations c.in-Some.values.now (sym c.configuration.ensures ∙ ap (option_map (λ d. d.now)) c.in-Some.is) in
    c.get.ensures ∙ ap (λ (d : Configuration). value_of d.entries c.args.name.now) (sym at)

pub returns-in-None : goal.returns-in-None
unfolding value_of
returns-in-None c =
    let at = none_at c.args.number c.args.store.now.configurations (sym c.configuration.ensures ∙ ap (option_map (λ d. d.now)) c.in-None.is) in
    ap (λ (d : Configuration). value_of d.entries c.args.name.now) (sym at)

use Rattle.std.proofs.Common.{map, option_map, sym, ap, ◌∙◌}
use Rattle.template.specs.Config.{Configuration, names}
use Rattle.world.proofs.Configuring.{found_at, none_at}
use Rattle.configuration_calls.proofs.Data.{list_as}
use Rattle.configuration_calls.proofs.methods.names_at.Goals as goal

pub returns-in-Some : goal.returns-in-Some
returns-in-Some c =
    let at = found_at c.args.number c.args.store.now.configurations c.in-Some.values.now (sym c.configuration.ensures ∙ ap (option_map (λ d. d.now)) c.in-Some.is) in
    list_as (λ v. map (λ n. n.now) v.items) _ (ap (λ (d : Configuration). names d.entries) (sym at)) c.keys.ensures.names

pub returns-in-None : goal.returns-in-None
returns-in-None c =
    let at = none_at c.args.number c.args.store.now.configurations (sym c.configuration.ensures ∙ ap (option_map (λ d. d.now)) c.in-None.is) in
    ap (map (λ n. n.now)) c.new.ensures.items ∙ ap (λ (d : Configuration). names d.entries) (sym at)

use Rattle.std.proofs.Common.{◌≡◌, IfOk, option_map, sym, ap, subst, ◌∙◌}
use Rattle.template.specs.Config.{Configuration, unfrozen_configuration}
use Rattle.world.proofs.Configuring.{found_at, none_at}
use Rattle.world.proofs.store.Store.copy_of_configuration.Goals as goal

pub returns-in-Some : goal.returns-in-Some
returns-in-Some c =
    let at = found_at c.args.number c.args.self.now.configurations c.in-Some.values.now (sym c.configuration.ensures ∙ ap (option_map (λ d. d.now)) c.in-Some.is) in
    subst (λ (d : Configuration). IfOk c.copy.result (λ v. v ≡ unfrozen_configuration d.entries)) (sym at) c.copy.ensures

pub returns-in-None : goal.returns-in-None
returns-in-None c =
    let at = none_at c.args.number c.args.self.now.configurations (sym c.configuration.ensures ∙ ap (option_map (λ d. d.now)) c.in-None.is) in
    c.new.ensures ∙ ap (λ (d : Configuration). unfrozen_configuration d.entries) (sym at)

use Rattle.std.proofs.Common.{ap, ◌∙◌}
use Rattle.template.specs.Config.{Configuration, value_of, with_value}
use Rattle.template.specs.ConfigData.{content_of, entries_of}
use Rattle.template.proofs.Settings.{value_of-with_value}
use Rattle.template.proofs.config.ConfigData.set.Goals as goal

pub returns-clause-ok : goal.returns-clause-ok
returns-clause-ok c =
    let content = content_of c.args.value in
    ap (λ n. let made : Configuration = record { entries = n; frozen = c.self.inside.frozen } in made)
    (c.in_ok-put.ensures.ok ∙ ap (λ k. with_value (entries_of c.self.inside.entries.entries) k content) c.in_ok-key.ensures.ok
    ∙ ap (λ n. with_value n c.args.name.now content) (ap (λ v. v.entries) c.self.view_is))
    ∙ ap (λ f. let made : Configuration = record { entries = with_value c.args.self.now.entries c.args.name.now content; frozen = f } in made) (ap (λ v. v.frozen) c.self.view_is)

pub returns-clause-found : goal.returns-clause-found
returns-clause-found c = λ q.
    let content = content_of c.args.value in
    ap (λ n. value_of n q) (c.in_ok-put.ensures.ok ∙ ap (λ k. with_value (entries_of c.self.inside.entries.entries) k content) c.in_ok-key.ensures.ok
    ∙ ap (λ n. with_value n c.args.name.now content) (ap (λ v. v.entries) c.self.view_is))
    ∙ value_of-with_value c.args.self.now.entries c.args.name.now content q

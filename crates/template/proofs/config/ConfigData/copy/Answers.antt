use Rattle.std.proofs.Common.{ap, ◌∙◌, false}
use Rattle.template.specs.Config.{Configuration}
use Rattle.template.proofs.Settings.{entries_of-clone}
use Rattle.template.proofs.config.ConfigData.copy.Goals as goal

pub returns : goal.returns
returns c =
    ap (λ n. let made : Configuration = record { entries = n; frozen = false } in made)
    (entries_of-clone (λ k l h. h) (λ v w h. h) c.self.inside.entries.entries c.in_ok-clone.field-0.entries c.in_ok-clone.ensures.cases ∙ ap (λ v. v.entries) c.self.view_is)

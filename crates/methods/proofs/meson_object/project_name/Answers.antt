use Rattle.std.proofs.Common.{ap, ◌∙◌}
use Rattle.methods.proofs.meson_object.project_name.Goals as goal

pub returns : goal.returns
returns c = c.as_str.ensures.value ∙ ap (λ f. f.name) (c.facts.ensures ∙ ap (λ p. p.surroundings.facts) c.project.ensures)

use Rattle.std.proofs.Common.{ap, ◌∙◌}
use Rattle.methods.proofs.meson_object.source_root.Goals as goal

pub returns : goal.returns
returns c = c.source_root.ensures.value ∙ ap (λ s. s.source_root) c.settings.ensures

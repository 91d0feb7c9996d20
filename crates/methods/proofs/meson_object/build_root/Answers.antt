use Rattle.std.proofs.Common.{ap, ◌∙◌}
use Rattle.methods.proofs.meson_object.build_root.Goals as goal

pub returns : goal.returns
returns c = c.build_root.ensures.value ∙ ap (λ s. s.build_root) c.settings.ensures

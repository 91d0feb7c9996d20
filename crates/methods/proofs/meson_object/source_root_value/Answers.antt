use Rattle.std.proofs.Common.{ap}
use Rattle.values.specs.Data.{text}
use Rattle.values.specs.Limits.{within}
use Rattle.methods.proofs.Values.{answers_as}
use Rattle.methods.proofs.meson_object.source_root_value.Goals as goal

pub returns : goal.returns
returns c = answers_as _ (ap (λ t. within (text t)) c.source_root.ensures) c.of_str.ensures

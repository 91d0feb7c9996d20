use Rattle.std.proofs.Common.{ap}
use Rattle.methods.proofs.Values.{gives_as}
use Rattle.values.specs.Data.{text}
use Rattle.values.specs.Limits.{within}
use Rattle.methods.proofs.meson_object.project_name_value.Goals as goal

pub returns : goal.returns
returns c = gives_as _ (ap (λ t. within (text t)) c.project_name.ensures) c.text_value.ensures

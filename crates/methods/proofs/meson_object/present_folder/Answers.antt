use Rattle.std.proofs.Common.{ap, ◌∙◌}
use Rattle.values.specs.Data.{text}
use Rattle.values.specs.Limits.{within}
use Rattle.methods.specs.Meson.{folder_below}
use Rattle.methods.proofs.Values.{gives_as}
use Rattle.methods.proofs.meson_object.present_folder.Goals as goal

pub returns : goal.returns
returns c =
    let below = c.in_ok-folder_below.ensures ∙ ap (λ f. folder_below c.args.root.now f) c.folder.ensures in
    gives_as _ (ap (λ t. within (text t)) below) c.string_value.ensures

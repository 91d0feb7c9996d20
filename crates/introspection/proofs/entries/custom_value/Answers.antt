use Rattle.std.proofs.Common.{◌∙◌}
use Rattle.std.proofs.lemmas.Result.{IfOk-weaker}
use Rattle.build.specs.View.{custom_view}
use Rattle.introspection.proofs.TargetsShown.{custom_shown}
use Rattle.introspection.proofs.entries.custom_value.Goals as goal

pub returns : goal.returns
returns c =
    let shown = custom_shown (custom_view c.args.target.now) _ _ _ c.deref.ensures c.requires c.deref-2.ensures in
    IfOk-weaker c.entry_value.result _ _ (λ v is. is ∙ shown) c.entry_value.ensures

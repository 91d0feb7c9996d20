use Rattle.std.proofs.Common.{ap, ◌∙◌}
use Rattle.std.proofs.lemmas.Result.{IfOk-weaker}
use Rattle.build.specs.edge.Texts.{texts}
use Rattle.build.specs.Files.{file_path, link_paths}
use Rattle.build.specs.View.{build_view}
use Rattle.introspection.proofs.TargetsShown.{build_shown, first_file}
use Rattle.introspection.proofs.entries.build_value.Goals as goal

pub returns : goal.returns
returns c =
    let t = build_view c.args.target.now in
    let shown = build_shown t _ _ _ _ c.deref.ensures
    (ap texts c.first_alone.ensures ∙ first_file c.args.paths.now (file_path t) (link_paths t) c.requires) c.deref-2.ensures c.kind_name.ensures in
    IfOk-weaker c.entry_value.result _ _ (λ v is. is ∙ shown) c.entry_value.ensures

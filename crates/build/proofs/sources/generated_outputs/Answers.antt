use Rattle.std.proofs.Common.{◌≡◌, map, ap, sym, ◌∙◌}
use Rattle.std.proofs.lemmas.Result.{IfOk-weaker}
use Rattle.build.specs.edge.Texts.{texts, first_kept}
use Rattle.build.specs.Data.{ListsData}
use Rattle.build.specs.Sources.{generated_in, generated_paths}
use Rattle.build.specs.View.{source_view, lists_view, build_view}
use Rattle.build.proofs.ListLemmas.{flat_map-both}
use Rattle.build.proofs.sources.generated_outputs.Goals as goal

pub returns : goal.returns
returns c =
    let t = c.args.target.now in
    let is = ap texts c.deref.ensures.value ∙ c.in_ok-paths.ensures ∙ sym (flat_map-both generated_in (map source_view t.own.sources.items) (λ (l : ListsData). l.sources) (λ l. lists_view l.value) t.dependencies.items) in
    IfOk-weaker c.first_kept.result (λ v. texts v.items ≡ first_kept (texts c.deref.result.now)) (λ v. texts v.items ≡ generated_paths (build_view t)) (λ v e. e ∙ ap first_kept is) c.first_kept.ensures

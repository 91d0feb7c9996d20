use Rattle.std.proofs.Common.{◌≡◌, [], map, ap, sym, ◌∙◌}
use Rattle.std.proofs.lemmas.Result.{IfOk-weaker}
use Rattle.build.specs.Data.{ListsData}
use Rattle.build.specs.Sources.{c_inputs_in, put_inputs, compiled_inputs}
use Rattle.build.specs.Inputs.{input_view}
use Rattle.build.specs.View.{source_view, lists_view, build_view}
use Rattle.build.proofs.ListLemmas.{flat_map-both}
use Rattle.build.proofs.sources.compiled_sources.Goals as goal

pub returns : goal.returns
returns c =
    let t = c.args.target.now in
    let depth = c.args.depth in
    let is = c.in_ok-all_inputs.ensures ∙ sym (flat_map-both (c_inputs_in depth) (map source_view t.own.sources.items) (λ (l : ListsData). l.sources) (λ l. lists_view l.value) t.dependencies.items) in
    IfOk-weaker c.first_inputs.result (λ v. map input_view v.items ≡ put_inputs [] (map input_view c.in_ok-all_inputs.field-0.items)) (λ v. map input_view v.items ≡ compiled_inputs depth (build_view t))
    (λ v e. e ∙ ap (put_inputs []) is) c.first_inputs.ensures

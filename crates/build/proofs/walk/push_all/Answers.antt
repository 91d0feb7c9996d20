use Rattle.std.proofs.Common.{◌≡◌, ◌++◌, map, ap, sym, ◌∙◌}
use Rattle.std.specs.Prelude.{flat_map}
use Rattle.std.proofs.lemmas.Result.{IfOk-weaker}
use Rattle.build.specs.Data.{ListsData}
use Rattle.build.specs.View.{lists_view, build_view}
use Rattle.build.specs.Walk.{steps_of}
use Rattle.build.specs.declared.walk.Step.TheVariants.{Enter}
use Rattle.build.proofs.ListLemmas.{map-both}
use Rattle.build.proofs.walk.push_all.Goals as goal

pub returns : goal.returns
returns c =
    let t = c.args.target.now in
    let old = c.args.steps.now.items in
    let now = c.push_named.new.steps.items in
    let is = map-both Enter t.own.link_with.items (λ (l : ListsData). l.link_with) (λ l. lists_view l.value) t.dependencies.items in
    IfOk-weaker c.push_named.result (λ _. now ≡ old ++ (map Enter t.own.link_with.items ++ flat_map (λ l. map Enter l.value.link_with.items) t.dependencies.items))
    (λ _. now ≡ old ++ steps_of (build_view t)) (λ _ e. e ∙ ap (λ l. old ++ l) (sym is)) c.push_named.ensures

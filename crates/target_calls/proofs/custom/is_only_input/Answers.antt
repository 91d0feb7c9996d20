use Rattle.std.proofs.Common.{◌≡◌, List, sym, ap, ◌∙◌}
use Rattle.std.specs.Prelude.{count_by, is_some}
use Rattle.std.proofs.lemmas.Bool.{OnTrue_from}
use Rattle.arguments.specs.declared.arguments.Named.{Named}
use Rattle.values.specs.View.{data_of}
use Rattle.target_calls.proofs.InputAlone.{input_alone, is_some-option_map, says}
use Rattle.target_calls.proofs.custom.is_only_input.Goals as goal

pub returns-then-count_sources-eq1 : goal.returns-then-count_sources-eq1
returns-then-count_sources-eq1 c =
    let ns = c.args.arguments.now.named.items in
    let one : count_by says ns ≡ 1 =
    ap (λ (xs : List Named). count_by says xs) (sym c.deref.ensures.value) ∙ sym c.count_sources.ensures ∙ c.if-count_sources-eq1.true in
    OnTrue_from c.is_some.result _ (λ is. input_alone ns one
    (ap is_some (sym c.keyword.ensures) ∙ is_some-option_map (λ v. data_of v.now) c.keyword.result ∙ sym c.is_some.ensures ∙ is))

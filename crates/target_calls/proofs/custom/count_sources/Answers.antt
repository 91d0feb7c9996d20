use Rattle.std.proofs.Common.{◌≡◌, ◌+◌, sym, ap, ◌∙◌, arith}
use Rattle.std.proofs.lemmas.List.Sums.{count_by_more_no, count_by_more_yes}
use Rattle.target_calls.specs.CustomTargets.{is_source_keyword}
use Rattle.target_calls.proofs.InputAlone.{says}
use Rattle.target_calls.proofs.custom.count_sources.Goals as goal
use Rattle.target_calls.proofs.custom.count_sources.Goals.{then-is_source_keyword, else-is_source_keyword}

pub loop-one-preserved : goal.loop-one-preserved
loop-one-preserved c =
    let one = c.one-item.result in
    let i = c.loop-one.one-index in
    let said : c.is_source_keyword.result ≡ says one = c.is_source_keyword.ensures ∙ ap is_source_keyword c.as_str.ensures.text in
    elim c.if-is_source_keyword.branch [
      | then-is_source_keyword w ↦ record {
        counted = w.count-is ∙ ap (λ n. n + 1) c.loop-one.invariant.counted
            ∙ sym (count_by_more_yes says c.args.named.now i one c.loop-one-test.true (ap says (sym c.one-item.is) ∙ sym said ∙ w.if-is_source_keyword.true));
        within = omega arith;
      }
      | else-is_source_keyword w ↦ record {
        counted = w.count-is ∙ c.loop-one.invariant.counted
            ∙ sym (count_by_more_no says c.args.named.now i one c.loop-one-test.true (ap says (sym c.one-item.is) ∙ sym said ∙ w.if-is_source_keyword.false));
        within = omega arith;
      }
    ]

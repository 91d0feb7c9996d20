use Rattle.std.proofs.Common.{◌≡◌, ◌+◌, Some, sym, ap, ◌∙◌, arith}
use Rattle.values.specs.Data.{entries_with, entry, merged_entries, count}
use Rattle.values.specs.Weight.{entries_weight}
use Rattle.values.specs.View.{data_of}
use Rattle.values.proofs.ItemsLemmas.{count-items_of}
use Rattle.values.proofs.BuilderLemmas.{merged_none, entries_from_place, next_entry, no_entries_left, count-entry_values, weight_put-le}
use Rattle.values.proofs.value.builder.DictionaryBuilder.put_all.Goals as goal

pub key-requires : goal.key-requires
key-requires c =
    let values = c.values-values.result.now in
    omega (arith, count-items_of values, ap count c.values-values.ensures.values, count-entry_values c.args.dictionary.now)

pub put-requires : goal.put-requires
put-requires c =
    let es = c.args.dictionary.now in
    let q = c.in_ok-key.key in
    let clone = c.in_ok-clone.field-0 in
    let next : entries_from_place c.loop-i.i es ≡ entry q (data_of clone) (entries_from_place (c.loop-i.i + 1) es) =
    next_entry es c.values-values.result.now c.loop-i.i q c.index-values-i.result clone c.values-values.ensures.values c.loop-i-test.true (c.key.ensures ∙ ap Some (sym c.in_ok-key.ensures.cases)) c.index-values-i.is c.in_ok-clone.ensures.cases in
    omega (arith, ap entries_weight next, c.loop-i.invariant.light, c.requires, c.values-values.ensures.within)

pub loop-i-preserved : goal.loop-i-preserved
loop-i-preserved c =
    let es = c.args.dictionary.now in
    let q = c.in_ok-key.key in
    let clone = c.in_ok-clone.field-0 in
    let next : entries_from_place c.loop-i.i es ≡ entry q (data_of clone) (entries_from_place (c.loop-i.i + 1) es) =
    next_entry es c.values-values.result.now c.loop-i.i q c.index-values-i.result clone c.values-values.ensures.values c.loop-i-test.true (c.key.ensures ∙ ap Some (sym c.in_ok-key.ensures.cases)) c.index-values-i.is c.in_ok-clone.ensures.cases in
    let is : c.put.new.self ≡ entries_with q (data_of clone) c.loop-i.self = c.in_ok-put.ensures in
    record {
      whole = ap (λ x. merged_entries x (entries_from_place (c.loop-i.i + 1) es)) is ∙ sym (ap (merged_entries c.loop-i.self) next) ∙ c.loop-i.invariant.whole;
      light = omega (arith, ap entries_weight is, weight_put-le q (data_of clone) c.loop-i.self, ap entries_weight next, c.loop-i.invariant.light);
    }

pub returns-clause-merged : goal.returns-clause-merged
returns-clause-merged c =
    let values = c.values-values.result.now in
    let none = no_entries_left c.args.dictionary.now c.loop-i.i (omega (arith, count-items_of values, ap count c.values-values.ensures.values, count-entry_values c.args.dictionary.now)) in
    sym (ap (merged_entries c.loop-i.self) none) ∙ c.loop-i.invariant.whole

pub returns-clause-copied : goal.returns-clause-copied
returns-clause-copied c =
    let values = c.values-values.result.now in
    let none = no_entries_left c.args.dictionary.now c.loop-i.i (omega (arith, count-items_of values, ap count c.values-values.ensures.values, count-entry_values c.args.dictionary.now)) in
    λ empty. sym (ap (merged_entries c.loop-i.self) none) ∙ c.loop-i.invariant.whole ∙ ap (λ x. merged_entries x c.args.dictionary.now) empty ∙ merged_none c.args.dictionary.now c.values-values.ensures.distinct

use Rattle.std.proofs.Common.{◌≡◌, ◌+◌, sym, ap, ◌∙◌, arith}
use Rattle.values.specs.Data.{dictionary, keys_in, entry_values}
use Rattle.values.specs.Weight.{weight, items_weight, entries_weight}
use Rattle.values.specs.View.{data_of, items_of}
use Rattle.values.proofs.ItemsLemmas.{length-same_items, weight-le-items_weight}
use Rattle.values.proofs.EntriesLemmas.{items_weight-le-entries_weight, entries_from, dictionary_inj}
use Rattle.values.proofs.equal.+equal.Goals as goal

pub equal_items-returns-then-items-others : goal.equal_items-returns-then-items-others
equal_items-returns-then-items-others t c =
    (λ h. absurd cc, λ e. absurd (c.if-items-others.true (length-same_items c.args.items.now c.args.others.now e)))

pub equal_items-are_equal-requires : goal.equal_items-are_equal-requires
equal_items-are_equal-requires t c =
    (omega (arith, c.decreases, weight-le-items_weight c.args.items.now c.loop-i.i c.index-items-i.result c.loop-i-test.true, ap (λ v. weight (data_of v)) c.index-items-i.is), tt)

pub are_equal-equal_items-requires-then-equal_texts : goal.are_equal-equal_items-requires-then-equal_texts
are_equal-equal_items-requires-then-equal_texts t c =
    let es = c.in-Dictionary.dictionary.value in
    let values : items_weight (items_of c.values.result.now) ≡ items_weight (entry_values es) = ap items_weight c.values.ensures.values ∙ ap (λ x. items_weight (entry_values x)) c.deref-then-equal_texts.ensures in
    let whole : weight (data_of c.args.value.now) ≡ entries_weight es + 1 = ap (λ v. weight (data_of v)) c.in-Dictionary.is in
    (omega (arith, c.decreases, whole, values, items_weight-le-entries_weight es), tt)

pub are_equal-returns-then-equal_texts : goal.are_equal-returns-then-equal_texts
are_equal-returns-then-equal_texts t c =
    let es = c.in-Dictionary.dictionary.value in
    let fs = c.in-Dictionary-other.other.value in
    let mine : c.keys.result.now ≡ keys_in es = c.keys.ensures ∙ ap keys_in c.deref-in-Dictionary-other.ensures in
    let others : c.keys-in-Dictionary-other.result.now ≡ keys_in fs = c.keys-in-Dictionary-other.ensures ∙ ap keys_in c.deref-in-Dictionary-other-2.ensures in
    let keys : keys_in es ≡ keys_in fs = sym mine ∙ c.equal_texts.ensures.0 c.if-equal_texts.true ∙ others in
    let left : items_of c.values.result.now ≡ entry_values es = c.values.ensures.values ∙ ap entry_values c.deref-then-equal_texts.ensures in
    let right : items_of c.values-then-equal_texts.result.now ≡ entry_values fs = c.values-then-equal_texts.ensures.values ∙ ap entry_values c.deref-then-equal_texts-2.ensures in
    let is : data_of c.args.value.now ≡ dictionary es = ap data_of c.in-Dictionary.is in
    let is' : data_of c.args.other.now ≡ dictionary fs = ap data_of c.in-Dictionary-other.is in (
      λ h. is ∙ ap dictionary (entries_from es fs keys (sym left ∙ c.equal_items-then-equal_texts.ensures.0 h ∙ right)) ∙ sym is',
      λ e. c.equal_items-then-equal_texts.ensures.1 (left ∙ ap entry_values (dictionary_inj es fs (sym is ∙ e ∙ is')) ∙ sym right),
    )

use Rattle.std.proofs.Common.{◌≡◌, ◌+◌, IfSome, subst, Bool, true, false, Ok, Err, sym, ap, ◌∙◌, arith}
use Rattle.std.specs.Prelude.{if◌then◌else◌}
use Rattle.values.specs.Data.{entry_count}
use Rattle.values.specs.Limits.{entries_fit}
use Rattle.values.specs.Weight.{entries_depth, items_depth}
use Rattle.values.specs.View.{entries_of, items_of}
use Rattle.values.specs.declared.refusal.OperationRefusal.TheVariants as refusal
use Rattle.values.proofs.ItemsLemmas.{within_facts}
use Rattle.values.proofs.EntriesLemmas.{entry_count-entries_of}
use Rattle.values.proofs.BuilderLemmas.{entries_depth-entries_of, fit_by_numbers}
use Rattle.values.proofs.value.builder.DictionaryBuilder.finish.Goals as goal

pub returns-then-not-is_within : goal.returns-then-not-is_within
returns-then-not-is_within c =
    let n : c.len.result ≡ entry_count (entries_of c.self.inside.keys c.self.inside.values.items) = omega (arith, entry_count-entries_of c.self.inside.keys c.self.inside.values.items c.self.invariant.pairs) in
    let deep : c.counted_depth-depth.result ≡ entries_depth (entries_of c.self.inside.keys c.self.inside.values.items) =
    c.counted_depth-depth.ensures.deepest ∙ ap (λ l. items_depth (items_of l)) c.deref.ensures.value ∙ sym (entries_depth-entries_of c.self.inside.keys c.self.inside.values.items c.self.invariant.pairs) in
    let fit : false ≡ entries_fit c.args.self = sym c.if-not-is_within.true ∙ c.is_within.ensures ∙ fit_by_numbers (entries_of c.self.inside.keys c.self.inside.values.items) c.len.result c.self.inside.weight c.counted_depth-depth.result n c.self.invariant.weight deep ∙ ap entries_fit c.self.view_is in
    ap (λ (b : Bool). if b then Ok c.args.self else Err refusal.Limit) fit

pub returns : goal.returns
returns c =
    let n : c.len.result ≡ entry_count (entries_of c.self.inside.keys c.self.inside.values.items) = omega (arith, entry_count-entries_of c.self.inside.keys c.self.inside.values.items c.self.invariant.pairs) in
    let deep : c.counted_depth-depth.result ≡ entries_depth (entries_of c.self.inside.keys c.self.inside.values.items) =
    c.counted_depth-depth.ensures.deepest ∙ ap (λ l. items_depth (items_of l)) c.deref.ensures.value ∙ sym (entries_depth-entries_of c.self.inside.keys c.self.inside.values.items c.self.invariant.pairs) in
    let fit : true ≡ entries_fit c.args.self = sym c.if-not-is_within.false ∙ c.is_within.ensures ∙ fit_by_numbers (entries_of c.self.inside.keys c.self.inside.values.items) c.len.result c.self.inside.weight c.counted_depth-depth.result n c.self.invariant.weight deep ∙ ap entries_fit c.self.view_is in
    ap Ok c.self.view_is ∙ ap (λ (b : Bool). if b then Ok c.args.self else Err refusal.Limit) fit

pub counted_depth-depth-requires-clause-counted : goal.counted_depth-depth-requires-clause-counted
counted_depth-depth-requires-clause-counted c =
    let is : entries_depth (entries_of c.self.inside.keys c.self.inside.values.items) ≡ items_depth (items_of c.deref.result.now) =
    entries_depth-entries_of c.self.inside.keys c.self.inside.values.items c.self.invariant.pairs ∙ sym (ap (λ l. items_depth (items_of l)) c.deref.ensures.value) in
    subst (λ n. IfSome c.self.inside.depth (λ d. d ≡ n)) is c.self.invariant.depth

pub invariant_of-result : goal.invariant_of-result
invariant_of-result c =
    let fit = within_facts c.len.result (c.self.inside.weight + 1) (c.counted_depth-depth.result + 1) (sym c.is_within.ensures ∙ c.if-not-is_within.false) in
    record {
      pairs = c.self.invariant.pairs;
      distinct = c.self.invariant.distinct;
      weight = c.self.invariant.weight;
      depth = c.counted_depth-depth.ensures.deepest ∙ ap (λ l. items_depth (items_of l)) c.deref.ensures.value ∙ sym (entries_depth-entries_of c.self.inside.keys c.self.inside.values.items c.self.invariant.pairs);
      few = omega (arith, fit.0, c.len.ensures);
      light = fit.1.0;
      shallow = fit.1.1;
    }

use Rattle.std.proofs.Common.{◌≡◌, ◌+◌, ◌<◌, ◌≤◌, ◌∷◌, ◌++◌, [], length, set, Bool, None, bytes_eq, sym, ap, ◌∙◌, arith, subst}
use Rattle.std.specs.Prelude.{IfSome, if◌then◌else◌}
use Rattle.std.specs.List.{list_any}
use Rattle.std.proofs.lemmas.List.{length_push}
use Rattle.std.proofs.lemmas.Bool.{not-true, not-false}
use Rattle.values.specs.Data.{entries_with, find, AreDistinct}
use Rattle.values.specs.Weight.{weight, depth, entries_weight, entries_depth}
use Rattle.values.specs.View.{data_of, entries_of}
use Rattle.values.proofs.EntriesLemmas.{place, put_in, put_new, no_any, some_any, find_out}
use Rattle.values.proofs.BuilderLemmas.{deeper_is, deeper_small, replaced_is, replaced_small, weight_replaced, weight-le-entries_weight}
use Rattle.values.proofs.BuilderLemmas.{weight_put-new, depth_put-new, put-distinct, length-set}
use Rattle.values.proofs.value.builder.DictionaryBuilder.put.Goals as goal

pub overflow_sub-self : goal.overflow_sub-self
overflow_sub-self c =
    let ks = c.self.inside.keys in
    let vs = c.reserve.new.self.items in
    let same = c.in_ok-reserve.ensures.items in
    let q = c.args.key in
    let i = c.in_ok-index.index in
    let some = not-false (list_any (bytes_eq q) ks) (sym c.in_ok-index.ensures.added ∙ c.if-is_new.false) in
    let there = some_any (λ k. bytes_eq q k) ks some in
    let pairs : length ks ≡ length vs = c.self.invariant.pairs ∙ sym (ap length same) in
    let inside : i < length vs = omega (arith, there, c.in_ok-index.ensures.index, pairs) in
    omega (arith, weight-le-entries_weight ks vs i c.index.result.now pairs inside, c.weight-old_weight.ensures.weight, ap (λ v. weight (data_of v)) c.index.ensures, c.self.invariant.weight, ap (λ l. entries_weight (entries_of ks l)) same)

pub invariant_of-self-else-is_new : goal.invariant_of-self-else-is_new
invariant_of-self-else-is_new c =
    let ks = c.self.inside.keys in
    let vs = c.reserve.new.self.items in
    let same = c.in_ok-reserve.ensures.items in
    let q = c.args.key in
    let i = c.in_ok-index.index in
    let w = c.args.value in
    let some = not-false (list_any (bytes_eq q) ks) (sym c.in_ok-index.ensures.added ∙ c.if-is_new.false) in
    let there = some_any (λ k. bytes_eq q k) ks some in
    let pairs : length ks ≡ length vs = c.self.invariant.pairs ∙ sym (ap length same) in
    let inside : i < length vs = omega (arith, there, c.in_ok-index.ensures.index, pairs) in
    let keys : c.insert_full.new.self ≡ ks = c.in_ok-index.ensures.keys ∙ ap (λ (b : Bool). if b then ks else ks ++ q ∷ []) some in
    let is : entries_of c.insert_full.new.self (set vs i w) ≡ entries_with q (data_of w) (entries_of ks vs) =
    ap (λ l. entries_of l (set vs i w)) keys ∙ ap (λ j. entries_of ks (set vs j w)) c.in_ok-index.ensures.index ∙ put_in q w ks vs pairs there in
    let before = ap (entries_of ks) (sym same) in
    let total = weight_replaced ks vs i w c.index.result.now pairs inside in
    let low = weight-le-entries_weight ks vs i c.index.result.now pairs inside in
    let old = ap (λ v. weight (data_of v)) c.index.ensures in
    let heavy = ap entries_weight before in
    let after = ap (λ l. entries_weight (entries_of l (set vs i w))) keys in
    record {
      pairs = ap length keys ∙ pairs ∙ sym (length-set vs i w);
      distinct = subst AreDistinct (sym is) (put-distinct q (data_of w) (entries_of ks vs) (subst AreDistinct before c.self.invariant.distinct));
      weight = omega (arith, total, low, old, heavy, after, c.weight-old_weight.ensures.weight, c.weight-weight.ensures.weight, c.self.invariant.weight);
      depth = subst (λ l. IfSome c.replaced_depth-self-inside.result (λ d. d ≡ entries_depth (entries_of l (set vs i w)))) (sym keys)
          (replaced_is c.self.inside.depth c.replaced_depth-self-inside.result ks vs i w c.index-else-is_new.result.now c.depth-old_depth.result c.depth-depth.result
          pairs inside (c.depth-old_depth.ensures.depth ∙ ap (λ v. depth (data_of v)) c.index-else-is_new.ensures) c.depth-depth.ensures.depth
          c.replaced_depth-self-inside.ensures
          (subst (λ es. IfSome c.self.inside.depth (λ d. d ≡ entries_depth es)) before c.self.invariant.depth));
      light = omega (arith, low, old, heavy, c.weight-old_weight.ensures.weight, c.weight-weight.ensures.weight, c.self.invariant.weight, c.requires, ap entries_weight c.self.view_is);
      shallow = replaced_small c.self.inside.depth c.replaced_depth-self-inside.result c.depth-old_depth.result c.depth-depth.result
          c.replaced_depth-self-inside.ensures c.self.invariant.shallow c.depth-depth.ensures.within;
    }

pub invariant_of-self-then-is_new : goal.invariant_of-self-then-is_new
invariant_of-self-then-is_new c =
    let ks = c.self.inside.keys in
    let vs = c.self.inside.values.items in
    let q = c.args.key in
    let w = c.args.value in
    let absent = not-true (list_any (bytes_eq q) ks) (sym c.in_ok-index.ensures.added ∙ c.if-is_new.true) in
    let past : length ks ≤ place q ks = no_any (λ k. bytes_eq q k) ks absent in
    let keys : c.insert_full.new.self ≡ ks ++ q ∷ [] = c.in_ok-index.ensures.keys ∙ ap (λ (b : Bool). if b then ks else ks ++ q ∷ []) absent in
    let values : c.push_reserved.new.self.items ≡ vs ++ w ∷ [] = c.push_reserved.ensures.items ∙ ap (λ l. l ++ w ∷ []) c.in_ok-reserve.ensures.items in
    let is : entries_of c.insert_full.new.self c.push_reserved.new.self.items ≡ entries_with q (data_of w) (entries_of ks vs) =
    ap (λ l. entries_of l c.push_reserved.new.self.items) keys ∙ ap (entries_of (ks ++ q ∷ [])) values ∙ put_new q w ks vs c.self.invariant.pairs past in
    let none : find q (entries_of ks vs) ≡ None = find_out q ks vs past in
    let total = weight_put-new q (data_of w) (entries_of ks vs) none in
    let deep = depth_put-new q (data_of w) (entries_of ks vs) none in
    record {
      pairs = ap length keys ∙ length_push ks q ∙ ap (λ n. n + 1) c.self.invariant.pairs ∙ sym (length_push vs w) ∙ sym (ap length values);
      distinct = subst AreDistinct (sym is) (put-distinct q (data_of w) (entries_of ks vs) c.self.invariant.distinct);
      weight = omega (arith, total, ap entries_weight is, c.weight-weight.ensures.weight, c.self.invariant.weight, ap length c.as_str.ensures.text);
      depth = deeper_is c.self.inside.depth c.deeper-self-inside.result (entries_depth (entries_of ks vs)) (entries_depth (entries_of c.insert_full.new.self c.push_reserved.new.self.items)) c.depth-depth.result c.deeper-self-inside.ensures c.self.invariant.depth (omega (arith, deep, ap entries_depth is, c.depth-depth.ensures.depth));
      light = omega (arith, c.weight-weight.ensures.weight, c.self.invariant.weight, c.requires, ap entries_weight c.self.view_is, ap length c.as_str.ensures.text);
      shallow = deeper_small c.self.inside.depth c.deeper-self-inside.result c.depth-depth.result c.deeper-self-inside.ensures c.self.invariant.shallow c.depth-depth.ensures.within;
    }

pub returns-else-is_new : goal.returns-else-is_new
returns-else-is_new c =
    let ks = c.self.inside.keys in
    let vs = c.reserve.new.self.items in
    let same = c.in_ok-reserve.ensures.items in
    let q = c.args.key in
    let i = c.in_ok-index.index in
    let w = c.args.value in
    let some = not-false (list_any (bytes_eq q) ks) (sym c.in_ok-index.ensures.added ∙ c.if-is_new.false) in
    let there = some_any (λ k. bytes_eq q k) ks some in
    let pairs : length ks ≡ length vs = c.self.invariant.pairs ∙ sym (ap length same) in
    let keys : c.insert_full.new.self ≡ ks = c.in_ok-index.ensures.keys ∙ ap (λ (b : Bool). if b then ks else ks ++ q ∷ []) some in
    ap (λ l. entries_of l (set vs i w)) keys ∙ ap (λ j. entries_of ks (set vs j w)) c.in_ok-index.ensures.index ∙ put_in q w ks vs pairs there
    ∙ ap (λ l. entries_with q (data_of w) (entries_of ks l)) same ∙ ap (entries_with q (data_of w)) c.self.view_is

pub returns-then-is_new : goal.returns-then-is_new
returns-then-is_new c =
    let ks = c.self.inside.keys in
    let vs = c.self.inside.values.items in
    let q = c.args.key in
    let w = c.args.value in
    let absent = not-true (list_any (bytes_eq q) ks) (sym c.in_ok-index.ensures.added ∙ c.if-is_new.true) in
    let past : length ks ≤ place q ks = no_any (λ k. bytes_eq q k) ks absent in
    let keys : c.insert_full.new.self ≡ ks ++ q ∷ [] = c.in_ok-index.ensures.keys ∙ ap (λ (b : Bool). if b then ks else ks ++ q ∷ []) absent in
    let values : c.push_reserved.new.self.items ≡ vs ++ w ∷ [] = c.push_reserved.ensures.items ∙ ap (λ l. l ++ w ∷ []) c.in_ok-reserve.ensures.items in
    ap (λ l. entries_of l c.push_reserved.new.self.items) keys ∙ ap (entries_of (ks ++ q ∷ [])) values ∙ put_new q w ks vs c.self.invariant.pairs past ∙ ap (entries_with q (data_of w)) c.self.view_is

-- Texts as items, one after another.
use Rattle.std.proofs.Common.{◌≡◌, ℕ, ◌+◌, ◌<◌, ◌≤◌, List, [], ◌∷◌, ◌++◌, map, drop, length, get_or, Result, Ok, Err, refl, sym, ap}
use Rattle.std.proofs.Common.{◌∙◌, Bor, arith, rules, tests}
use Rattle.std.proofs.Math.ListN.{set}
use Rattle.std.proofs.Math.Seq.{get_or-append_seam, set-append_seam}
use Rattle.std.proofs.lemmas.Bool.{cond-true, cond-false}
use Rattle.std.proofs.lemmas.List.{at_drop_more}
use Rattle.std.specs.Prelude.{nat_le}
use Rattle.values.specs.Data.{text, Items, no_items, item, items_append}
use Rattle.values.specs.Limits.{Appends, within}
use Rattle.values.specs.View.{data_of, items_of}
use Rattle.values.specs.declared.refusal.OperationRefusal.{OperationRefusal}
use Rattle.values.specs.declared.refusal.OperationRefusal.TheVariants as refusals
use Rattle.values.specs.declared.text.Text.{Text}
use Rattle.values.specs.declared.value.Value.{Value}
use Rattle.values.specs.declared.value.Value.TheVariants as values
use Rattle.values.proofs.ItemsLemmas.{items_of-push}
use Rattle.operations.specs.operators.TextLists.{PutsText, and_then, texts_behind}

-- one text more
pub texts_more : (vs new : List Value) (v : Value) (texts : List (Bor (List ℕ))) (i : ℕ) (d t : Bor (List ℕ)) (whole : Result Items OperationRefusal)
    → i < length texts → t ≡ get_or texts i d → within (text t.now) ≡ Ok (data_of v) → new ≡ vs ++ v ∷ []
    → texts_behind (items_of vs) (map (λ u. u.now) (drop i texts)) ≡ whole
    → texts_behind (items_of new) (map (λ u. u.now) (drop (i + 1) texts)) ≡ whole
texts_more vs new v texts i d t whole h is w n now =
    let rest : List (List ℕ) = map (λ u. u.now) (drop (i + 1) texts) in
    ap (λ ds. texts_behind ds rest) (items_of-push vs new v (items_of vs) n refl)
    ∙ sym (ap (λ r. and_then r (λ e. texts_behind (items_append (items_of vs) (item e no_items)) rest)) w)
    ∙ ap (λ x. texts_behind (items_of vs) (x.now ∷ rest)) is
    ∙ sym (at_drop_more (λ us. texts_behind (items_of vs) (map (λ u. u.now) us)) texts i d h)
    ∙ now

-- a text that is past the limit
pub texts_past : (vs : List Value) (texts : List (Bor (List ℕ))) (i : ℕ) (d t : Bor (List ℕ)) (e : OperationRefusal) (whole : Result Items OperationRefusal)
    → i < length texts → t ≡ get_or texts i d → within (text t.now) ≡ Err e
    → texts_behind (items_of vs) (map (λ u. u.now) (drop i texts)) ≡ whole → Err e ≡ whole
texts_past vs texts i d t e whole h is w now =
    let rest : List (List ℕ) = map (λ u. u.now) (drop (i + 1) texts) in
    sym (ap (λ r. and_then r (λ x. texts_behind (items_append (items_of vs) (item x no_items)) rest)) w)
    ∙ ap (λ x. texts_behind (items_of vs) (x.now ∷ rest)) is
    ∙ sym (at_drop_more (λ us. texts_behind (items_of vs) (map (λ u. u.now) us)) texts i d h)
    ∙ now

within_short : (t : List ℕ) → length t ≤ 16777216 → within (text t) ≡ Ok (text t)
within_short t short = cond-true (nat_le (length t) 16777216) (Ok (text t)) (Err refusals.Limit) (search (rules, tests))

within_long : (t : List ℕ) → 16777216 < length t → within (text t) ≡ Err refusals.Limit
within_long t long = cond-false (nat_le (length t) 16777216) (Ok (text t)) (Err refusals.Limit) (search (rules, tests))

-- a text that became longer where it lies, behind the others
pub puts_text : (before after : List Value) (at : ℕ) (empty lies made : Text) (t : List ℕ) (put : Result (Unit {0}) OperationRefusal)
    → at ≡ length before → after ≡ before ++ values.Text empty ∷ [] → lies ≡ [] → Appends lies t made put
    → PutsText before t (set after at (values.Text made)) put
puts_text before after at empty lies made t (Ok done) place stands none grown = (
  values.Text made,
  (λ k. set (stands k) (place k) (values.Text made)) ∙ set-append_seam before (values.Text empty) [] (values.Text made),
  ap (λ u. within (text u)) (sym (grown.0 ∙ ap (λ u. u ++ t) none)) ∙ within_short made grown.1,
)
puts_text before after at empty lies made t (Err e) place stands none long =
    within_long t (let count : length (lies ++ t) ≡ length t = ap (λ u. length (u ++ t)) none in omega (arith, long.1))
    ∙ ap (λ x. Err x) (sym long.0)

abbrev text_in : Value → List ℕ
text_in (values.Text t) = t
text_in v = []

-- what was put behind the others lies there
pub lies_there : (before after : List Value) (at : ℕ) (empty lies : Text) (found d : Value) → at ≡ length before
    → after ≡ before ++ values.Text empty ∷ [] → found ≡ get_or after at d → found ≡ values.Text lies → empty ≡ [] → lies ≡ []
lies_there before after at empty lies found d place stands is as_text none =
    ap text_in (sym as_text ∙ is ∙ (λ k. get_or (stands k) (place k) d) ∙ get_or-append_seam before (values.Text empty) [] d) ∙ none

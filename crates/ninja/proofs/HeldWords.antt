-- A command can be held exactly where its words can, and what makes an edge writable, one by one.
use Rattle.std.proofs.Common.{◌≡◌, ℕ, Bool, true, false, eqb, ◌&&◌, not, List, [], ◌∷◌, ◌++◌, Option, Some, None, refl, ap, ◌∙◌, inl, inr}
use Rattle.std.specs.List.{list_all}
use Rattle.std.proofs.lemmas.Bool.{and_parts, cases_Bool, eqb-true}
use Rattle.ninja.specs.Shell.{is_no_first_word}
use Rattle.build.specs.edge.Data.{EdgeData}
use Rattle.build.specs.edge.Holding.{value_byte_held, value_held, value_held_if, is_path, is_some_list, is_writable, paths_writable}
use Rattle.build.specs.edge.Holding.{values_writable}
use Rattle.ninja.specs.Words.{is_bare, quoted_byte, quoted_bytes, single_quoted_word, word_text, first_word_text, later_word_text}
use Rattle.ninja.specs.Words.{later_words_text, redirect_text, words_text}

and-true : (b : Bool) → (b && true) ≡ b
and-true true = refl
and-true false = refl

and-assoc : (a b c : Bool) → (a && (b && c)) ≡ ((a && b) && c)
and-assoc true b c = refl
and-assoc false b c = refl

held-append : (a b : List ℕ) → value_held (a ++ b) ≡ value_held a && value_held b
held-append [] b = refl
held-append (x ∷ xs) b = ap (λ v. value_byte_held x && v) (held-append xs b) ∙ and-assoc (value_byte_held x) (value_held xs) (value_held b)

held-quoted_byte : (b : ℕ) → value_held (quoted_byte b) ≡ value_byte_held b
held-quoted_byte b = elim (cases_Bool (eqb b 39)) [ inl e ↦ rw (e, eqb-true b 39 e) refl | inr e ↦ rw e (and-true (value_byte_held b)) ]

held-quoted_bytes : (w : List ℕ) → value_held (quoted_bytes w) ≡ value_held w
held-quoted_bytes [] = refl
held-quoted_bytes (b ∷ bs) = held-append (quoted_byte b) (quoted_bytes bs) ∙ ap (λ v. v && value_held (quoted_bytes bs)) (held-quoted_byte b) ∙ ap (λ v. value_byte_held b && v) (held-quoted_bytes bs)

held-quoted : (w : List ℕ) → value_held (single_quoted_word w) ≡ value_held w
held-quoted w = held-append (quoted_bytes w) (39 ∷ []) ∙ and-true (value_held (quoted_bytes w)) ∙ held-quoted_bytes w

held-word_text : (w : List ℕ) → value_held (word_text w) ≡ value_held w
held-word_text w = elim (cases_Bool (is_bare w)) [ inl e ↦ rw e refl | inr e ↦ rw e (held-quoted w) ]

held-first_word_text : (w : List ℕ) → value_held (first_word_text w) ≡ value_held w
held-first_word_text w = elim (cases_Bool (is_bare w && not (is_no_first_word w))) [ inl e ↦ rw e refl | inr e ↦ rw e (held-quoted w) ]

held-later_words_text : (ws : List (List ℕ)) → value_held (later_words_text ws) ≡ list_all value_held ws
held-later_words_text [] = refl
held-later_words_text (w ∷ ws) = held-append (later_word_text w) (later_words_text ws) ∙ ap (λ v. v && value_held (later_words_text ws)) (held-word_text w) ∙ ap (λ v. value_held w && v) (held-later_words_text ws)

held-redirect_text : (redirect : Option (List ℕ)) → value_held (redirect_text redirect) ≡ value_held_if redirect
held-redirect_text None = refl
held-redirect_text (Some name) = held-word_text name

held-words_text : (ws : List (List ℕ)) (redirect : Option (List ℕ)) → value_held (words_text ws redirect) ≡ list_all value_held ws && value_held_if redirect
held-words_text [] None = refl
held-words_text [] (Some name) = held-word_text name
held-words_text (w ∷ ws) redirect =
    held-append (first_word_text w) (later_words_text ws ++ redirect_text redirect)
    ∙ ap (λ v. value_held (first_word_text w) && v) (held-append (later_words_text ws) (redirect_text redirect))
    ∙ ap (λ v. v && (value_held (later_words_text ws) && value_held (redirect_text redirect))) (held-first_word_text w)
    ∙ ap (λ v. value_held w && (v && value_held (redirect_text redirect))) (held-later_words_text ws)
    ∙ ap (λ v. value_held w && (list_all value_held ws && v)) (held-redirect_text redirect)
    ∙ and-assoc (value_held w) (list_all value_held ws) (value_held_if redirect)

-- what makes an edge writable, one by one, where the command is held as a value
pub record IsHeld (e : EdgeData) : Type 0 where
  pub has_output : is_some_list e.outputs ≡ true
  pub has_word : is_some_list e.words ≡ true
  pub outputs : list_all is_path e.outputs ≡ true
  pub inputs : list_all is_path e.inputs ≡ true
  pub implicit : list_all is_path e.implicit ≡ true
  pub order_only : list_all is_path e.order_only ≡ true
  pub command : value_held (words_text e.words e.redirect) ≡ true
  pub description : value_held e.description ≡ true
  pub depfile : value_held_if e.depfile ≡ true

both : (a b : Bool) → a ≡ true → b ≡ true → (a && b) ≡ true
both a b h k = rw (h, k) refl

pub held_of : (e : EdgeData) → is_writable e ≡ true → IsHeld e
held_of e h =
    let some_outputs = is_some_list e.outputs in
    let outputs = list_all is_path e.outputs in
    let inputs = list_all is_path e.inputs in
    let implicit = list_all is_path e.implicit in
    let order_only = list_all is_path e.order_only in
    let some_words = is_some_list e.words in
    let words = list_all value_held e.words in
    let redirect = value_held_if e.redirect in
    let description = value_held e.description in
    let depfile = value_held_if e.depfile in
    let k = and_parts (paths_writable e) (values_writable e) h in
    let p1 = and_parts some_outputs (outputs && (inputs && (implicit && order_only))) k.0 in
    let p2 = and_parts outputs (inputs && (implicit && order_only)) p1.1 in
    let p3 = and_parts inputs (implicit && order_only) p2.1 in
    let p4 = and_parts implicit order_only p3.1 in
    let v1 = and_parts some_words (words && (redirect && (description && depfile))) k.1 in
    let v2 = and_parts words (redirect && (description && depfile)) v1.1 in
    let v3 = and_parts redirect (description && depfile) v2.1 in
    let v4 = and_parts description depfile v3.1 in
    record {
      has_output = p1.0;
      has_word = v1.0;
      outputs = p2.0;
      inputs = p3.0;
      implicit = p4.0;
      order_only = p4.1;
      command = held-words_text e.words e.redirect ∙ both words redirect v2.0 v3.0;
      description = v4.0;
      depfile = v4.1;
    }

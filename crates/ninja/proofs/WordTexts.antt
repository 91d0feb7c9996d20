-- The text of words, as a value, in the pieces in which it is made.
use Rattle.std.proofs.Common.{◌≡◌, ℕ, true, false, eqb, ◌&&◌, not, List, [], ◌∷◌, ◌++◌, length, Option, Some, None, String, Global}
use Rattle.std.proofs.Common.{string_bytes, ◌<◌, ◌≤◌, ◌-◌, take, drop, get_or, take_all, sub-one, arith, refl, sym, ap, ◌∙◌, append_assoc}
use Rattle.std.proofs.Common.{append-nil, inl, inr}
use Rattle.std.specs.List.{flat_map}
use Rattle.std.proofs.lemmas.Bool.{and_parts, cases_Bool}
use Rattle.std.proofs.lemmas.List.Concat.{flat_map-append}
use Rattle.build.specs.edge.Texts.{texts}
use Rattle.ninja.specs.Shell.{is_bare_byte, is_no_first_word}
use Rattle.ninja.specs.Escapes.{value_byte_text, value_rest_text, value_text}
use Rattle.ninja.specs.Words.{is_all_bare, is_bare, quoted_byte, quoted_bytes, single_quoted_word, first_word_text, later_word_text}
use Rattle.ninja.specs.Words.{later_words_text, redirect_text, lone_redirect_text, words_text}
use Rattle.ninja.specs.Places.{byte_text}
use Rattle.ninja.specs.declared.escapes.EscapeMode.TheVariants.{InQuotes}
use Rattle.ninja.proofs.ShellWords.{other_than}

pub is_bare-some : (w : List ℕ) → eqb (length w) 0 ≡ false → is_all_bare w ≡ is_bare w
is_bare-some [] h = absurd cc
is_bare-some (b ∷ bs) h = refl

all_bare_value : (w : List ℕ) → is_all_bare w ≡ true → value_rest_text w ≡ w
all_bare_value [] h = refl
all_bare_value (b ∷ bs) h =
    let k = and_parts (is_bare_byte b) (is_all_bare bs) h in
    rw (other_than is_bare_byte 36 b refl k.0, all_bare_value bs k.1) refl

-- a bare word is a value as it is
pub bare_value : (w : List ℕ) → is_bare w ≡ true → value_rest_text w ≡ w
bare_value [] h = absurd cc
bare_value (b ∷ bs) h = all_bare_value (b ∷ bs) h

flat_map-flat_map : {A : Type 0} (f : ℕ → List ℕ) (h : A → List ℕ) (xs : List A) → flat_map f (flat_map h xs) ≡ flat_map (λ x. flat_map f (h x)) xs
flat_map-flat_map f h [] = refl
flat_map-flat_map f h (x ∷ xs) = flat_map-append f (h x) (flat_map h xs) ∙ ap (λ v. flat_map f (h x) ++ v) (flat_map-flat_map f h xs)

pub quoted_value : (w : List ℕ) → value_rest_text (single_quoted_word w) ≡ 39 ∷ (flat_map (byte_text InQuotes) w ++ 39 ∷ [])
quoted_value w =
    ap (λ v. 39 ∷ v) (flat_map-append value_byte_text (quoted_bytes w) (39 ∷ []) ∙ ap (λ v. v ++ 39 ∷ []) (flat_map-flat_map value_byte_text quoted_byte w))

pub lone_redirect_value : (redirect : Option (List ℕ)) → value_text (words_text [] redirect) ≡ value_rest_text (lone_redirect_text redirect)
unfolding value_text
lone_redirect_value None = refl
lone_redirect_value (Some name) = refl

no_blank_first : (b : ℕ) (bs : List ℕ) → eqb b 32 ≡ false → value_text (b ∷ bs) ≡ value_rest_text (b ∷ bs)
unfolding value_text
no_blank_first b bs h = rw h refl

bare_value_text : (w rest : List ℕ) → is_bare w ≡ true → value_text (w ++ rest) ≡ value_rest_text (w ++ rest)
bare_value_text [] rest h = absurd cc
bare_value_text (b ∷ bs) rest h = no_blank_first b (bs ++ rest) (other_than is_bare_byte 32 b refl (and_parts (is_bare_byte b) (is_all_bare bs) h).0)

first_value_text : (w rest : List ℕ) → value_text (first_word_text w ++ rest) ≡ value_rest_text (first_word_text w ++ rest)
unfolding value_text
first_value_text w rest =
    elim (cases_Bool (is_bare w && not (is_no_first_word w))) [
      | inl e ↦ rw e (bare_value_text w rest (and_parts _ _ e).0)
      | inr e ↦ rw e refl
    ]

-- the words one after the other
words_value : (w : List ℕ) (ws : List (List ℕ)) (redirect : Option (List ℕ))
    → value_text (words_text (w ∷ ws) redirect) ≡ value_rest_text (first_word_text w) ++ (value_rest_text (later_words_text ws) ++ value_rest_text (redirect_text redirect))
words_value w ws redirect =
    first_value_text w (later_words_text ws ++ redirect_text redirect)
    ∙ flat_map-append value_byte_text (first_word_text w) (later_words_text ws ++ redirect_text redirect)
    ∙ ap (λ v. value_rest_text (first_word_text w) ++ v) (flat_map-append value_byte_text (later_words_text ws) (redirect_text redirect))

-- more words behind those of a command
pub words_more : (w : List ℕ) (ws more : List (List ℕ)) → value_text (words_text ((w ∷ ws) ++ more) None) ≡ value_text (words_text (w ∷ ws) None) ++ value_rest_text (later_words_text more)
words_more w ws more =
    let first = value_rest_text (first_word_text w) in
    let later = value_rest_text (later_words_text ws) in
    let last = value_rest_text (later_words_text more) in
    words_value w (ws ++ more) None
    ∙ ap (λ v. first ++ v) (append-nil (value_rest_text (later_words_text (ws ++ more))) ∙ ap value_rest_text (flat_map-append later_word_text ws more)
    ∙ flat_map-append value_byte_text (later_words_text ws) (later_words_text more))
    ∙ sym (append_assoc first later last)
    ∙ ap (λ v. (first ++ v) ++ last) (sym (append-nil later))
    ∙ ap (λ v. v ++ last) (sym (words_value w ws None))

-- no word
pub no_words_value : (ss : List (String Global)) (redirect : Option (List ℕ)) → length ss < 1 → value_text (words_text (texts ss) redirect) ≡ value_rest_text (lone_redirect_text redirect)
no_words_value [] redirect h = lone_redirect_value redirect
no_words_value (s ∷ ss) redirect h = absurd (omega arith)

-- a first word and others
pub some_words_value : (ss : List (String Global)) (d : String Global) (redirect : Option (List ℕ)) → 1 ≤ length ss
    → value_text (words_text (texts ss) redirect)
    ≡ value_rest_text (first_word_text (string_bytes (get_or ss 0 d)))
    ++ (value_rest_text (later_words_text (texts (take (length ss - 1) (drop 1 ss)))) ++ value_rest_text (redirect_text redirect))
some_words_value [] d redirect h = absurd (omega arith)
some_words_value (s ∷ ss) d redirect h = rw (sub-one, take_all (length ss) ss (omega arith)) (words_value (string_bytes s) (texts ss) redirect)

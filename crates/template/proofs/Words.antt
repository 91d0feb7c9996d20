-- How cutting off one word after the other follows the words of a line.
use Rattle.std.proofs.Common.{◌≡◌, ℕ, suc, ◌+◌, ◌≤◌, Bool, true, false, ◌&&◌, List, [], ◌∷◌, ◌++◌, length, take, drop, refl, sym, ap, ◌∙◌}
use Rattle.std.proofs.Common.{append_assoc, arith, ⊎_elim}
use Rattle.std.specs.Prelude.{nat_eq, nat_lt, codes}
use Rattle.std.specs.List.{starts_with, prefix_len, list_all, AllPass}
use Rattle.std.specs.Str.{bytes_eq}
use Rattle.std.proofs.lemmas.Bool.{false≢true, cases_Bool, and_parts}
use Rattle.std.proofs.lemmas.List.Sums.{AllPass-from_list_all}
use Rattle.std.proofs.lemmas.List.{append-nil, length-take-le}
use Rattle.template.specs.Line.{Plain, Defines, Malformed, is_blank, is_placeholder_name, is_name_byte, words_with_first, words, words_after, defined_in}
use Rattle.template.specs.Line.{reading_of}
use Rattle.template.specs.Scan.{is_word_byte, IsFirstWord}

prefix_one : (p : ℕ → Bool) (b : ℕ) (bytes : List ℕ) → p b ≡ true → prefix_len p (b ∷ bytes) ≡ 1 + prefix_len p bytes
prefix_one p b bytes e = rw e refl

prefix_no : (p : ℕ → Bool) (b : ℕ) (bytes : List ℕ) → p b ≡ false → prefix_len p (b ∷ bytes) ≡ 0
prefix_no p b bytes e = rw e refl

drop_one : (b : ℕ) (n : ℕ) (bytes : List ℕ) → drop (1 + n) (b ∷ bytes) ≡ drop n bytes
drop_one b n bytes = let e : 1 + n ≡ suc n = omega arith in rw e refl

take_one : (b : ℕ) (n : ℕ) (bytes : List ℕ) → take (1 + n) (b ∷ bytes) ≡ b ∷ take n bytes
take_one b n bytes = let e : 1 + n ≡ suc n = omega arith in rw e refl

words_after-blank : (word : List ℕ) (b : ℕ) (bytes : List ℕ) → is_blank b ≡ true → words_after word (b ∷ bytes) ≡ words_with_first word (words bytes)
unfolding words_after
words_after-blank word b bytes e = rw e refl

words_after-byte : (word : List ℕ) (b : ℕ) (bytes : List ℕ) → is_blank b ≡ false → words_after word (b ∷ bytes) ≡ words_after (word ++ b ∷ []) bytes
unfolding words_after
words_after-byte word b bytes e = rw e refl

words_after-end : (word : List ℕ) → words_after word [] ≡ words_with_first word []
unfolding words_after
words_after-end word = refl

ended-none : (ws : List (List ℕ)) → words_with_first [] ws ≡ ws
unfolding words_with_first
ended-none ws = refl

ended-word : (b : ℕ) (word : List ℕ) (ws : List (List ℕ)) → words_with_first (b ∷ word) ws ≡ (b ∷ word) ∷ ws
unfolding words_with_first
ended-word b word ws = refl

words-nil : words [] ≡ []
words-nil = words_after-end [] ∙ ended-none []

-- blanks in front divide nothing
words-blanks : (bytes : List ℕ) → words bytes ≡ words (drop (prefix_len is_blank bytes) bytes)
words-blanks [] = refl
words-blanks (b ∷ bytes) =
    ⊎_elim
    (λ e. words_after-blank [] b bytes e ∙ ended-none (words bytes) ∙ words-blanks bytes
    ∙ ap words (sym (drop_one b (prefix_len is_blank bytes) bytes)) ∙ ap (λ n. words (drop n (b ∷ bytes))) (sym (prefix_one is_blank b bytes e)))
    (λ e. ap (λ n. words (drop n (b ∷ bytes))) (sym (prefix_no is_blank b bytes e)))
    (cases_Bool (is_blank b))

not_blank : (b : ℕ) → is_blank b ≡ false → is_word_byte b ≡ true
not_blank b e = rw e refl

a_blank : (b : ℕ) → is_blank b ≡ true → is_word_byte b ≡ false
a_blank b e = rw e refl

-- a word goes up to the first blank
words_after-word : (word bytes : List ℕ)
    → words_after word bytes ≡ words_with_first (word ++ take (prefix_len is_word_byte bytes) bytes) (words (drop (prefix_len is_word_byte bytes) bytes))
words_after-word word [] = words_after-end word ∙ ap (λ w. words_with_first w []) (sym (append-nil word)) ∙ ap (λ ws. words_with_first (word ++ []) ws) (sym words-nil)
words_after-word word (b ∷ bytes) =
    ⊎_elim
    (λ e.
    words_after-blank word b bytes e
    ∙ ap (λ w. words_with_first w (words bytes)) (sym (append-nil word))
    ∙ ap (λ ws. words_with_first (word ++ []) ws) (sym (words_after-blank [] b bytes e ∙ ended-none (words bytes)))
    ∙ ap (λ n. words_with_first (word ++ take n (b ∷ bytes)) (words (drop n (b ∷ bytes)))) (sym (prefix_no is_word_byte b bytes (a_blank b e))))
    (λ e.
    let n = prefix_len is_word_byte bytes in
    words_after-byte word b bytes e ∙ words_after-word (word ++ b ∷ []) bytes
    ∙ ap (λ w. words_with_first w (words (drop n bytes))) (append_assoc word (b ∷ []) (take n bytes))
    ∙ ap (λ r. words_with_first (word ++ r) (words (drop n bytes))) (sym (take_one b n bytes))
    ∙ ap (λ r. words_with_first (word ++ take (1 + n) (b ∷ bytes)) (words r)) (sym (drop_one b n bytes))
    ∙ ap (λ k. words_with_first (word ++ take k (b ∷ bytes)) (words (drop k (b ∷ bytes)))) (sym (prefix_one is_word_byte b bytes (not_blank b e))))
    (cases_Bool (is_blank b))

-- behind the blanks stands a word, or nothing
blank_rest : (bytes : List ℕ) → prefix_len is_word_byte (drop (prefix_len is_blank bytes) bytes) ≡ 0 → drop (prefix_len is_blank bytes) bytes ≡ []
blank_rest [] e = refl
blank_rest (b ∷ bytes) e =
    ⊎_elim
    (λ blank.
    let here : drop (prefix_len is_blank (b ∷ bytes)) (b ∷ bytes) ≡ drop (prefix_len is_blank bytes) bytes = ap (λ n. drop n (b ∷ bytes)) (prefix_one is_blank b bytes blank) ∙ drop_one b (prefix_len is_blank bytes) bytes in
    here ∙ blank_rest bytes (ap (prefix_len is_word_byte) (sym here) ∙ e))
    (λ word.
    let here : drop (prefix_len is_blank (b ∷ bytes)) (b ∷ bytes) ≡ b ∷ bytes = ap (λ n. drop n (b ∷ bytes)) (prefix_no is_blank b bytes word) in
    let some = prefix_one is_word_byte b bytes (not_blank b word) in
    let none : prefix_len is_word_byte (b ∷ bytes) ≡ 0 = ap (prefix_len is_word_byte) (sym here) ∙ e in
    absurd (omega arith))
    (cases_Bool (is_blank b))

-- what `first_word` cuts off
pub first_word_is : (bytes text : List ℕ) (len : ℕ) → text ≡ drop (prefix_len is_blank bytes) bytes → len ≡ prefix_len is_word_byte text → len ≤ length text
    → IsFirstWord bytes (take len text) (drop len text)
first_word_is bytes text len t l within = record {
  cut = words-blanks bytes ∙ ap words (sym t) ∙ words_after-word [] text ∙ ap (λ n. words_with_first (take n text) (words (drop n text))) (sym l);
  none = λ empty.
      let zero : len ≡ 0 = sym (length-take-le len text within) ∙ empty in
      words-blanks bytes ∙ ap words (blank_rest bytes (ap (prefix_len is_word_byte) (sym t) ∙ sym l ∙ zero)) ∙ words-nil;
}

-- what stands behind the word `#mesondefine`

not_the_word : (word : List ℕ) (ws : List (List ℕ)) → bytes_eq word (codes "#mesondefine") ≡ false → defined_in word ws ≡ Malformed
unfolding defined_in
not_the_word word [] e = refl
not_the_word word (name ∷ []) e = rw e refl
not_the_word word (name ∷ next ∷ others) e = refl

defined_in-none : (word : List ℕ) → defined_in word [] ≡ Malformed
unfolding defined_in
defined_in-none word = refl

defined_in-two : (word name next : List ℕ) (others : List (List ℕ)) → defined_in word (name ∷ next ∷ others) ≡ Malformed
unfolding defined_in
defined_in-two word name next others = refl

and-false : (a : Bool) → (a && false) ≡ false
and-false true = refl
and-false false = refl

no_name : (word name : List ℕ) (ws : List (List ℕ)) → is_placeholder_name name ≡ false → defined_in word (name ∷ ws) ≡ Malformed
unfolding defined_in
no_name word name [] e = rw e (rw (and-false (bytes_eq word (codes "#mesondefine"))) refl)
no_name word name (next ∷ others) e = refl

one_name : (word name : List ℕ) → bytes_eq word (codes "#mesondefine") ≡ true → is_placeholder_name name ≡ true → defined_in word (name ∷ []) ≡ Defines name
unfolding defined_in
one_name word name e f = rw e (rw f refl)

is_placeholder_name-nil : is_placeholder_name [] ≡ false
unfolding is_placeholder_name
is_placeholder_name-nil = refl

pub malformed_word : (word rest : List ℕ) → bytes_eq word (codes "#mesondefine") ≡ false → defined_in word (words rest) ≡ Malformed
malformed_word word rest e = not_the_word word (words rest) e

pub malformed_name : (word rest second behind : List ℕ) → IsFirstWord rest second behind → is_placeholder_name second ≡ false → defined_in word (words rest) ≡ Malformed
malformed_name word rest [] behind first e = ap (defined_in word) (first.none refl) ∙ defined_in-none word
malformed_name word rest (b ∷ second) behind first e = ap (defined_in word) (first.cut ∙ ended-word b second (words behind)) ∙ no_name word (b ∷ second) (words behind) e

pub malformed_more : (word rest second behind third last : List ℕ) → IsFirstWord rest second behind → IsFirstWord behind third last → (length third ≡ 0 → ⊥) → defined_in word (words rest) ≡ Malformed
malformed_more word rest [] behind third last first next some = ap (defined_in word) (first.none refl) ∙ defined_in-none word
malformed_more word rest (b ∷ second) behind [] last first next some = absurd (some refl)
malformed_more word rest (b ∷ second) behind (c ∷ third) last first next some =
    ap (defined_in word) (first.cut ∙ ended-word b second (words behind) ∙ ap (λ ws. (b ∷ second) ∷ ws) (next.cut ∙ ended-word c third (words last)))
    ∙ defined_in-two word (b ∷ second) (c ∷ third) (words last)

pub defines_name : (word rest second behind third last : List ℕ) → IsFirstWord rest second behind → IsFirstWord behind third last
    → bytes_eq word (codes "#mesondefine") ≡ true → is_placeholder_name second ≡ true → length third ≡ 0 → defined_in word (words rest) ≡ Defines second
defines_name word rest [] behind third last first next e f none = absurd (false≢true (sym is_placeholder_name-nil ∙ f))
defines_name word rest (b ∷ second) behind third last first next e f none =
    ap (defined_in word) (first.cut ∙ ended-word b second (words behind) ∙ ap (λ ws. (b ∷ second) ∷ ws) (next.none none)) ∙ one_name word (b ∷ second) e f

pub is_name_bytes : (name : List ℕ) → is_placeholder_name name ≡ true → AllPass is_name_byte name
unfolding is_placeholder_name
is_name_bytes name e = AllPass-from_list_all is_name_byte name (and_parts (nat_lt 0 (length name)) (list_all is_name_byte name) e).1

-- how a line begins

reading_of-word : (word : List ℕ) (others : List (List ℕ)) → starts_with nat_eq word (codes "#mesondefine") ≡ true → reading_of (word ∷ others) ≡ defined_in word others
unfolding reading_of
reading_of-word word others e = rw e refl

reading_of-other : (word : List ℕ) (others : List (List ℕ)) → starts_with nat_eq word (codes "#mesondefine") ≡ false → reading_of (word ∷ others) ≡ Plain
unfolding reading_of
reading_of-other word others e = rw e refl

reading_of-none : reading_of [] ≡ Plain
unfolding reading_of
reading_of-none = refl

pub reading_defines : (body word rest : List ℕ) → IsFirstWord body word rest → starts_with nat_eq word (codes "#mesondefine") ≡ true → reading_of (words body) ≡ defined_in word (words rest)
reading_defines body [] rest first e = absurd (false≢true e)
reading_defines body (b ∷ word) rest first e = ap reading_of (first.cut ∙ ended-word b word (words rest)) ∙ reading_of-word (b ∷ word) (words rest) e

pub reading_plain : (body word rest : List ℕ) → IsFirstWord body word rest → starts_with nat_eq word (codes "#mesondefine") ≡ false → reading_of (words body) ≡ Plain
reading_plain body [] rest first e = ap reading_of (first.none refl) ∙ reading_of-none
reading_plain body (b ∷ word) rest first e = ap reading_of (first.cut ∙ ended-word b word (words rest)) ∙ reading_of-other (b ∷ word) (words rest) e

-- What the writer makes of words, a shell reads as these words.
use Rattle.std.proofs.Common.{◌≡◌, ℕ, Bool, true, false, cond, eqb, bytes_eq, codes, ◌||◌, ◌&&◌, not, nat_le, arith, List, [], ◌∷◌, ◌++◌}
use Rattle.std.proofs.Common.{Option, Some, None, refl, sym, ap, ◌∙◌, subst, append_assoc, append-nil, true≢false, inl, inr, ◌==◌}
use Rattle.std.proofs.lemmas.Bool.{and_parts, eqb-true, cases_Bool, false_from_ne_true, not-true}
use Rattle.std.proofs.lemmas.Slice.Eq.{bytes_eq-Decides}
use Rattle.std.specs.Char.{is_ascii_alphanumeric, is_ascii_graphic}
use Rattle.std.specs.List.{list_all, list_any}
use Rattle.ninja.specs.Machine.{before, output_from}
use Rattle.ninja.specs.Shell.{is_bare_byte, is_reserved, has_equals, is_no_first_word}
use Rattle.ninja.specs.Posix.{is_literal, is_reserved_word, is_no_command_name}
use Rattle.ninja.specs.Commands.{ShellToken, Word, Redirect, BetweenWords, Bare, Single, shell, command_of, shell_command}
use Rattle.ninja.specs.Words.{is_all_bare, is_bare, quoted_byte, quoted_bytes, single_quoted_word, word_text, first_word_text, later_words_text}
use Rattle.ninja.specs.Words.{redirect_text, words_text}
use Rattle.ninja.proofs.Machines.{Passes, passes_none, passes_both, passes_first, passes_to, passes_on, passes_all}

-- what passes a test is no number that fails it
pub other_than : (p : ℕ → Bool) (s b : ℕ) → p s ≡ false → p b ≡ true → eqb b s ≡ false
other_than p s b fails passes = false_from_ne_true (eqb b s) (λ e. true≢false (sym passes ∙ ap p (eqb-true b s e) ∙ fails))

-- ---- what the writer leaves bare, a shell reads as it stands

alphanumeric-visible : (b : ℕ) → is_ascii_alphanumeric b ≡ true → (nat_le 33 b && nat_le b 126) ≡ true
alphanumeric-visible b e = grind arith

sign-visible : (signs : List ℕ) (b : ℕ) → list_all is_ascii_graphic signs ≡ true → list_any (λ sign. b == sign) signs ≡ true
    → (nat_le 33 b && nat_le b 126) ≡ true
sign-visible [] b all e = absurd (true≢false (sym e))
sign-visible (sign ∷ signs) b all e =
    let parts = and_parts (is_ascii_graphic sign) (list_all is_ascii_graphic signs) all in
    elim (cases_Bool (b == sign)) [
      | inl f ↦ subst (λ c. is_ascii_graphic c ≡ true) (sym (eqb-true b sign f)) parts.0
      | inr f ↦ sign-visible signs b parts.1 (rw f at e)
    ]

visible : (b : ℕ) → is_bare_byte b ≡ true → (nat_le 33 b && nat_le b 126) ≡ true
visible b e =
    elim (cases_Bool (is_ascii_alphanumeric b)) [
      | inl f ↦ alphanumeric-visible b f
      | inr f ↦ sign-visible (codes "_@%+=:,./-") b refl (rw f at e)
    ]

literal : (b : ℕ) → is_bare_byte b ≡ true → is_literal b ≡ true
literal b e =
    let other = λ (s : ℕ) (fails : is_bare_byte s ≡ false). other_than is_bare_byte s b fails e in
    rw (
      visible b e,
      other 124 refl,
      other 38 refl,
      other 59 refl,
      other 60 refl,
      other 62 refl,
      other 40 refl,
      other 41 refl,
      other 36 refl,
      other 96 refl,
      other 92 refl,
      other 34 refl,
      other 39 refl,
      other 42 refl,
      other 63 refl,
      other 91 refl,
      other 93 refl,
      other 94 refl,
      other 33 refl,
      other 35 refl,
      other 126 refl,
      other 123 refl,
      other 125 refl,
    ) refl

other_word : (w v : List ℕ) → is_bare v ≡ false → is_bare w ≡ true → bytes_eq w v ≡ false
other_word w v fails passes = false_from_ne_true (bytes_eq w v) (λ e. true≢false (sym passes ∙ ap is_bare ((bytes_eq-Decides w v).0 e) ∙ fails))

same_reserved : (w : List ℕ) → is_bare w ≡ true → is_reserved_word w ≡ is_reserved w
same_reserved w e = rw (other_word w (codes "!") refl e, other_word w (codes "{") refl e, other_word w (codes "}") refl e) refl

command_name : (w : List ℕ) → is_bare w ≡ true → is_no_command_name w ≡ is_no_first_word w
command_name w e = ap (λ v. has_equals w || v) (same_reserved w e)

-- ---- a word

bare_step : (bare text : List ℕ) (b : ℕ) → is_bare_byte b ≡ true → shell.next (Bare bare text) b ≡ Bare (bare ++ b ∷ []) (text ++ b ∷ [])
bare_step bare text b e = rw (literal b e, other_than is_bare_byte 32 b refl e, other_than is_bare_byte 39 b refl e, other_than is_bare_byte 34 b refl e) refl

bare_gives : (bare text : List ℕ) (b : ℕ) → is_bare_byte b ≡ true → shell.gives (Bare bare text) b ≡ []
bare_gives bare text b e = rw (other_than is_bare_byte 32 b refl e) refl

bare_begins : (b : ℕ) → is_bare_byte b ≡ true → shell.next BetweenWords b ≡ Bare (b ∷ []) (b ∷ [])
bare_begins b e = rw (literal b e, other_than is_bare_byte 32 b refl e, other_than is_bare_byte 39 b refl e, other_than is_bare_byte 34 b refl e, other_than is_bare_byte 62 b refl e) refl

bare_rest : (bare text : List ℕ) (bs : List ℕ) → is_all_bare bs ≡ true → Passes shell (Bare bare text) bs [] (Bare (bare ++ bs) (text ++ bs))
bare_rest bare text [] e = passes_to shell (Bare bare text) [] [] (Bare bare text) (Bare (bare ++ []) (text ++ [])) (rw (append-nil bare, append-nil text) refl) (passes_none shell (Bare bare text))
bare_rest bare text (b ∷ bs) e =
    let h = and_parts _ _ e in
    let later = bare_rest (bare ++ b ∷ []) (text ++ b ∷ []) bs h.1 in
    passes_to shell (Bare bare text) (b ∷ bs) [] (Bare ((bare ++ b ∷ []) ++ bs) ((text ++ b ∷ []) ++ bs)) (Bare (bare ++ b ∷ bs) (text ++ b ∷ bs))
    (rw (append_assoc bare (b ∷ []) bs, append_assoc text (b ∷ []) bs) refl)
    (passes_first shell (Bare bare text) b [] (Bare (bare ++ b ∷ []) (text ++ b ∷ [])) bs [] (Bare ((bare ++ b ∷ []) ++ bs) ((text ++ b ∷ []) ++ bs)) (bare_step bare text b h.0) (bare_gives bare text b h.0) later)

bare_word : (w : List ℕ) → is_bare w ≡ true → Passes shell BetweenWords w [] (Bare w w)
bare_word [] e = absurd cc
bare_word (b ∷ bs) e =
    let h = and_parts _ _ e in
    passes_first shell BetweenWords b [] (Bare (b ∷ []) (b ∷ [])) bs [] (Bare (b ∷ bs) (b ∷ bs)) (bare_begins b h.0) refl (bare_rest (b ∷ []) (b ∷ []) bs h.1)

single_byte : (bare text : List ℕ) (b : ℕ) → Passes shell (Single bare text) (quoted_byte b) [] (Single bare (text ++ b ∷ []))
single_byte bare text b =
    elim (cases_Bool (eqb b 39)) [
      | inl e ↦ subst (λ (c : ℕ). Passes shell (Single bare text) (quoted_byte c) [] (Single bare (text ++ c ∷ []))) (sym (eqb-true b 39 e)) (record { state = refl; given = refl })
      | inr e ↦ rw e (record { state = rw e refl; given = refl })
    ]

single_bytes : (bare text bs : List ℕ) → Passes shell (Single bare text) (quoted_bytes bs) [] (Single bare (text ++ bs))
single_bytes bare text [] = passes_to shell (Single bare text) [] [] (Single bare text) (Single bare (text ++ [])) (rw (append-nil text) refl) (passes_none shell (Single bare text))
single_bytes bare text (b ∷ bs) =
    passes_to shell (Single bare text) (quoted_bytes (b ∷ bs)) [] (Single bare ((text ++ b ∷ []) ++ bs)) (Single bare (text ++ b ∷ bs)) (rw (append_assoc text (b ∷ []) bs) refl)
    (passes_both shell (Single bare text) (quoted_byte b) [] (Single bare (text ++ b ∷ [])) (quoted_bytes bs) [] (Single bare ((text ++ b ∷ []) ++ bs)) (single_byte bare text b) (single_bytes bare (text ++ b ∷ []) bs))

quoted_word : (w : List ℕ) → Passes shell BetweenWords (single_quoted_word w) [] (Bare [] w)
quoted_word w =
    passes_first shell BetweenWords 39 [] (Single [] []) (quoted_bytes w ++ 39 ∷ []) [] (Bare [] w) refl refl
    (passes_both shell (Single [] []) (quoted_bytes w) [] (Single [] w) (39 ∷ []) [] (Bare [] w) (single_bytes [] [] w) (record { state = refl; given = refl }))

-- the bytes of a word that stand outside quotes
abbrev pub bare_of : List ℕ → List ℕ
bare_of w = cond (is_bare w) w []

abbrev pub first_bare_of : List ℕ → List ℕ
first_bare_of w = cond (is_bare w && not (is_no_first_word w)) w []

pub word_passes : (w : List ℕ) → Passes shell BetweenWords (word_text w) [] (Bare (bare_of w) w)
word_passes w =
    elim (cases_Bool (is_bare w)) [
      | inl e ↦ rw e (bare_word w e)
      | inr e ↦ rw e (quoted_word w)
    ]

pub first_word_passes : (w : List ℕ) → Passes shell BetweenWords (first_word_text w) [] (Bare (first_bare_of w) w)
first_word_passes w =
    elim (cases_Bool (is_bare w && not (is_no_first_word w))) [
      | inl e ↦ rw e (bare_word w (and_parts _ _ e).0)
      | inr e ↦ rw e (quoted_word w)
    ]

first_word_stands : (w : List ℕ) → is_no_command_name (first_bare_of w) ≡ false
first_word_stands w =
    elim (cases_Bool (is_bare w && not (is_no_first_word w))) [
      | inl e ↦ let h = and_parts (is_bare w) (not (is_no_first_word w)) e in rw e (command_name w h.0 ∙ not-true (is_no_first_word w) h.1)
      | inr e ↦ rw e refl
    ]

-- ---- words

abbrev later_tokens : List (List ℕ) → Option (List ℕ) → List ShellToken
later_tokens [] None = []
later_tokens [] (Some name) = Redirect ∷ Word (bare_of name) name ∷ []
later_tokens (w ∷ ws) redirect = Word (bare_of w) w ∷ later_tokens ws redirect

later_words : (bare text : List ℕ) (ws : List (List ℕ)) (redirect : Option (List ℕ))
    → output_from shell (Bare bare text) (later_words_text ws ++ redirect_text redirect) ≡ Some (Word bare text ∷ later_tokens ws redirect)
later_words bare text [] None = refl
later_words bare text [] (Some name) =
    passes_all shell (Bare bare text) (32 ∷ 62 ∷ 32 ∷ word_text name) (Word bare text ∷ Redirect ∷ []) (Bare (bare_of name) name)
    (passes_both shell (Bare bare text) (32 ∷ 62 ∷ 32 ∷ []) (Word bare text ∷ Redirect ∷ []) BetweenWords (word_text name) [] (Bare (bare_of name) name) (record { state = refl; given = refl }) (word_passes name))
later_words bare text (w ∷ ws) redirect =
    ap (λ rest. output_from shell (Bare bare text) (32 ∷ rest)) (append_assoc (word_text w) (later_words_text ws) (redirect_text redirect))
    ∙ ap (before (Word bare text ∷ [])) (passes_on shell BetweenWords (word_text w) [] (Bare (bare_of w) w) (later_words_text ws ++ redirect_text redirect) (word_passes w))
    ∙ ap (λ v. before (Word bare text ∷ []) (before [] v)) (later_words (bare_of w) w ws redirect)

later_command : (ws : List (List ℕ)) (redirect : Option (List ℕ)) → command_of (later_tokens ws redirect) ≡ Some (record { words = ws; redirect = redirect })
later_command [] None = refl
later_command [] (Some name) = refl
later_command (w ∷ ws) redirect = rw (later_command ws redirect) refl

pub words_again : (w : List ℕ) (ws : List (List ℕ)) (redirect : Option (List ℕ)) → shell_command (words_text (w ∷ ws) redirect) ≡ Some (record { words = w ∷ ws; redirect = redirect })
words_again w ws redirect =
    let read : output_from shell BetweenWords (words_text (w ∷ ws) redirect) ≡ Some (Word (first_bare_of w) w ∷ later_tokens ws redirect)
    = passes_on shell BetweenWords (first_word_text w) [] (Bare (first_bare_of w) w) (later_words_text ws ++ redirect_text redirect) (first_word_passes w)
    ∙ ap (before []) (later_words (first_bare_of w) w ws redirect) in
    rw (read, first_word_stands w, later_command ws redirect) refl

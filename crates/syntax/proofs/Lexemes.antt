-- The token that is found at a place is the longest that begins there.
use Rattle.std.proofs.Common.{◌≡◌, ℕ, suc, ◌+◌, ◌-◌, ◌≤◌, ◌<◌, true, false, List, [], ◌∷◌, ◌++◌, length, take, drop, get_or, refl, sym, ap}
use Rattle.std.proofs.Common.{subst, ◌∙◌, inl, inr, arith, lit<, Option, Some, None, length-append}
use Rattle.std.specs.Prelude.{◌==◌}
use Rattle.std.specs.Char.{is_ascii_digit}
use Rattle.std.specs.List.{list_all}
use Rattle.std.proofs.lemmas.Bool.{eqb-true, cases_Bool, and_parts, cond-true, cond-false}
use Rattle.std.proofs.lemmas.List.{length-take-le, take_at, take-append-drop}
use Rattle.std.proofs.lemmas.Bool.Decides.{nat_tests}
use Rattle.syntax.specs.declared.lexer.token.TokenKind.{TokenKind}
use Rattle.syntax.specs.declared.lexer.token.TokenKind.TheVariants as Kinds
use Rattle.syntax.specs.lexer.Bytes.{quote, equals, lower_f, is_letter, continues_word, ends_word, opens_format}
use Rattle.syntax.specs.lexer.Kinds.{word_kind, format_kind, single_kind, with_equals_kind, symbol_kind}
use Rattle.syntax.specs.lexer.Lexing.{run_length, word_at, number_at, string_at, format_symbol, format_at, symbol_at, symbol_of_size, or_else, token_at}
use Rattle.syntax.specs.lexer.Numbers.{is_number}
use Rattle.syntax.specs.lexer.Tokens.{IsString, IsToken, word, number, string, format, symbol, is_word}
use Rattle.syntax.proofs.Digits.{digit_word, digit_letter, number_words, number_digit}
use Rattle.syntax.proofs.Runs.{run_step, run_le, run_all, run_at_least, all_both, all_at, word_ends, word_exact}
use Rattle.syntax.proofs.Strings.{string_sound, string_complete, string_split, quote_ascii}
use Rattle.syntax.proofs.Symbols.{IsApart, single_apart, equals_apart}

-- ---- what is found, case by case

found_word : (a : ℕ) (bs : List ℕ) → is_letter a ≡ true → opens_format (a ∷ bs) ≡ false → token_at (a ∷ bs) ≡ Some (word_at (a ∷ bs))
unfolding token_at
found_word a bs e f = cond-true (is_letter a) _ _ e ∙ cond-false (opens_format (a ∷ bs)) _ _ f

found_format : (a : ℕ) (bs : List ℕ) → is_letter a ≡ true → opens_format (a ∷ bs) ≡ true → token_at (a ∷ bs) ≡ format_symbol (string_at bs)
unfolding token_at format_at
found_format a bs e f = cond-true (is_letter a) _ _ e ∙ cond-true (opens_format (a ∷ bs)) _ _ f

found_number : (a : ℕ) (bs : List ℕ) → is_letter a ≡ false → is_ascii_digit a ≡ true → token_at (a ∷ bs) ≡ number_at (a ∷ bs)
unfolding token_at
found_number a bs e d = cond-false (is_letter a) _ _ e ∙ cond-true (is_ascii_digit a) _ _ d

found_string : (a : ℕ) (bs : List ℕ) → is_letter a ≡ false → is_ascii_digit a ≡ false → (a == quote) ≡ true → token_at (a ∷ bs) ≡ string_at (a ∷ bs)
unfolding token_at
found_string a bs e d q = cond-false (is_letter a) _ _ e ∙ cond-false (is_ascii_digit a) _ _ d ∙ cond-true (a == quote) _ _ q

found_symbol : (a : ℕ) (bs : List ℕ) → is_letter a ≡ false → is_ascii_digit a ≡ false → (a == quote) ≡ false → token_at (a ∷ bs) ≡ symbol_at a bs
unfolding token_at
found_symbol a bs e d q = cond-false (is_letter a) _ _ e ∙ cond-false (is_ascii_digit a) _ _ d ∙ cond-false (a == quote) _ _ q

number_found : (s : List ℕ) → is_number (take (run_length continues_word s) s) ≡ true → number_at s ≡ Some (Kinds.Number, run_length continues_word s)
unfolding number_at
number_found s e = cond-true (is_number (take (run_length continues_word s) s)) _ _ e

number_not : (s : List ℕ) → is_number (take (run_length continues_word s) s) ≡ false → number_at s ≡ None
unfolding number_at
number_not s e = cond-false (is_number (take (run_length continues_word s) s)) _ _ e

word_found : (s : List ℕ) → word_at s ≡ (word_kind (take (run_length continues_word s) s), run_length continues_word s)
unfolding word_at
word_found s = refl

letter_continues : (a : ℕ) → is_letter a ≡ true → continues_word a ≡ true
letter_continues a e = rw e refl

-- ---- a token that is found is one

pub record IsFound (s : List ℕ) (k : TokenKind) (n : ℕ) : Type 0 where
  pub text : List ℕ
  pub rest : List ℕ
  pub parts : s ≡ text ++ rest
  pub size : n ≡ length text
  pub some : 0 < n
  pub token : IsToken k text rest

pair_is : {A : Type 0} (a : A) (m : ℕ) (k : A) (n : ℕ) → ◌≡◌ {A = Option (A × ℕ)} (Some (a, m)) (Some (k, n)) → (a ≡ k) × (m ≡ n)
pair_is {A} a m k n e = let e' : ◌≡◌ {A = A × ℕ} (a, m) (k, n) = cc in (ap (λ (p : A × ℕ). p.0) e', ap (λ (p : A × ℕ). p.1) e')

is_word_take : (a : ℕ) (bs : List ℕ) (n : ℕ) → is_letter a ≡ true → n ≡ suc (run_length continues_word bs) → is_word (take n (a ∷ bs)) ≡ true
is_word_take a bs n l e = subst (λ (m : ℕ). is_word (take m (a ∷ bs)) ≡ true) (sym e) (rw (l, run_all continues_word bs) refl)

word_sound : (a : ℕ) (bs : List ℕ) (k : TokenKind) (n : ℕ) → is_letter a ≡ true → opens_format (a ∷ bs) ≡ false → ◌≡◌ {A = Option (TokenKind × ℕ)} (Some (word_at (a ∷ bs))) (Some (k, n)) → IsFound (a ∷ bs) k n
word_sound a bs k n l no_format e =
    let m : ℕ = run_length continues_word (a ∷ bs) in
    let p = pair_is (word_kind (take m (a ∷ bs))) m k n (ap (λ (x : TokenKind × ℕ). Some x) (sym (word_found (a ∷ bs))) ∙ e) in
    let step = run_step continues_word a bs (letter_continues a l) in
    let parts : a ∷ bs ≡ take m (a ∷ bs) ++ drop m (a ∷ bs) = sym (take-append-drop m (a ∷ bs)) in
    record {
      text = take m (a ∷ bs);
      rest = drop m (a ∷ bs);
      parts = parts;
      size = sym p.1 ∙ sym (length-take-le m (a ∷ bs) (run_le continues_word (a ∷ bs)));
      some = omega (arith, step, p.1);
      token = subst (λ (j : TokenKind). IsToken j (take m (a ∷ bs)) (drop m (a ∷ bs))) p.0
          (word (take m (a ∷ bs)) (drop m (a ∷ bs)) (is_word_take a bs m l step) (ap opens_format (sym parts) ∙ no_format));
    }

opens_with : (a : ℕ) (bs : List ℕ) → opens_format (a ∷ bs) ≡ true → (more : List ℕ) × (a ≡ lower_f) × (bs ≡ quote ∷ more)
opens_with a [] e = absurd cc
opens_with a (b ∷ bs) e =
    (bs, eqb-true a lower_f (and_parts (a == lower_f) (b == quote) e).0, ap (λ (x : ℕ). x ∷ bs) (eqb-true b quote (and_parts (a == lower_f) (b == quote) e).1))

formatted_some : (o : Option (TokenKind × ℕ)) (k : TokenKind) (n : ℕ) → format_symbol o ≡ Some (k, n) → (j : TokenKind) × (m : ℕ) × (o ≡ Some (j, m)) × (format_kind j ≡ k) × (n ≡ m + 1)
formatted_some None k n e = absurd cc
formatted_some (Some (j, m)) k n e = let p = pair_is (format_kind j) (m + 1) k n e in (j, m, refl, p.0, sym p.1)

string_some : (k : TokenKind) (text rest : List ℕ) → IsString k text rest → 0 < length text
string_some k text rest t = let w = string_split k text rest t in omega (arith, ap length w.1, length-append w.0 (quote ∷ []))

string_sounds : (a : ℕ) (bs : List ℕ) (k : TokenKind) (n : ℕ) → (a == quote) ≡ true → string_at (a ∷ bs) ≡ Some (k, n) → IsFound (a ∷ bs) k n
string_sounds a bs k n q e =
    let first : a ≡ quote = eqb-true a quote q in
    let f = string_sound bs k n (ap (λ (x : ℕ). string_at (x ∷ bs)) (sym first) ∙ e) in
    record {
      text = f.text;
      rest = f.rest;
      parts = ap (λ (x : ℕ). x ∷ bs) first ∙ f.parts;
      size = f.size;
      some = omega (arith, f.size, string_some k f.text f.rest f.token);
      token = string k f.text f.rest f.token;
    }

format_sound : (a : ℕ) (bs : List ℕ) (k : TokenKind) (n : ℕ) → opens_format (a ∷ bs) ≡ true → format_symbol (string_at bs) ≡ Some (k, n) → IsFound (a ∷ bs) k n
format_sound a bs k n o e =
    let w = opens_with a bs o in
    let g = formatted_some (string_at bs) k n e in
    let f = string_sound w.0 g.0 g.1 (ap string_at (sym w.2) ∙ g.2) in
    record {
      text = lower_f ∷ f.text;
      rest = f.rest;
      parts = ap (λ (x : ℕ). x ∷ bs) w.1 ∙ ap (λ (l : List ℕ). lower_f ∷ l) (w.2 ∙ f.parts);
      size = omega (arith, g.4, f.size);
      some = omega (arith, g.4);
      token = subst (λ (j : TokenKind). IsToken j (lower_f ∷ f.text) f.rest) g.3 (format g.0 f.text f.rest f.token);
    }

number_sound : (a : ℕ) (bs : List ℕ) (k : TokenKind) (n : ℕ) → is_ascii_digit a ≡ true → number_at (a ∷ bs) ≡ Some (k, n) → IsFound (a ∷ bs) k n
number_sound a bs k n d e =
    let s : List ℕ = a ∷ bs in
    let m : ℕ = run_length continues_word s in
    elim (cases_Bool (is_number (take m s))) [
      | inl y ↦
          let p = pair_is Kinds.Number m k n (sym (number_found s y) ∙ e) in
          record {
            text = take m s;
            rest = drop m s;
            parts = sym (take-append-drop m s);
            size = sym p.1 ∙ sym (length-take-le m s (run_le continues_word s));
            some = omega (arith, run_step continues_word a bs (digit_word a d), p.1);
            token = subst (λ (j : TokenKind). IsToken j (take m s) (drop m s)) p.0 (number (take m s) (drop m s) y (word_ends s));
          }
      | inr other ↦ let x = number_not s other in absurd cc
    ]

found_single : (a : ℕ) (bs : List ℕ) (k : TokenKind) (n : ℕ) → symbol_of_size 1 (single_kind a) ≡ Some (k, n) → IsFound (a ∷ bs) k n
found_single a bs k n e = go (single_kind a) refl e
  where
    go : (o : Option TokenKind) → single_kind a ≡ o → symbol_of_size 1 o ≡ Some (k, n) → IsFound (a ∷ bs) k n
    go None eq h = absurd cc
    go (Some j) eq h = let p = pair_is j 1 k n h in
        record { text = a ∷ []; rest = bs; parts = refl; size = sym p.1; some = omega (arith, p.1); token = symbol k (a ∷ []) bs (eq ∙ ap (λ (x : TokenKind). Some x) p.0) }

found_double : (a b : ℕ) (bs : List ℕ) (k : TokenKind) (n : ℕ) → (b == equals) ≡ true → or_else (symbol_of_size 2 (with_equals_kind a)) (symbol_of_size 1 (single_kind a)) ≡ Some (k, n) → IsFound (a ∷ b ∷ bs) k n
found_double a b bs k n y e = go (with_equals_kind a) refl e
  where
    double_is : (j : TokenKind) → with_equals_kind a ≡ Some j → symbol_kind (a ∷ b ∷ []) ≡ Some j
    double_is j eq = rw y eq

    go : (o : Option TokenKind) → with_equals_kind a ≡ o → or_else (symbol_of_size 2 o) (symbol_of_size 1 (single_kind a)) ≡ Some (k, n) → IsFound (a ∷ b ∷ bs) k n
    go None eq h = found_single a (b ∷ bs) k n h
    go (Some j) eq h = let p = pair_is j 2 k n h in
        record { text = a ∷ b ∷ []; rest = bs; parts = refl; size = sym p.1; some = omega (arith, p.1); token = symbol k (a ∷ b ∷ []) bs (double_is j eq ∙ ap (λ (x : TokenKind). Some x) p.0) }

symbol_double : (a b : ℕ) (bs : List ℕ) → (b == equals) ≡ true → symbol_at a (b ∷ bs) ≡ or_else (symbol_of_size 2 (with_equals_kind a)) (symbol_of_size 1 (single_kind a))
unfolding symbol_at
symbol_double a b bs y = rw y refl

symbol_single : (a b : ℕ) (bs : List ℕ) → (b == equals) ≡ false → symbol_at a (b ∷ bs) ≡ symbol_of_size 1 (single_kind a)
unfolding symbol_at
symbol_single a b bs n = rw n refl

symbol_last : (a : ℕ) → symbol_at a [] ≡ symbol_of_size 1 (single_kind a)
unfolding symbol_at
symbol_last a = refl

symbol_sound : (a : ℕ) (bs : List ℕ) (k : TokenKind) (n : ℕ) → symbol_at a bs ≡ Some (k, n) → IsFound (a ∷ bs) k n
symbol_sound a [] k n e = found_single a [] k n (sym (symbol_last a) ∙ e)
symbol_sound a (b ∷ bs) k n e = elim (cases_Bool (b == equals)) [
  | inl y ↦ found_double a b bs k n y (sym (symbol_double a b bs y) ∙ e)
  | inr no_equals ↦ found_single a (b ∷ bs) k n (sym (symbol_single a b bs no_equals) ∙ e)
]

found_nothing : token_at [] ≡ None
unfolding token_at
found_nothing = refl

pub token_sound : (s : List ℕ) (k : TokenKind) (n : ℕ) → token_at s ≡ Some (k, n) → IsFound s k n
token_sound [] k n e = let x = found_nothing in absurd cc
token_sound (a ∷ bs) k n e = elim (cases_Bool (is_letter a)) [
  | inl l ↦ elim (cases_Bool (opens_format (a ∷ bs))) [
    | inl f ↦ format_sound a bs k n f (sym (found_format a bs l f) ∙ e)
    | inr no_format ↦ word_sound a bs k n l no_format (sym (found_word a bs l no_format) ∙ e)
  ]
  | inr other ↦ elim (cases_Bool (is_ascii_digit a)) [
    | inl d ↦ number_sound a bs k n d (sym (found_number a bs other d) ∙ e)
    | inr no_digit ↦ elim (cases_Bool (a == quote)) [
      | inl q ↦ string_sounds a bs k n q (sym (found_string a bs other no_digit q) ∙ e)
      | inr apart ↦ symbol_sound a bs k n (sym (found_symbol a bs other no_digit apart) ∙ e)
    ]
  ]
]

-- ---- and no longer token begins there

pub record IsReached (s : List ℕ) (k : TokenKind) (text : List ℕ) : Type 0 where
  pub kind : TokenKind
  pub size : ℕ
  pub found : token_at s ≡ Some (kind, size)
  pub within : length text ≤ size
  pub same : size ≡ length text → kind ≡ k

word_reach : (a : ℕ) (others rest : List ℕ) → is_word (a ∷ others) ≡ true → opens_format (a ∷ (others ++ rest)) ≡ false → IsReached (a ∷ (others ++ rest)) (word_kind (a ∷ others)) (a ∷ others)
word_reach a others rest w f = elim (cases_Bool (is_letter a)) [
  | inl l ↦
      let s : List ℕ = a ∷ (others ++ rest) in
      let m : ℕ = run_length continues_word s in
      let all : list_all continues_word (a ∷ others) ≡ true = all_both continues_word a others (letter_continues a l) (sym (rw l refl) ∙ w) in
      record {
        kind = word_kind (take m s);
        size = m;
        found = found_word a (others ++ rest) l f ∙ ap (λ (x : TokenKind × ℕ). Some x) (word_found s);
        within = run_at_least continues_word (a ∷ others) rest all;
        same = λ e. ap word_kind (take_at (a ∷ others) rest m (sym e));
      }
  | inr n ↦ absurd (let e : is_word (a ∷ others) ≡ false = rw n refl in cc)
]

number_reach : (text rest : List ℕ) → is_number text ≡ true → ends_word rest ≡ true → IsReached (text ++ rest) Kinds.Number text
number_reach [] rest h e = absurd cc
number_reach (a ∷ others) rest h e =
    let s : List ℕ = a ∷ (others ++ rest) in
    let text : List ℕ = a ∷ others in
    let d : is_ascii_digit a ≡ true = number_digit a others h in
    let size : run_length continues_word s ≡ length text = word_exact text rest (number_words text h) e in
    let front : take (run_length continues_word s) s ≡ text = take_at text rest (run_length continues_word s) (sym size) in
    record {
      kind = Kinds.Number;
      size = run_length continues_word s;
      found = found_number a (others ++ rest) (digit_letter a d) d ∙ number_found s (ap is_number front ∙ h);
      within = omega (arith, size);
      same = λ x. refl;
    }

string_reach : (k : TokenKind) (text rest : List ℕ) → IsString k text rest → IsReached (text ++ rest) k text
string_reach k text rest t =
    let q = string_complete k text rest t in
    record {
      kind = k;
      size = length text;
      found = ap token_at q.whole ∙ found_string quote q.more refl refl refl ∙ q.found;
      within = omega arith;
      same = λ e. refl;
    }

format_reach : (k : TokenKind) (text rest : List ℕ) → IsString k text rest → IsReached (lower_f ∷ (text ++ rest)) (format_kind k) (lower_f ∷ text)
format_reach k text rest t =
    let q = string_complete k text rest t in
    record {
      kind = format_kind k;
      size = length text + 1;
      found = ap (λ (l : List ℕ). token_at (lower_f ∷ l)) q.whole ∙ found_format lower_f (quote ∷ q.more) refl refl ∙ ap format_symbol q.found;
      within = omega arith;
      same = λ e. refl;
    }

single_reach : (a : ℕ) (rest : List ℕ) (k : TokenKind) → single_kind a ≡ Some k → IsReached (a ∷ rest) k (a ∷ [])
single_reach a rest k e = go rest refl
  where
    apart : IsApart a
    apart = single_apart a k e

    one : (rest : List ℕ) → symbol_at a rest ≡ symbol_of_size 1 (single_kind a) → IsReached (a ∷ rest) k (a ∷ [])
    one rest h = record { kind = k; size = 1; found = found_symbol a rest apart.0 apart.1 apart.2 ∙ h ∙ ap (symbol_of_size 1) e; within = omega arith; same = λ x. refl }

    double : (b : ℕ) (bs : List ℕ) → (b == equals) ≡ true → (o : Option TokenKind) → with_equals_kind a ≡ o → IsReached (a ∷ b ∷ bs) k (a ∷ [])
    double b bs y None eq = one (b ∷ bs) (symbol_double a b bs y ∙ rw eq refl)
    double b bs y (Some j) eq = record { kind = j; size = 2; found = found_symbol a (b ∷ bs) apart.0 apart.1 apart.2 ∙ symbol_double a b bs y ∙ rw eq refl; within = omega arith; same = λ x. absurd (omega (arith, x)) }

    go : (r : List ℕ) → rest ≡ r → IsReached (a ∷ r) k (a ∷ [])
    go [] eq = one [] (symbol_last a)
    go (b ∷ bs) eq = elim (cases_Bool (b == equals)) [ inl y ↦ double b bs y (with_equals_kind a) refl | inr n ↦ one (b ∷ bs) (symbol_single a b bs n) ]

double_reach : (a b : ℕ) (rest : List ℕ) (k : TokenKind) → symbol_kind (a ∷ b ∷ []) ≡ Some k → IsReached (a ∷ b ∷ rest) k (a ∷ b ∷ [])
double_reach a b rest k e = elim (cases_Bool (b == equals)) [
  | inl y ↦
      let eq : with_equals_kind a ≡ Some k = sym (rw y refl) ∙ e in
      let apart = equals_apart a k eq in
      record { kind = k; size = 2; found = found_symbol a (b ∷ rest) apart.0 apart.1 apart.2 ∙ symbol_double a b rest y ∙ rw eq refl; within = omega arith; same = λ x. refl }
  | inr n ↦ absurd (let x : symbol_kind (a ∷ b ∷ []) ≡ None = rw n refl in cc)
]

symbol_reach : (k : TokenKind) (text rest : List ℕ) → symbol_kind text ≡ Some k → IsReached (text ++ rest) k text
symbol_reach k [] rest e = absurd cc
symbol_reach k (a ∷ []) rest e = single_reach a rest k e
symbol_reach k (a ∷ b ∷ []) rest e = double_reach a b rest k e
symbol_reach k (a ∷ b ∷ c ∷ more) rest e = absurd cc

word_text_reach : (text rest : List ℕ) → is_word text ≡ true → opens_format (text ++ rest) ≡ false → IsReached (text ++ rest) (word_kind text) text
word_text_reach [] rest w f = absurd cc
word_text_reach (a ∷ others) rest w f = word_reach a others rest w f

pub token_reach : (k : TokenKind) (text rest : List ℕ) → IsToken k text rest → IsReached (text ++ rest) k text
token_reach _ _ _ (word text rest w f) = word_text_reach text rest w f
token_reach _ _ _ (number text rest h e) = number_reach text rest h e
token_reach _ _ _ (string k text rest t) = string_reach k text rest t
token_reach _ _ _ (format k text rest t) = format_reach k text rest t
token_reach _ _ _ (symbol k text rest e) = symbol_reach k text rest e

-- ---- a token ends with an ASCII byte

pub continues_ascii : (b : ℕ) → continues_word b ≡ true → b < 128
continues_ascii b h = grind (arith, nat_tests)

single_ascii : (a : ℕ) (k : TokenKind) → single_kind a ≡ Some k → a < 128
single_ascii a k e = (single_apart a k e).3

symbol_ascii : (k : TokenKind) (text : List ℕ) → symbol_kind text ≡ Some k → get_or text (length text - 1) 0 < 128
symbol_ascii k [] e = absurd cc
symbol_ascii k (a ∷ []) e = single_ascii a k e
symbol_ascii k (a ∷ b ∷ []) e = elim (cases_Bool (b == equals)) [
  | inl y ↦ subst (λ (x : ℕ). x < 128) (sym (eqb-true b equals y)) (lit< tt)
  | inr n ↦ absurd (let x : symbol_kind (a ∷ b ∷ []) ≡ None = rw n refl in cc)
]
symbol_ascii k (a ∷ b ∷ c ∷ more) e = absurd cc

word_all : (text : List ℕ) → is_word text ≡ true → list_all continues_word text ≡ true
word_all [] w = absurd cc
word_all (a ∷ others) w = elim (cases_Bool (is_letter a)) [
  | inl l ↦ all_both continues_word a others (letter_continues a l) (sym (rw l refl) ∙ w)
  | inr n ↦ absurd (let e : is_word (a ∷ others) ≡ false = rw n refl in cc)
]

word_some : (text : List ℕ) → is_word text ≡ true → 0 < length text
word_some [] w = absurd cc
word_some (a ∷ others) w = omega arith

number_some : (text : List ℕ) → is_number text ≡ true → 0 < length text
number_some [] h = absurd cc
number_some (a ∷ others) h = omega arith

words_ascii : (text : List ℕ) → list_all continues_word text ≡ true → 0 < length text → get_or text (length text - 1) 0 < 128
words_ascii text all some = continues_ascii (get_or text (length text - 1) 0) (all_at continues_word text (length text - 1) all (omega (arith, some)))

ends_ascii : (text front : List ℕ) → text ≡ front ++ quote ∷ [] → get_or text (length text - 1) 0 < 128
ends_ascii text front e = subst (λ (l : List ℕ). get_or l (length l - 1) 0 < 128) (sym e) (quote_ascii front)

pub token_ascii : (k : TokenKind) (text rest : List ℕ) → IsToken k text rest → get_or text (length text - 1) 0 < 128
token_ascii _ _ _ (word text rest w f) = words_ascii text (word_all text w) (word_some text w)
token_ascii _ _ _ (number text rest h e) = words_ascii text (number_words text h) (number_some text h)
token_ascii _ _ _ (string k text rest t) = let w = string_split k text rest t in ends_ascii text w.0 w.1
token_ascii _ _ _ (format k text rest t) = let w = string_split k text rest t in ends_ascii (lower_f ∷ text) (lower_f ∷ w.0) (ap (λ (l : List ℕ). lower_f ∷ l) w.1)
token_ascii _ _ _ (symbol k text rest e) = symbol_ascii k text e

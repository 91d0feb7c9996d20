-- What the functions that find a token answer, case by case.
use Rattle.std.proofs.Common.{eq-eqb, ◌≡◌, ◌≢◌, ℕ, ◌-◌, ◌≤◌, ◌<◌, true, false, List, [], ◌∷◌, ◌++◌, length, take, drop, get_or, refl, sym}
use Rattle.std.proofs.Common.{ap, ◌∙◌, arith, Some, None, Result, Ok, Err}
use Rattle.std.specs.Prelude.{◌==◌}
use Rattle.std.specs.Char.{is_ascii_digit}
use Rattle.std.proofs.lemmas.Bool.{ne_eqb, cond-true, cond-false}
use Rattle.syntax.specs.declared.lexer.token.TokenKind.{TokenKind}
use Rattle.syntax.specs.declared.lexer.token.TokenKind.TheVariants as Kinds
use Rattle.syntax.specs.lexer.Bytes.{quote, is_letter, continues_word, opens_format}
use Rattle.syntax.specs.lexer.Kinds.{word_kind, single_kind}
use Rattle.syntax.specs.lexer.Numbers.{is_number}
use Rattle.syntax.specs.lexer.Lexing.{run_length, word_at, number_at, string_at, format_at, double_kind, symbol_at, token_at, lex, lexed_tokens}
use Rattle.syntax.specs.declared.lexer.fault.SyntaxFault.{SyntaxFault}
use Rattle.syntax.specs.lexer.Lexeme.{Lexeme}
use Rattle.syntax.specs.lexer.Tokens.{Place}
use Rattle.syntax.proofs.Runs.{run_le, take_all}

-- ---- symbols

pub symbol_two : (a : ℕ) (bs : List ℕ) (k : TokenKind) → double_kind a bs ≡ Some k → symbol_at a bs ≡ Some (k, 2)
unfolding symbol_at
symbol_two a bs k e = rw e refl

pub symbol_one : (a : ℕ) (bs : List ℕ) (k : TokenKind) → double_kind a bs ≡ None → single_kind a ≡ Some k → symbol_at a bs ≡ Some (k, 1)
unfolding symbol_at
symbol_one a bs k e f = rw (e, f) refl

pub symbol_none : (a : ℕ) (bs : List ℕ) → double_kind a bs ≡ None → single_kind a ≡ None → symbol_at a bs ≡ None
unfolding symbol_at
symbol_none a bs e f = rw (e, f) refl

-- ---- words

pub word_is : (bs : List ℕ) (n : ℕ) → run_length continues_word bs ≡ n → word_at bs ≡ (word_kind (take n bs), n)
unfolding word_at
word_is bs n e = rw e refl

pub word_fits : (bs : List ℕ) (n : ℕ) → n ≡ run_length continues_word bs → n ≤ length bs
word_fits bs n e = omega (arith, run_le continues_word bs)

-- ---- numbers

pub number_some : (bs : List ℕ) (n : ℕ) → run_length continues_word bs ≡ n → is_number (take n bs) ≡ true → number_at bs ≡ Some (Kinds.Number, n)
unfolding number_at
number_some bs n e f = rw e (cond-true (is_number (take n bs)) _ _ f)

pub number_none : (bs : List ℕ) (n : ℕ) → run_length continues_word bs ≡ n → is_number (take n bs) ≡ false → number_at bs ≡ None
unfolding number_at
number_none bs n e f = rw e (cond-false (is_number (take n bs)) _ _ f)

-- ---- tokens

pub token_nothing : (s : List ℕ) → length s ≡ 0 → token_at s ≡ None
unfolding token_at
token_nothing [] e = refl
token_nothing (a ∷ bs) e = absurd (omega arith)

pub token_word : (s : List ℕ) → 0 < length s → is_letter (get_or s 0 0) ≡ true → opens_format s ≡ false → token_at s ≡ Some (word_at s)
unfolding token_at
token_word [] lt e f = absurd (omega arith)
token_word (a ∷ bs) lt e f = cond-true (is_letter a) _ _ e ∙ cond-false (opens_format (a ∷ bs)) _ _ f

tail_is : (a : ℕ) (bs : List ℕ) → take (length (a ∷ bs) - 1) (drop 1 (a ∷ bs)) ≡ bs
tail_is a bs = ap (λ (n : ℕ). take n bs) (let q : length (a ∷ bs) - 1 ≡ length bs = omega arith in q) ∙ take_all bs

pub token_number : (s : List ℕ) → 0 < length s → is_letter (get_or s 0 0) ≡ false → is_ascii_digit (get_or s 0 0) ≡ true → token_at s ≡ number_at s
unfolding token_at
token_number [] lt e d = absurd (omega arith)
token_number (a ∷ bs) lt e d = cond-false (is_letter a) _ _ e ∙ cond-true (is_ascii_digit a) _ _ d

pub token_symbol : (s : List ℕ) → 0 < length s → is_letter (get_or s 0 0) ≡ false → is_ascii_digit (get_or s 0 0) ≡ false → get_or s 0 0 ≢ quote → token_at s ≡ symbol_at (get_or s 0 0) (take (length s - 1) (drop 1 s))
unfolding token_at
token_symbol [] lt e d q = absurd (omega arith)
token_symbol (a ∷ bs) lt e d q =
    cond-false (is_letter a) _ _ e ∙ cond-false (is_ascii_digit a) _ _ d ∙ cond-false (a == quote) _ _ (ne_eqb a quote q)
    ∙ ap (symbol_at a) (sym (tail_is a bs))

pub token_string : (s : List ℕ) → 0 < length s → is_letter (get_or s 0 0) ≡ false → is_ascii_digit (get_or s 0 0) ≡ false → get_or s 0 0 ≡ quote → token_at s ≡ string_at s
unfolding token_at
token_string [] lt e d q = absurd (omega arith)
token_string (a ∷ bs) lt e d q =
    cond-false (is_letter a) _ _ e ∙ cond-false (is_ascii_digit a) _ _ d ∙ cond-true (a == quote) _ _ (eq-eqb a quote q)

pub token_format : (s : List ℕ) → 0 < length s → is_letter (get_or s 0 0) ≡ true → opens_format s ≡ true → token_at s ≡ format_at s
unfolding token_at
token_format [] lt e f = absurd (omega arith)
token_format (a ∷ bs) lt e f = cond-true (is_letter a) _ _ e ∙ cond-true (opens_format (a ∷ bs)) _ _ f

-- ---- the loop over a source

abbrev pub with_front : List Lexeme → Result (List Lexeme) SyntaxFault → Result (List Lexeme) SyntaxFault
with_front ts (Ok us) = Ok (ts ++ us)
with_front ts (Err f) = Err f

-- the tokens of the source are those that were cut and those from the place on
abbrev pub StillLexes : List ℕ → List Lexeme → Place → Type 0
StillLexes source ts p = (n : ℕ) × (length p.rest < n) × (lexed_tokens source ≡ with_front ts (lex n p))

pub ruleset token_cases = (token_nothing, token_format, token_word, token_number, token_symbol, token_string)

pub ruleset number_at_cases = (number_some, number_none, word_fits)

pub ruleset symbol_cases = (symbol_two, symbol_one, symbol_none)

pub ruleset word_cases = (word_is, word_fits)

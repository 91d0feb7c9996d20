-- What the functions of the parser answer, case by case.
use Rattle.std.proofs.Common.{inl, inr, ◌≡◌, ℕ, zero, suc, ◌+◌, ◌-◌, ◌≤◌, ◌<◌, true, false, List, [], ◌∷◌, length, get_or, take, drop}
use Rattle.std.proofs.Common.{Result, Ok, Err, refl, sym, ap, ◌∙◌, arith, rules}
use Rattle.std.proofs.lemmas.Grind.{common_steps}
use Rattle.syntax.specs.declared.lexer.token.Token.{Token}
use Rattle.syntax.specs.declared.lexer.token.TokenKind.{TokenKind}
use Rattle.syntax.specs.declared.stop.ParseStop.{ParseStop}
use Rattle.syntax.specs.declared.stop.ParseStop.TheVariants.{Unexpected}
use Rattle.syntax.specs.declared.stop.ReadError.{ReadError}
use Rattle.syntax.specs.declared.stop.ReadError.TheVariants as errors
use Rattle.syntax.specs.lexer.Kinds.{is}
use Rattle.syntax.specs.lexer.Lexeme.{Lexeme, lexeme_of, lexemes}
use Rattle.syntax.specs.Reading.{Reader, Fails, all_of, first_of, token_at}
use Rattle.syntax.proofs.Laws.{cases_bool}
use Rattle.syntax.specs.Parsed.{line_of}

-- ---- one token

take_all : {A : Type 0} (ts : List A) → take (length ts) ts ≡ ts
take_all ts = search (rules, common_steps)

pub rest_is : (t : Token) (ts : List Token) → ts ≡ take (length (t ∷ ts) - 1) ts
rest_is t ts = sym (ap (λ (n : ℕ). take n ts) (let q : length (t ∷ ts) - 1 ≡ length ts = omega arith in q) ∙ take_all ts)

pub length_lexemes : (ts : List Token) → length (lexemes ts) ≡ length ts
length_lexemes [] = refl
length_lexemes (t ∷ ts) = ap suc (length_lexemes ts)

pub token_found : (k : TokenKind) (ts : List Token) (d : Token) → 1 ≤ length ts → is (get_or ts 0 d).kind k ≡ true → token_at k (lexemes ts) ≡ Ok (lexeme_of (get_or ts 0 d), lexemes (take (length ts - 1) (drop 1 ts)))
unfolding token_at
token_found k [] d le e = absurd (omega arith)
token_found k (t ∷ ts) d le e = rw e (ap (λ (us : List Token). Ok (lexeme_of t, lexemes us)) (sym (ap (λ (n : ℕ). take n ts) same_length ∙ take_all ts)))
  where
    same_length : length (t ∷ ts) - 1 ≡ length ts
    same_length = omega arith

pub token_missing : (k : TokenKind) (ts : List Token) (d : Token) → 1 ≤ length ts → is (get_or ts 0 d).kind k ≡ false → token_at k (lexemes ts) ≡ Err (Unexpected (length ts))
unfolding token_at
token_missing k [] d le e = absurd (omega arith)
token_missing k (t ∷ ts) d le e = rw e (ap (λ (n : ℕ). Err (Unexpected n)) (let q : length (lexemes ts) + 1 ≡ length (t ∷ ts) = omega (arith, length_lexemes ts) in q))

pub token_end : (k : TokenKind) (ts : List Token) → length ts < 1 → token_at k (lexemes ts) ≡ Err (Unexpected (length ts))
unfolding token_at
token_end k [] le = refl
token_end k (t ∷ ts) le = absurd (omega arith)

-- a token that was taken is the first
pub first_taken : (k : TokenKind) (ts : List Lexeme) (t : Lexeme) (rest : List Lexeme) → token_at k ts ≡ Ok (t, rest) → token_at k ts ≡ Ok (first_of ts, rest)
unfolding token_at
first_taken k [] t rest e = absurd cc
first_taken k (u ∷ us) t rest e = elim (cases_bool (is u.kind k)) [
  | inl y ↦ let same : ◌≡◌ {A = Result (Lexeme × List Lexeme) ParseStop} (Ok (u, us)) (Ok (t, rest)) = sym (rw y refl) ∙ e in
      rw y (ap (λ (l : List Lexeme). Ok (u, l)) (let pair : ◌≡◌ {A = Lexeme × List Lexeme} (u, us) (t, rest) = cc in ap (λ (q : Lexeme × List Lexeme). q.1) pair))
  | inr n ↦ absurd (let no : ◌≡◌ {A = Result (Lexeme × List Lexeme) ParseStop} (Err (Unexpected (length us + 1))) (Ok (t, rest)) = sym (rw n refl) ∙ e in cc)
]

pub fails_at : {Y : Type 0} (e : ReadError) (f : ParseStop) (read : Result Y ParseStop) → e ≡ errors.Stop f → read ≡ Err f → Fails e read
fails_at errors.Memory f read e h = tt
fails_at (errors.Stop g) f read e h = let same : g ≡ f = cc in h ∙ ap (λ (x : ParseStop). Err x) (sym same)

-- ---- all tokens

pub all_read : {A : Type 0} (r : Reader A) (ts : List Lexeme) (a : A) (rest : List Token) → r ts ≡ Ok (a, lexemes rest) → length rest ≡ 0 → all_of r ts ≡ Ok a
unfolding all_of
all_read r ts a [] e z = rw e refl
all_read r ts a (t ∷ rest) e z = absurd (omega arith)

pub all_more : {A : Type 0} (r : Reader A) (ts : List Lexeme) (a : A) (rest : List Token) → r ts ≡ Ok (a, lexemes rest) → (length rest ≡ 0 → ⊥) → all_of r ts ≡ Err (Unexpected (length rest))
unfolding all_of
all_more r ts a [] e z = absurd (z refl)
all_more r ts a (t ∷ rest) e z = rw e (ap (λ (n : ℕ). Err (Unexpected n)) (let q : length (lexemes rest) + 1 ≡ length (t ∷ rest) = omega (arith, length_lexemes rest) in q))

pub all_fails : {A : Type 0} (r : Reader A) (ts : List Lexeme) (e : ReadError) → Fails e (r ts) → Fails e (all_of r ts)
unfolding all_of
all_fails r ts errors.Memory h = tt
all_fails r ts (errors.Stop f) h = rw h refl

-- ---- the line of a fault

pub line_some_left : (source : List ℕ) (ts : List Token) (d : Token) (k : ℕ) → k < length ts → (get_or ts k d).line ≡ line_of source (lexemes ts) k
line_some_left source [] d k lt = absurd (omega arith)
line_some_left source (t ∷ ts) d zero lt = refl
line_some_left source (t ∷ ts) d (suc k) lt = line_some_left source ts d k (omega arith)

-- ---- the lemmas of one function each

pub ruleset token_cases = (token_found, token_missing, token_end, fails_at)

pub ruleset all_cases = (all_read, all_more, all_fails, fails_at)

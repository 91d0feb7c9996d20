-- What a loop has read so far, and what it still reads, make what is read from its first token on.
use Rattle.std.proofs.Common.{◌≡◌, ℕ, zero, suc, ◌≤◌, ◌<◌, Bool, true, false, List, [], ◌∷◌, ◌++◌, length, Result, Ok, Err, refl, sym, ap}
use Rattle.std.proofs.Common.{◌∙◌, arith, Option, Some, None, append_assoc}
use Rattle.std.proofs.lemmas.List.{append-nil}
use Rattle.syntax.specs.lexer.Lexeme.{Lexeme}
use Rattle.syntax.specs.declared.lexer.token.TokenKind.{TokenKind}
use Rattle.syntax.specs.declared.stop.ParseStop.{ParseStop}
use Rattle.syntax.specs.declared.stop.ReadError.{ReadError}
use Rattle.syntax.specs.declared.stop.ReadError.TheVariants as errors
use Rattle.syntax.specs.Statements.{statements_of_lines}
use Rattle.syntax.specs.Tree.{StatementTree}
use Rattle.syntax.specs.Reading.{Reader, ◌>>=◌, Fails, begins, head_is, many_at}

-- where the form does not come, none is read
pub many_none : {A : Type 0} (next : List Lexeme → Bool) (r : Reader A) (k : ℕ) (ts : List Lexeme) → next ts ≡ false → many_at next r k ts ≡ Ok ([], ts)
many_none next r zero ts stop = refl
many_none next r (suc k) ts stop = rw stop refl

-- `gathered` makes of all that r reads what the loop gathers, `put` adds one more.
module _ {A B : Type 0} (next : List Lexeme → Bool) (r : Reader A) (gathered : List A → List B) (put : List B → A → List B)
    (nothing : (before : List B) → before ++ gathered [] ≡ before) (regroup : (before : List B) (a : A) (more : List A)
    → before ++ gathered (a ∷ more) ≡ put before a ++ gathered more)
    (long : (ts : List Lexeme) → next ts ≡ true → 0 < length ts) where
  abbrev pub with_more : List B → Result (List A × List Lexeme) ParseStop → Result (List B × List Lexeme) ParseStop
  with_more before read = read >>= λ x. Ok (before ++ gathered x.0, x.1)

  abbrev pub StillReads : List B → List Lexeme → Result (List B × List Lexeme) ParseStop → Type 0
  StillReads before ts total = (fuel : ℕ) × (length ts ≤ fuel) × (with_more before (many_at next r fuel ts) ≡ total)

  more_regroup : (before : List B) (a : A) (read : Result (List A × List Lexeme) ParseStop)
      → with_more before (read >>= λ x. Ok (a ∷ x.0, x.1)) ≡ with_more (put before a) read
  more_regroup before a (Ok x) = ap (λ (bs : List B). Ok (bs, x.1)) (regroup before a x.0)
  more_regroup before a (Err f) = refl

  pub still_more : (before : List B) (ts : List Lexeme) (total : Result (List B × List Lexeme) ParseStop) (a : A) (rest : List Lexeme)
      → StillReads before ts total → next ts ≡ true → r ts ≡ Ok (a, rest) → length rest < length ts → StillReads (put before a) rest total
  still_more before ts total a rest (zero, le, e) b h lt = absurd (omega arith)
  still_more before ts total a rest (suc k, le, e) b h lt =
      (k, omega arith, sym (more_regroup before a (many_at next r k rest)) ∙ sym (rw (b, h) refl) ∙ e)

  pub still_fails : (before : List B) (ts : List Lexeme) (total : Result (List B × List Lexeme) ParseStop) (e : ReadError)
      → StillReads before ts total → next ts ≡ true → Fails e (r ts) → Fails e total
  still_fails before ts total errors.Memory s b h = tt
  still_fails before ts total (errors.Stop f) (zero, le, e) b h = absurd (omega (arith, long ts b))
  still_fails before ts total (errors.Stop f) (suc k, le, e) b h = sym e ∙ rw (b, h) refl

  pub still_end : (before : List B) (ts : List Lexeme) (total : Result (List B × List Lexeme) ParseStop) → StillReads before ts total
      → next ts ≡ false → total ≡ Ok (before, ts)
  still_end before ts total (k, le, e) b = sym e ∙ rw (many_none next r k ts b) (ap (λ (bs : List B). Ok (bs, ts)) (nothing before))

pub begins_long : (k : TokenKind) (ts : List Lexeme) → begins k ts ≡ true → 0 < length ts
begins_long k [] b = absurd cc
begins_long k (t ∷ ts) b = omega arith

pub head_long : (p : TokenKind → Bool) (ts : List Lexeme) → head_is p ts ≡ true → 0 < length ts
head_long p [] b = absurd cc
head_long p (t ∷ ts) b = omega arith

-- ---- values

abbrev pub all : {A : Type 0} → List A → List A
all xs = xs

abbrev pub with_one : {A : Type 0} → List A → A → List A
with_one before a = before ++ a ∷ []

pub one_regroup : {A : Type 0} (before : List A) (a : A) (more : List A) → before ++ all (a ∷ more) ≡ with_one before a ++ all more
one_regroup before a more = simp append_assoc

-- ---- lines, of which some are empty

abbrev pub with_line : List StatementTree → Option StatementTree → List StatementTree
with_line before o = before ++ statements_of_lines (o ∷ [])

pub line_regroup : (before : List StatementTree) (o : Option StatementTree) (more : List (Option StatementTree))
    → before ++ statements_of_lines (o ∷ more) ≡ with_line before o ++ statements_of_lines more
line_regroup before None more = ap (λ (l : List StatementTree). l ++ statements_of_lines more) (sym (append-nil before))
line_regroup before (Some s) more = simp append_assoc

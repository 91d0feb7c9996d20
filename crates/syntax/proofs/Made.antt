-- What was made of what was read.
use Rattle.std.proofs.Common.{◌≡◌, ◌∙◌, true, List, Result, Ok, Err, Box, refl, sym, ap, subst, IfOk, OnOk}
use Rattle.std.specs.Result.{is_err}
use Rattle.std.specs.Global.{Global}
use Rattle.syntax.specs.lexer.Lexeme.{Lexeme}
use Rattle.syntax.specs.declared.lexer.token.TokenKind.{TokenKind}
use Rattle.syntax.specs.declared.stop.ParseStop.{ParseStop}
use Rattle.syntax.specs.declared.stop.ReadError.{ReadError}
use Rattle.syntax.specs.declared.stop.ReadError.TheVariants as errors
use Rattle.syntax.specs.Reading.{Reader, Fails, Gives, GoesOn, ended_at, first_of, token_at}

module _ {X Z : Type 0} (made : X → Z → Type 0) where
  -- where nothing was made, reading failed, or memory ran out
  pub made_fails : {Y : Type 0} (view : X → Y) (r : Result X ReadError) (e : ReadError) (rest : List Lexeme) (read : Result (Y × List Lexeme) ParseStop)
      → GoesOn made r (Err e) → Gives view r rest read → Fails e read
  made_fails view (Ok x) e rest read g h = subst (λ (d : ReadError). Fails d read) (sym g) (tt {0})
  made_fails view (Err f) e rest read g h = subst (λ (d : ReadError). Fails d read) (sym g) h

  -- of what something was made
  pub made_of : (r : Result X ReadError) (z : Z) → GoesOn made r (Ok z) → (x : X) × (r ≡ Ok x) × made x z
  made_of (Ok x) z g = (x, refl, g)
  made_of (Err f) z g = absurd g

-- what was read, where it is there
pub read_ok : {X Y : Type 0} (view : X → Y) (r : Result X ReadError) (x : X) (rest : List Lexeme) (read : Result (Y × List Lexeme) ParseStop)
    → r ≡ Ok x → Gives view r rest read → read ≡ Ok (view x, rest)
read_ok {X} view r x rest read e h = subst (λ (q : Result X ReadError). Gives view q rest read) e h

pub so_ok : {X P : Type 0} (r : Result X ReadError) (x : X) → r ≡ Ok x → OnOk r P → P
so_ok {X} {P} r x e h = subst (λ (q : Result X ReadError). OnOk q P) e h

-- what stands on the heap
pub boxed_read : {X Y : Type 0} (view : X → Y) (r : Result X ReadError) (b : Box X Global) (rest : List Lexeme)
    (read : Result (Y × List Lexeme) ParseStop) → GoesOn (λ (x : X) (c : Box X Global). c.value ≡ x) r (Ok b) → Gives view r rest read
    → read ≡ Ok (view b.value, rest)
boxed_read view (Ok x) b rest read g h = h ∙ ap (λ v. Ok (view v, rest)) (sym g)
boxed_read view (Err f) b rest read g h = absurd g

-- ---- what is handed on as it was read

module _ {X Y : Type 0} (view : X → Y) (r : Result X ReadError) (rest : List Lexeme) (inner outer : Result (Y × List Lexeme) ParseStop)
    (read : Gives view r rest inner) (fails : (d : ReadError) → Fails d inner → Fails d outer) where
  pub failed_kept : is_err r ≡ true → Gives view r rest outer
  failed_kept e = goes r read e
    where
      goes : (q : Result X ReadError) → Gives view q rest inner → is_err q ≡ true → Gives view q rest outer
      goes (Ok x) h f = absurd cc
      goes (Err d) h f = fails d h

  pub alone_kept : ((x : X) → inner ≡ Ok (view x, rest) → outer ≡ Ok (view x, rest)) → Gives view r rest outer
  alone_kept alone = goes r read
    where
      goes : (q : Result X ReadError) → Gives view q rest inner → Gives view q rest outer
      goes (Ok x) h = alone x h
      goes (Err d) h = fails d h

-- ---- what a token ends

module _ {Y : Type 0} (k : TokenKind) (form : Reader Y) (ts : List Lexeme) where
  pub ended_fails : (d : ReadError) → Fails d (form ts) → Fails d (ended_at k form ts)
  unfolding ended_at
  ended_fails errors.Memory h = tt
  ended_fails (errors.Stop f) h = rw h refl

  -- a value that was read is handed on, once the token came
  pub ended_reads : {X : Type 0} (view : X → Y) (value : X) (mid : List Lexeme) (r : Result X ReadError) (rest : List Lexeme) → form ts ≡ Ok (view value, mid)
      → Gives (λ (v : X). first_of mid) r rest (token_at k mid) → IfOk r (λ v. v ≡ value) → Gives view r rest (ended_at k form ts)
  unfolding ended_at
  ended_reads view value mid (Ok v) rest h g same = rw (h, g) (ap (λ x. Ok (view x, rest)) (sym same))
  ended_reads view value mid (Err errors.Memory) rest h g same = tt
  ended_reads view value mid (Err (errors.Stop f)) rest h g same = rw (h, g) refl

-- Defines how tokens are read by the grammar, as functions: a reader returns a value and the tokens after it, or where reading stops.
use Rattle.std.specs.Prelude.{◌≡◌, ℕ, zero, suc, ◌+◌, List, [], ◌∷◌, length, Result, Ok, Err, Bool, false, not, if◌then◌else◌, ◌&&◌}
use Rattle.std.specs.Prelude.{Option, Some, None}
use Rattle.syntax.specs.lexer.Lexeme.{Lexeme}
use Rattle.syntax.specs.lexer.Kinds.{is}
use Rattle.syntax.specs.declared.lexer.token.TokenKind.{TokenKind}
use Rattle.syntax.specs.declared.lexer.token.TokenKind.TheVariants as Kinds
use Rattle.syntax.specs.declared.stop.ParseStop.{ParseStop}
use Rattle.syntax.specs.declared.stop.ParseStop.TheVariants.{Unexpected, TooDeep}
use Rattle.syntax.specs.declared.stop.ReadError.{ReadError}
use Rattle.syntax.specs.declared.stop.ReadError.TheVariants as errors

-- Returns a value and the tokens after it, or where reading stops.
abbrev pub Reader : Type 0 → Type 0
Reader A = List Lexeme → Result (A × List Lexeme) ParseStop

-- Returns the result of `f` for the value that was read, or where reading stopped.
infixl 10 ◌>>=◌
abbrev pub ◌>>=◌ : {A B : Type 0} → Result A ParseStop → (A → Result B ParseStop) → Result B ParseStop
(Ok x) >>= f = f x
(Err e) >>= f = Err e

-- Relates the error of a function to the result of reading: reading stops where the error says. If memory ran out, any result is allowed.
abbrev pub Fails : {Y : Type 0} → ReadError → Result Y ParseStop → Type 0
Fails errors.Memory read = Unit {0}
Fails (errors.Stop f) read = read ≡ Err f

-- Relates a function's result, seen by `view`, and the tokens that it left to the result of reading, unless memory ran out.
abbrev pub Gives : {X Y : Type 0} → (X → Y) → Result X ReadError → List Lexeme → Result (Y × List Lexeme) ParseStop → Type 0
Gives view (Ok x) rest read = read ≡ Ok (view x, rest)
Gives view (Err e) rest read = Fails e read

-- Relates the result of a function that reads all tokens, seen by `view`, to the result of reading, unless memory ran out.
abbrev pub GivesAll : {X Y : Type 0} → (X → Y) → Result X ReadError → Result Y ParseStop → Type 0
GivesAll view (Ok x) read = read ≡ Ok (view x)
GivesAll view (Err e) read = Fails e read

-- Relates two functions that follow one another. The second returns the error of the first. Otherwise it returns a result that `made`
-- allows, or runs out of memory.
abbrev pub GoesOn : {X Z : Type 0} → (X → Z → Type 0) → Result X ReadError → Result Z ReadError → Type 0
GoesOn made (Ok x) (Ok z) = made x z
GoesOn made (Ok x) (Err e) = e ≡ errors.Memory
GoesOn made (Err f) (Ok z) = ⊥
GoesOn made (Err f) (Err e) = e ≡ f

-- Returns how many tokens are left where reading stops.
abbrev pub tokens_left : ParseStop → ℕ
tokens_left (Unexpected n) = n
tokens_left (TooDeep n) = n

-- Returns the first token; there always is one.
abbrev pub first_of : List Lexeme → Lexeme
first_of [] = record { kind = Kinds.Newline; text = []; line = 0 }
first_of (t ∷ ts) = t

-- Returns whether the first token is of this kind.
abbrev pub begins : TokenKind → List Lexeme → Bool
begins k [] = false
begins k (t ∷ ts) = is t.kind k

-- Returns whether there is a first token and its kind passes the test.
abbrev pub head_is : (TokenKind → Bool) → List Lexeme → Bool
head_is p [] = false
head_is p (t ∷ ts) = p t.kind

-- Reads a token of this kind.
unfoldable pub token_at : TokenKind → Reader Lexeme
token_at k [] = Err (Unexpected 0)
token_at k (t ∷ ts) = if is t.kind k then Ok (t, ts) else Err (Unexpected (length ts + 1))

-- Reads with r while the next token begins it, at most k times.
abbrev pub many_at : {A : Type 0} → (List Lexeme → Bool) → Reader A → ℕ → Reader (List A)
many_at next r zero ts = Ok ([], ts)
many_at next r (suc k) ts =
    if next ts then (r ts >>= λ x. many_at next r k x.1 >>= λ y. Ok (x.0 ∷ y.0, y.1)) else Ok ([], ts)

-- Reads with r if the next token begins it, and else with s.
unfoldable pub or_at : {A : Type 0} → (List Lexeme → Bool) → Reader A → Reader A → Reader A
or_at first r s ts = if first ts then r ts else s ts

-- Reads with r if the next token begins it, and else nothing.
unfoldable pub optional_at : {A : Type 0} → (List Lexeme → Bool) → Reader A → Reader (Option A)
optional_at first r ts = or_at first (λ us. r us >>= λ x. Ok (Some x.0, x.1)) (λ us. Ok (None, us)) ts

-- Reads with r, and then a token of this kind.
unfoldable pub ended_at : {A : Type 0} → TokenKind → Reader A → Reader A
ended_at k r ts = r ts >>= λ x. token_at k x.1 >>= λ c. Ok (x.0, c.1)

-- Reads a comma, and then `items`, if a comma follows. Otherwise it reads nothing.
unfoldable pub tail_at : {A : Type 0} → Reader (List A) → Reader (List A)
tail_at items ts = if begins Kinds.Comma ts then (token_at Kinds.Comma ts >>= λ c. items c.1) else Ok ([], ts)

-- Reads fewer than k elements of a list, up to its end. Each changes the state for the next.
unfoldable pub items_by : {S A : Type 0} → (List Lexeme → Bool) → (S → Reader A) → (S → A → S) → ℕ → S → Reader (List A)
items_by stop r step zero s ts = Ok ([], ts)
items_by stop r step (suc k) s ts =
    if stop ts then Ok ([], ts) else (r s ts >>= λ x. tail_at (items_by stop r step k (step s x.0)) x.1 >>= λ y. Ok (x.0 ∷ y.0, y.1))

-- Reads the elements of a list, up to a token of this kind. Each changes the state for the next.
unfoldable pub listed_at : {S A : Type 0} → TokenKind → (S → Reader A) → (S → A → S) → S → Reader (List A)
listed_at k r step s ts = items_by (begins k) r step (length ts + 1) s ts

-- Returns whether another element follows the comma, before the list is closed, and the tokens from there on.
abbrev pub behind_comma : TokenKind → Bool → Lexeme → List Lexeme → Bool × List Lexeme
behind_comma close is_comma t ts = if is_comma then (not (begins close ts), ts) else (false, t ∷ ts)

-- Returns whether a comma and another element follow, before a token of this kind closes the list, and the tokens from there on.
unfoldable pub more_at : TokenKind → List Lexeme → Bool × List Lexeme
more_at close [] = (false, [])
more_at close (t ∷ ts) = behind_comma close (is t.kind Kinds.Comma) t ts

-- Returns whether the first two tokens are of these kinds.
abbrev pub two_begin : TokenKind → TokenKind → List Lexeme → Bool
two_begin k l [] = false
two_begin k l (t ∷ ts) = is t.kind k && begins l ts

-- Stops at a token that opens a level when none may be opened.
unfoldable pub deep_at : {A : Type 0} → TokenKind → Reader A
deep_at k ts = if begins k ts then Err (TooDeep (length ts)) else Err (Unexpected (length ts))

-- Succeeds if all tokens are read.
abbrev pub ends_at : {A : Type 0} → A × List Lexeme → Result A ParseStop
ends_at (a, []) = Ok a
ends_at (a, t ∷ ts) = Err (Unexpected (length ts + 1))

-- Reads all tokens with r.
unfoldable pub all_of : {A : Type 0} → Reader A → List Lexeme → Result A ParseStop
all_of r ts = r ts >>= λ x. ends_at x

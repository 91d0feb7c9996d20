-- Defines further forms and readers, from which the lines of expressions are made.
use Rattle.std.specs.Prelude.{◌≡◌, ℕ, ◌+◌, Bool, List, [], ◌∷◌, length, ◌⊎◌, Option, Some, None, Result, Ok, Err}
use Rattle.std.specs.Option.{is_some}
use Rattle.syntax.specs.lexer.Lexeme.{Lexeme}
use Rattle.syntax.specs.declared.lexer.token.TokenKind.{TokenKind}
use Rattle.syntax.specs.ExpressionTree.{ExpressionTree}
use Rattle.syntax.specs.Form.{Form, token, never}
use Rattle.syntax.specs.Form.{◌>>=◌ as ◌then◌}
use Rattle.syntax.specs.Reading.{Reader, ◌>>=◌, deep_at, token_at}
use Rattle.syntax.specs.declared.stop.ParseStop.{ParseStop}
use Rattle.syntax.specs.declared.stop.ParseStop.TheVariants.{Unexpected}

-- ---- the line of the next token

-- Returns the line of the first token, or 0 if there is none.
abbrev pub first_line : List Lexeme → ℕ
first_line [] = 0
first_line (t ∷ ts) = t.line

-- Spells no token, and gives the line of the next one.
abbrev pub here : Form ℕ
here = record {
  spells = λ line ts rest. (ts ≡ rest) × (line ≡ first_line ts);
  front = λ ts more. ts ≡ more;
}

-- Reads no token, and returns the line of the next one.
abbrev pub here_at : Reader ℕ
here_at ts = Ok (first_line ts, ts)

-- ---- a token that means something

-- Spells one token that f gives a meaning, and gives this meaning too.
abbrev pub token_as : {B : Type 0} → (TokenKind → Option B) → Form (B × Lexeme)
token_as f = record {
  spells = λ x ts rest. (ts ≡ x.1 ∷ rest) × (f x.1.kind ≡ Some x.0);
  front = λ ts more. (ts ≡ more) ⊎ ((x : _ × Lexeme) × (ts ≡ x.1 ∷ more) × (f x.1.kind ≡ Some x.0));
}

-- Returns whether f gives a token of this kind a meaning.
abbrev pub stands_for : {B : Type 0} → (TokenKind → Option B) → TokenKind → Bool
stands_for f k = is_some (f k)

-- Reads the token `t` before `ts`, given its meaning. Returns the meaning and the token, or stops at the token if there is no meaning.
abbrev pub as_at : {B : Type 0} → Option B → Lexeme → List Lexeme → Result ((B × Lexeme) × List Lexeme) ParseStop
as_at None t ts = Err (Unexpected (length ts + 1))
as_at (Some x) t ts = Ok ((x, t), ts)

-- Reads one token that f gives a meaning, and returns this meaning too.
unfoldable pub token_as_at : {B : Type 0} → (TokenKind → Option B) → Reader (B × Lexeme)
token_as_at f [] = Err (Unexpected 0)
token_as_at f (t ∷ ts) = as_at (f t.kind) t ts

-- ---- what opens a level

-- Holds the expressions of one level less, given whether they may hold a ternary, or nothing if no level may be opened.
pub data Inner : Type 1 where
  -- No level may be opened.
  Closed : Inner
  -- One level may be opened, with these forms of expressions inside.
  Inside : (Bool → Form ExpressionTree) → Inner

-- Spells a token of this kind, followed by a form inside.
abbrev pub form_after_token : {A : Type 0} → TokenKind → Inner → ((Bool → Form ExpressionTree) → Lexeme → Form A) → Form A
form_after_token k Closed f = never
form_after_token k (Inside e) f = token k then f e

-- Reads a token of this kind, followed by `f` with the reader of expressions inside. Stops if no level may be opened.
unfoldable pub opened_at : {A : Type 0} → TokenKind → Option (Bool → Reader ExpressionTree)
    → ((Bool → Reader ExpressionTree) → Lexeme → Reader A) → Reader A
opened_at k None f ts = deep_at k ts
opened_at k (Some e) f ts = token_at k ts >>= λ x. f e x.0 x.1

-- Returns the meaning of the next token, and the tokens after it if it has one.
abbrev pub after_as : {B : Type 0} → Option B → Lexeme → List Lexeme → Option B × List Lexeme
after_as None t ts = (None, t ∷ ts)
after_as (Some x) t ts = (Some x, ts)

-- Returns the meaning of the next token, if it has one, and the tokens after it.
unfoldable pub taken_token : {B : Type 0} → (TokenKind → Option B) → List Lexeme → Option B × List Lexeme
taken_token f [] = (None, [])
taken_token f (t ∷ ts) = after_as (f t.kind) t ts

-- Defines the outcomes of reading all tokens by a form, which is given for each number of levels.
use Rattle.std.specs.Prelude.{◌≡◌, ℕ, ◌+◌, ◌<◌, ◌≤◌, List, [], length, drop}
use Rattle.syntax.specs.lexer.Lexeme.{Lexeme}
use Rattle.syntax.specs.Form.{Form}

-- Holds if the first k tokens begin the form.
abbrev pub BeginsBy : {A : Type 0} → Form A → List Lexeme → ℕ → Type 0
BeginsBy F ts k = (k ≤ length ts) × F.front ts (drop k ts)

-- The first k tokens begin the form, and the first k + 1 do not, however many levels may be opened. If there are only k tokens, all of them
-- spell nothing.
pub record IsUnexpected {A : Type 0} (F : ℕ → Form A) (levels : ℕ) (ts : List Lexeme) (k : ℕ) : Type 0 where
  -- The first k tokens begin the form.
  pub before : BeginsBy (F levels) ts k
  -- If there is another token, the first k + 1 do not, with any number of levels.
  pub here : (n : ℕ) → k < length ts → BeginsBy (F n) ts (k + 1) → ⊥
  -- If there is no other token, all tokens spell nothing, with any number of levels.
  pub at_end : (n : ℕ) (a : A) → k ≡ length ts → (F n).spells a ts [] → ⊥

-- The first k tokens begin the form, and the first k + 1 do so only if one more level may be opened.
pub record IsTooDeep {A : Type 0} (F : ℕ → Form A) (levels : ℕ) (ts : List Lexeme) (k : ℕ) : Type 0 where
  -- The first k tokens begin the form.
  pub before : BeginsBy (F levels) ts k
  -- The first k + 1 tokens do not.
  pub here : BeginsBy (F levels) ts (k + 1) → ⊥
  -- The first k + 1 tokens do if one more level may be opened.
  pub deeper : BeginsBy (F (levels + 1)) ts (k + 1)

-- Defines the forms that the lines of a grammar are made of. `spells a ts rest`: the tokens ts are a spelling of a, followed by rest.
-- `front ts more`: the tokens ts are a beginning of the form, followed by more.
use Rattle.std.specs.Prelude.{◌≡◌, List, [], ◌∷◌, ◌⊎◌, Option, Some, None}
use Rattle.syntax.specs.lexer.Lexeme.{Lexeme}
use Rattle.syntax.specs.declared.lexer.token.TokenKind.{TokenKind}
use Rattle.syntax.specs.declared.lexer.token.TokenKind.TheVariants as Kinds

-- A form of the grammar: which tokens spell a value of type `A`, and which tokens fit its beginning.
pub record Form (A : Type 0) : Type 1 where
  -- Holds of `a`, `ts` and `rest` if `ts` is a spelling of `a` followed by `rest`.
  pub spells : A → List Lexeme → List Lexeme → Type 0
  -- Holds of `ts` and `more` if the tokens of `ts` before `more` fit the form from its start on, as far as they go.
  pub front : List Lexeme → List Lexeme → Type 0

-- Spells one token of this kind.
abbrev pub token : TokenKind → Form Lexeme
token k = record {
  spells = λ t ts rest. (ts ≡ t ∷ rest) × (t.kind ≡ k);
  front = λ ts more. (ts ≡ more) ⊎ ((t : Lexeme) × (ts ≡ t ∷ more) × (t.kind ≡ k));
}

-- Spells a with no token.
abbrev pub give : {A : Type 0} → A → Form A
give a = record {
  spells = λ x ts rest. (x ≡ a) × (ts ≡ rest);
  front = λ ts more. ts ≡ more;
}

-- Spells one form, and then the next.
infixl 10 ◌>>=◌
abbrev pub ◌>>=◌ : {A B : Type 0} → Form A → (A → Form B) → Form B
F >>= G = record {
  spells = λ b ts rest. (a : _) × (mid : List Lexeme) × F.spells a ts mid × (G a).spells b mid rest;
  front = λ ts more. F.front ts more ⊎ ((a : _) × (mid : List Lexeme) × F.spells a ts mid × (G a).front mid more);
}

-- Spells one of two forms.
infixl 8 ◌or◌
abbrev pub ◌or◌ : {A : Type 0} → Form A → Form A → Form A
F or G = record {
  spells = λ a ts rest. F.spells a ts rest ⊎ G.spells a ts rest;
  front = λ ts more. F.front ts more ⊎ G.front ts more;
}

-- Spells nothing.
abbrev pub never : {A : Type 0} → Form A
never = record {
  spells = λ a ts rest. ⊥;
  front = λ ts more. ts ≡ more;
}

-- Spells a form repeatedly.
abbrev pub Repeats : {A : Type 0} → Form A → List A → List Lexeme → List Lexeme → Type 0
Repeats F [] ts rest = ts ≡ rest
Repeats F (x ∷ xs) ts rest = (mid : List Lexeme) × F.spells x ts mid × Repeats F xs mid rest

-- Spells a form any number of times.
abbrev pub many : {A : Type 0} → Form A → Form (List A)
many F = record {
  spells = Repeats F;
  front = λ ts more. (xs : List _) × (mid : List Lexeme) × Repeats F xs ts mid × F.front mid more;
}

-- Spells a form or nothing.
abbrev pub optional : {A : Type 0} → Form A → Form (Option A)
optional F = (F >>= λ a. give (Some a)) or give None

-- Spells a comma and a form after it: "," form
abbrev pub comma_then : {A : Type 0} → Form A → Form A
comma_then F = token Kinds.Comma >>= λ c. F

-- Forms of a list in which each element depends on the elements before it, by a state that each element changes.
module _ {S A : Type 0} (F : S → Form A) (step : S → A → S) where
  -- Returns the state after these elements.
  abbrev pub state_after : S → List A → S
  state_after s [] = s
  state_after s (x ∷ xs) = state_after (step s x) xs

  -- Holds if the tokens spell these elements, each after a comma, up to the rest: {"," form}
  abbrev pub Further : S → List A → List Lexeme → List Lexeme → Type 0
  Further s [] ts rest = ts ≡ rest
  Further s (x ∷ xs) ts rest = (mid : List Lexeme) × (comma_then (F s)).spells x ts mid × Further (step s x) xs mid rest

  -- Spells further elements, each after a comma.
  abbrev pub further : S → Form (List A)
  further s = record {
    spells = Further s;
    front = λ ts more. (xs : List A) × (mid : List Lexeme) × Further s xs ts mid × (comma_then (F (state_after s xs))).front mid more;
  }

  -- Spells at least one element, with commas between them and an optional comma after the last: form {"," form} [","]
  abbrev pub some_listed_by : S → Form (List A)
  some_listed_by s = F s >>= λ first. further (step s first) >>= λ others. optional (token Kinds.Comma) >>= λ last. give (first ∷ others)

  -- Spells elements with commas between them, or none. The last may be followed by a comma.
  abbrev pub listed_by : S → Form (List A)
  listed_by s = some_listed_by s or give []

-- Keeps the state, for a list whose elements do not depend on one another.
abbrev pub same_state : {A : Type 0} → Unit {0} → A → Unit {0}
same_state s x = s

-- Spells a list whose elements do not depend on one another.
abbrev pub list_form : {A : Type 0} → Form A → Form (List A)
list_form F = listed_by (λ s. F) same_state tt

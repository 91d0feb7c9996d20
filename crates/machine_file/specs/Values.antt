-- Defines the value of a text, by its tokens.
use Rattle.std.specs.Prelude.{ℕ, ℤ, Bool, true, false, List, [], ◌∷◌, Option, Some, None, Result, Ok, Err, if◌then◌else◌}
use Rattle.std.specs.Option.{option_map, option_and_then}
use Rattle.syntax.specs.declared.lexer.token.TokenKind.TheVariants as Kinds
use Rattle.syntax.specs.declared.lexer.fault.SyntaxFault.{SyntaxFault}
use Rattle.syntax.specs.lexer.Kinds.{is}
use Rattle.syntax.specs.lexer.Lexeme.{Lexeme}
use Rattle.syntax.specs.lexer.Lexing.{lexed_tokens}
use Rattle.syntax.specs.lexer.Texts.{text_of}
use Rattle.syntax.specs.lexer.Numerals.{magnitude}
use Rattle.machine_file.specs.Numbers.{integer_of}

-- A value of a machine file.
pub data Value : Type 0 where
  Text : (text : List ℕ) → Value
  Integer : (number : ℤ) → Value
  Boolean : (boolean : Bool) → Value
  Texts : (items : List (List ℕ)) → Value

-- Returns the text of a plain string, after its escapes.
abbrev pub plain_text : Lexeme → Option (List ℕ)
plain_text t = if is t.kind Kinds.String then Some (text_of t.kind t.text) else None

-- Puts a text before a list.
abbrev pub with_item : Option (List ℕ) → Option (List (List ℕ)) → Option (List (List ℕ))
with_item item items = option_and_then (λ first. option_map (λ others. first ∷ others) items) item

-- Returns no further items, if a closing bracket is the last token.
abbrev pub no_further_items : List Lexeme → Option (List (List ℕ))
no_further_items [] = None
no_further_items (t ∷ []) = if is t.kind Kinds.CloseBracket then Some [] else None
no_further_items (t ∷ u ∷ ts) = None

-- Returns the items of a list of plain strings, from after its opening bracket or a comma on. There is none up to the closing bracket, or
-- there is one, followed by a comma and more, or by the closing bracket.
unfoldable pub items_of : List Lexeme → Option (List (List ℕ))
items_of [] = None
items_of (t ∷ []) = no_further_items (t ∷ [])
items_of (t ∷ mark ∷ ts) = with_item (plain_text t) (if is mark.kind Kinds.Comma then items_of ts else no_further_items (mark ∷ ts))

-- Returns the value of one token.
abbrev pub of_word : Lexeme → Option Value
of_word t =
    if is t.kind Kinds.True then Some (Boolean true)
    else (if is t.kind Kinds.False then Some (Boolean false)
    else (if is t.kind Kinds.Number then option_map Integer (integer_of false (magnitude t.text))
    else option_map Text (plain_text t)))

-- Returns the negative number of the last token, after a minus.
abbrev pub negative_of : Lexeme → List Lexeme → Option Value
negative_of t [] = if is t.kind Kinds.Number then option_map Integer (integer_of true (magnitude t.text)) else None
negative_of t (u ∷ ts) = None

-- Returns the value of these tokens: a plain string, a number, a minus and a number, a boolean, or a list of plain strings.
abbrev pub of_tokens : List Lexeme → Option Value
of_tokens [] = None
of_tokens (t ∷ []) = of_word t
of_tokens (t ∷ u ∷ ts) =
    if is t.kind Kinds.OpenBracket then option_map Texts (items_of (u ∷ ts))
    else (if is t.kind Kinds.Minus then negative_of u ts else None)

-- Returns the value of a text with these tokens. Comments are between tokens.
abbrev pub of_lexed : Result (List Lexeme) SyntaxFault → Option Value
of_lexed (Ok ts) = of_tokens ts
of_lexed (Err f) = None

-- Returns the value of a text, if it has one.
unfoldable pub value_of : List ℕ → Option Value
value_of text = of_lexed (lexed_tokens text)

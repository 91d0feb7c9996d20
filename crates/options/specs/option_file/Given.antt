-- Defines what an argument of a call of `option` gives, as it is written.
use Rattle.std.specs.Prelude.{ℕ, ℤ, Bool, true, false, List, [], ◌∷◌, Option, Some, None}
use Rattle.std.specs.Option.{option_map, option_and_then}
use Rattle.syntax.specs.declared.lexer.token.TokenKind.TheVariants as Kinds
use Rattle.syntax.specs.lexer.Texts.{text_of}
use Rattle.syntax.specs.declared.tree.Literal.{Literal}
use Rattle.syntax.specs.declared.tree.Literal.TheVariants as literals
use Rattle.syntax.specs.declared.tree.Prefix.{Prefix}
use Rattle.syntax.specs.declared.tree.Prefix.TheVariants as prefixes
use Rattle.syntax.specs.ExpressionTree.{ExpressionTree, LiteralTree, ListTree, PrefixTree, ExpressionTrees, NoExpression, MoreExpressions}
use Rattle.options.specs.option_file.Numbers.{numeral_value}

-- Texts are bytes. `Other` is a value that no option takes: a number that does not fit in 64 bits, or a list of things other than texts.
pub data Given : Type 0 where
  Text : (text : List ℕ) → Given
  Boolean : (boolean : Bool) → Given
  Integer : (number : ℤ) → Given
  Texts : (items : List (List ℕ)) → Given
  Other : Given

-- Returns a number, if it fits in 64 bits.
abbrev pub integer : Option ℤ → Given
integer (Some n) = Integer n
integer None = Other

-- Returns the number with this sign, if it is within the range of the language's integers.
abbrev pub numeral : Bool → List ℕ → Option Given
numeral negative digits = option_map integer (numeral_value negative digits)

-- Returns what a literal gives. A plain or a raw string gives its text. A format string gives nothing that an option file may have.
abbrev pub literal_given : Literal → List ℕ → Option Given
literal_given literals.String slice = Some (Text (text_of Kinds.String slice))
literal_given literals.RawString slice = Some (Text (text_of Kinds.RawString slice))
literal_given literals.True slice = Some (Boolean true)
literal_given literals.False slice = Some (Boolean false)
literal_given literals.Number slice = numeral false slice
literal_given literals.FormatString slice = None
literal_given literals.RawFormatString slice = None

-- Returns what a literal after a minus gives, which must be a number.
abbrev pub negative_literal : Literal → List ℕ → Option Given
negative_literal literals.Number slice = numeral true slice
negative_literal _ slice = None

-- Returns what an expression after a minus gives, which must be a number.
abbrev pub negative_given : ExpressionTree → Option Given
negative_given (LiteralTree literal slice line) = negative_literal literal slice
negative_given _ = None

-- Returns what an expression after a prefix operator gives.
abbrev pub prefix_given : Prefix → ExpressionTree → Option Given
prefix_given prefixes.Negative e = negative_given e
prefix_given prefixes.Not e = None

-- Returns a string, a boolean, or a number with or without a minus.
abbrev pub item_given : ExpressionTree → Option Given
item_given (LiteralTree literal slice line) = literal_given literal slice
item_given (PrefixTree prefix e line) = prefix_given prefix e
item_given _ = None

-- Returns the values with one in front, if all are given.
abbrev pub in_front : Option Given → Option (List Given) → Option (List Given)
in_front first others = option_and_then (λ g. option_map (λ gs. g ∷ gs) others) first

-- Returns the items of a list, if none of them is a list or something else.
abbrev pub items_given : ExpressionTrees → Option (List Given)
items_given NoExpression = Some []
items_given (MoreExpressions e es) = in_front (item_given e) (items_given es)

-- Returns the texts, if all of these are texts.
abbrev pub texts_in : List Given → Option (List (List ℕ))
texts_in [] = Some []
texts_in (Text text ∷ gs) = option_map (λ texts. text ∷ texts) (texts_in gs)
texts_in (g ∷ gs) = None

-- Returns the texts as one value, or else another value.
abbrev pub texts_or_other : Option (List (List ℕ)) → Given
texts_or_other (Some texts) = Texts texts
texts_or_other None = Other

-- Returns what a list with these items gives.
abbrev pub list_given : List Given → Given
list_given gs = texts_or_other (texts_in gs)

-- Returns what an argument gives: a string, a boolean, a number, or a list of these.
abbrev pub given_of_argument : ExpressionTree → Option Given
given_of_argument (ListTree items line) = option_map list_given (items_given items)
given_of_argument e = item_given e

-- Defines how a source is cut into tokens, as a function.
use Rattle.std.specs.Prelude.{ℕ, zero, suc, ◌+◌, Bool, true, false, not, ◌&&◌, ◌||◌, ◌==◌, nat_lt, if◌then◌else◌, List, [], ◌∷◌, length}
use Rattle.std.specs.Prelude.{take, drop, Option, Some, None, Result, Ok, Err}
use Rattle.syntax.specs.declared.lexer.token.TokenKind.{TokenKind}
use Rattle.syntax.specs.declared.lexer.token.TokenKind.TheVariants as Kinds
use Rattle.syntax.specs.declared.lexer.gap.GapPart.{GapPart}
use Rattle.syntax.specs.declared.lexer.gap.GapPart.TheVariants as parts
use Rattle.syntax.specs.declared.lexer.fault.SyntaxFault.{SyntaxFault}
use Rattle.syntax.specs.declared.lexer.fault.FaultKind.TheVariants as Faults
use Rattle.std.specs.Char.{is_ascii_digit}
use Rattle.syntax.specs.lexer.Bytes.{quote, hash, backslash, newline, equals, is_letter, continues_word, is_blank, newlines, opens_raw}
use Rattle.syntax.specs.lexer.Bytes.{opens_format}
use Rattle.syntax.specs.lexer.Escapes.{is_bad_escape}
use Rattle.syntax.specs.lexer.Kinds.{word_kind, format_kind, single_kind, with_equals_kind, depth_after}
use Rattle.syntax.specs.lexer.Lexeme.{Lexeme}
use Rattle.syntax.specs.lexer.Numbers.{is_number}
use Rattle.syntax.specs.lexer.Tokens.{Place, start}

-- Returns how many bytes at the front pass the test.
abbrev pub run_length : (ℕ → Bool) → List ℕ → ℕ
run_length p [] = 0
run_length p (b ∷ bs) = if p b then suc (run_length p bs) else 0

-- Returns whether the byte may be between a backslash and the newline that it continues. `commented`: it is in the comment there.
abbrev pub in_line_rest : Bool → ℕ → Bool
in_line_rest commented b = commented || (is_blank 0 b || (b == hash))

-- Returns whether blanks, an optional comment and a newline are next.
abbrev pub continues_line : Bool → List ℕ → Bool
continues_line commented [] = false
continues_line commented (b ∷ bs) =
    if b == newline then true
    else (if in_line_rest commented b then continues_line (commented || (b == hash)) bs
    else false)

-- Returns whether the byte belongs to a gap, in this part of it. `bs` follows the byte.
abbrev pub in_gap : ℕ → GapPart → ℕ → List ℕ → Bool
in_gap depth parts.Blank b bs = is_blank depth b || ((b == hash) || ((b == backslash) && continues_line false bs))
in_gap depth parts.Comment b bs = not (b == newline) || nat_lt 0 depth
in_gap depth parts.Continuation b bs = true

-- Returns the part of the gap that the byte after this one is in.
abbrev pub part_after : GapPart → ℕ → GapPart
part_after parts.Blank b = if b == hash then parts.Comment else (if b == backslash then parts.Continuation else parts.Blank)
part_after parts.Comment b = if b == newline then parts.Blank else parts.Comment
part_after parts.Continuation b = if b == newline then parts.Blank else parts.Continuation

-- Returns how many bytes the gap at the front has.
abbrev pub gap : ℕ → GapPart → List ℕ → ℕ
gap depth part [] = 0
gap depth part (b ∷ bs) = if in_gap depth part b bs then suc (gap depth (part_after part b) bs) else 0

-- Returns the kind and length of the word at the front.
unfoldable pub word_at : List ℕ → TokenKind × ℕ
word_at bs = (word_kind (take (run_length continues_word bs) bs), run_length continues_word bs)

-- Returns the number at the front, whose first byte is a digit.
unfoldable pub number_at : List ℕ → Option (TokenKind × ℕ)
number_at bs = if is_number (take (run_length continues_word bs) bs) then Some (Kinds.Number, run_length continues_word bs) else None

-- Adds one byte.
abbrev pub further : Option ℕ → Option ℕ
further None = None
further (Some n) = Some (suc n)

-- Returns how many bytes precede the quote that ends a string. `escaped`: a backslash precedes these bytes.
abbrev pub inside : Bool → List ℕ → Option ℕ
inside escaped [] = None
inside true (b ∷ bs) = if is_bad_escape (b ∷ bs) then None else further (inside false bs)
inside false (b ∷ bs) = if b == quote then Some 0 else further (inside (b == backslash) bs)

-- Returns how many bytes precede the first three quotes.
abbrev pub before_quotes : List ℕ → Option ℕ
before_quotes [] = None
before_quotes (b ∷ bs) = if opens_raw (b ∷ bs) then Some 0 else further (before_quotes bs)

-- Returns a string of this kind, with n bytes inside and `round` others around them.
abbrev pub string_of : TokenKind → ℕ → Option ℕ → Option (TokenKind × ℕ)
string_of k round None = None
string_of k round (Some n) = Some (k, n + round)

-- Returns the string at the front, whose first byte is a quote.
unfoldable pub string_at : List ℕ → Option (TokenKind × ℕ)
string_at bs =
    if opens_raw bs then string_of Kinds.RawString 6 (before_quotes (drop 3 bs))
    else string_of Kinds.String 2 (inside false (drop 1 bs))

-- Returns an f-string in place of the string after its `f`, with one byte more. Returns none if there is no string.
abbrev pub format_symbol : Option (TokenKind × ℕ) → Option (TokenKind × ℕ)
format_symbol None = None
format_symbol (Some (k, n)) = Some (format_kind k, n + 1)

-- Returns the f-string at the front, whose first bytes are `f` and a quote.
unfoldable pub format_at : List ℕ → Option (TokenKind × ℕ)
format_at bs = format_symbol (string_at (drop 1 bs))

-- Returns a symbol of n bytes.
abbrev pub symbol_of_size : ℕ → Option TokenKind → Option (TokenKind × ℕ)
symbol_of_size n None = None
symbol_of_size n (Some k) = Some (k, n)

-- Returns the first token if there is one, and otherwise the second.
abbrev pub or_else : Option (TokenKind × ℕ) → Option (TokenKind × ℕ) → Option (TokenKind × ℕ)
or_else None o = o
or_else (Some x) o = Some x

-- Returns the symbol that this byte and the next one form.
abbrev pub double_kind : ℕ → List ℕ → Option TokenKind
double_kind a [] = None
double_kind a (b ∷ bs) = if b == equals then with_equals_kind a else None

-- Returns the kind and length of the symbol at the front, whose first byte is this one.
unfoldable pub symbol_at : ℕ → List ℕ → Option (TokenKind × ℕ)
symbol_at a bs = or_else (symbol_of_size 2 (double_kind a bs)) (symbol_of_size 1 (single_kind a))

-- Returns the kind and length of the longest token at the front.
unfoldable pub token_at : List ℕ → Option (TokenKind × ℕ)
token_at [] = None
token_at (a ∷ bs) =
    if is_letter a then (if opens_format (a ∷ bs) then format_at (a ∷ bs) else Some (word_at (a ∷ bs)))
    else (if is_ascii_digit a then number_at (a ∷ bs)
    else (if a == quote then string_at (a ∷ bs)
    else symbol_at a bs))

-- Returns the place n bytes further on.
abbrev pub past : ℕ → Place → Place
past n p = record { rest = drop n p.rest; line = p.line + newlines (take n p.rest); depth = p.depth }

-- Returns the place at which the gap from a place on ends.
abbrev pub place_after_gap : Place → Place
place_after_gap p = past (gap p.depth parts.Blank p.rest) p

-- Returns the fault that no token begins on this line (E2).
abbrev pub fault_at : ℕ → SyntaxFault
fault_at line = record { kind = Faults.Token; line = line }

-- Returns the tokens with one before them. A fault is returned as it is.
abbrev pub with_first : Lexeme → Result (List Lexeme) SyntaxFault → Result (List Lexeme) SyntaxFault
with_first t (Ok ts) = Ok (t ∷ ts)
with_first t (Err e) = Err e

-- Returns the token of this kind and length, in bytes, at a place.
abbrev pub lexeme_at : Place → TokenKind × ℕ → Lexeme
lexeme_at p (k, n) = record { kind = k; text = take n p.rest; line = p.line }

-- Returns the place after the token of this kind and length, in bytes. Newlines in the token count for the line.
abbrev pub after_lexeme : Place → TokenKind × ℕ → Place
after_lexeme p (k, n) = record { rest = drop n p.rest; line = p.line + newlines (take n p.rest); depth = depth_after k p.depth }

-- Returns the tokens from a place on, at which no gap begins. `go` returns those after the first.
abbrev pub lex_found : (Place → Result (List Lexeme) SyntaxFault) → Place → Option (TokenKind × ℕ) → Result (List Lexeme) SyntaxFault
lex_found go at None = Err (fault_at at.line)
lex_found go at (Some x) = with_first (lexeme_at at x) (go (after_lexeme at x))

-- Returns the tokens from a place on, given the bytes there and `go`, which returns those after the first. At the end there are none.
abbrev pub lex_here : (Place → Result (List Lexeme) SyntaxFault) → Place → List ℕ → Result (List Lexeme) SyntaxFault
lex_here go at [] = Ok []
lex_here go at (b ∷ bs) = lex_found go at (token_at (b ∷ bs))

-- Returns fewer than n tokens from a place on.
unfoldable pub lex : ℕ → Place → Result (List Lexeme) SyntaxFault
lex zero p = Ok []
lex (suc n) p = lex_here (lex n) (place_after_gap p) (place_after_gap p).rest

-- Returns the tokens of a source, in order, or the fault of the first place where no token begins.
unfoldable pub lexed_tokens : List ℕ → Result (List Lexeme) SyntaxFault
lexed_tokens source = lex (length source + 1) (start source)

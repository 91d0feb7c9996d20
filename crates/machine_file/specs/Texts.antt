-- Defines how blanks at the ends of texts are removed, and how texts are cut in two.
use Rattle.std.specs.Prelude.{ℕ, Bool, ◌||◌, ◌==◌, List, [], ◌∷◌, Option, Some, None, if◌then◌else◌}
use Rattle.std.specs.Option.{option_map}
use Rattle.syntax.specs.lexer.Bytes.{space, tab, carriage_return}
use Rattle.machine_file.specs.declared.text.Blanks.{Blanks}
use Rattle.machine_file.specs.declared.text.Blanks.TheVariants as blanks

-- Returns whether the byte is removed at the ends of a text: a space, or else also a tab or a carriage return.
abbrev pub is_blank : Blanks → ℕ → Bool
is_blank blanks.Spaces b = b == space
is_blank blanks.All b = (b == space) || ((b == tab) || (b == carriage_return))

-- Returns a text from its first byte that is no blank.
abbrev pub from_word : Blanks → List ℕ → List ℕ
from_word w [] = []
from_word w (b ∷ bs) = if is_blank w b then from_word w bs else b ∷ bs

-- Puts a byte before a text without blanks at its end. A blank is dropped if nothing follows it.
abbrev pub text_with_byte : Blanks → ℕ → List ℕ → List ℕ
text_with_byte w b [] = if is_blank w b then [] else b ∷ []
text_with_byte w b (c ∷ cs) = b ∷ c ∷ cs

-- Returns a text up to its last byte that is no blank.
abbrev pub to_word : Blanks → List ℕ → List ℕ
to_word w [] = []
to_word w (b ∷ bs) = text_with_byte w b (to_word w bs)

-- Returns a text without blanks at its ends.
abbrev pub trimmed_text : Blanks → List ℕ → List ℕ
trimmed_text w text = to_word w (from_word w text)

-- Returns the text before the last byte, if that is c.
abbrev pub before_last_byte : ℕ → List ℕ → Option (List ℕ)
before_last_byte c [] = None
before_last_byte c (a ∷ []) = if a == c then Some [] else None
before_last_byte c (a ∷ b ∷ bs) = option_map (λ front. a ∷ front) (before_last_byte c (b ∷ bs))

-- The two parts into which a text is cut.
abbrev pub Parts : Type 0
Parts = List ℕ × List ℕ

-- Returns the parts with a byte in front.
abbrev pub with_front : ℕ → Parts → Parts
with_front b parts = (b ∷ parts.0, parts.1)

-- Returns the texts before and after the first byte c.
abbrev pub cut_first : ℕ → List ℕ → Option Parts
cut_first c [] = None
cut_first c (b ∷ bs) = if b == c then Some ([], bs) else option_map (with_front b) (cut_first c bs)

-- Returns the parts at a later byte c, or else at this one if it is c.
abbrev pub or_here : ℕ → ℕ → List ℕ → Option Parts → Option Parts
or_here c b bs None = if b == c then Some ([], bs) else None
or_here c b bs (Some parts) = Some (with_front b parts)

-- Returns the texts before and after the last byte c.
abbrev pub cut_last : ℕ → List ℕ → Option Parts
cut_last c [] = None
cut_last c (b ∷ bs) = or_here c b bs (cut_last c bs)

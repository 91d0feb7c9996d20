-- Defines texts in a slice, each ended by a zero byte.
use Rattle.std.specs.Prelude.{◌≡◌, ℕ, ◌+◌, ◌==◌, Bool, false, List, [], ◌∷◌, ◌++◌, drop, length}
use Rattle.std.specs.List.{flat_map, list_any}
use Rattle.std.specs.Str.{IsUtf8}

-- Returns whether a byte is the zero byte.
abbrev pub is_zero : ℕ → Bool
is_zero b = b == 0

-- Holds if a zero byte can end these bytes: they are UTF-8, and none of them is zero.
pub record IsText (bytes : List ℕ) : Type 0 where
  pub utf8 : IsUtf8 bytes
  pub nonzero : list_any is_zero bytes ≡ false

-- Holds if each of the texts is UTF-8 and has no zero byte.
abbrev pub AreTexts : List (List ℕ) → Type 0
AreTexts [] = Unit {0}
AreTexts (text ∷ more) = IsText text × AreTexts more

-- Returns a text and the zero byte that ends it.
abbrev pub null_terminated_text : List ℕ → List ℕ
null_terminated_text text = text ++ 0 ∷ []

-- Holds if the bytes are these texts, each ended by a zero byte.
pub record SpellsTexts (bytes : List ℕ) (texts : List (List ℕ)) : Type 0 where
  pub joined : bytes ≡ flat_map null_terminated_text texts
  pub are_texts : AreTexts texts

-- Holds if the bytes begin with this text, and the zero byte that ends it.
pub record BeginsWith (bytes text : List ℕ) : Type 0 where
  pub is_text : IsText text
  pub parts : bytes ≡ text ++ 0 ∷ drop (length text + 1) bytes

-- Holds if the bytes begin with no text that a zero byte ends.
abbrev pub BeginsWithNone : List ℕ → Type 0
BeginsWithNone bytes = (text rest : List ℕ) → IsText text → bytes ≡ text ++ 0 ∷ rest → ⊥

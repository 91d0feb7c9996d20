-- Defines configuration data as plain data.
use Prim.Native.Char.{code}
use Rattle.std.specs.Prelude.{ℕ, ℤ, Bool, true, false, List, [], ◌∷◌, ◌++◌, map, ◌==◌, Option, codes, if◌then◌else◌}
use Rattle.std.specs.Fmt.{signed_decimal}
use Rattle.std.specs.Str.{bytes_eq}
use Rattle.std.specs.Cmp.Lexicographic.{slice_cmp}
use Rattle.std.specs.Ordering.{nat_cmp}
use Rattle.std.specs.BTreeMap.{insert_entry}
use Rattle.std.specs.Map.{lookup}

-- The value of a name: a boolean, an integer or a text.
pub data Content : Type 0 where
  Flag : (boolean : Bool) → Content
  Number : (number : ℤ) → Content
  Bytes : (text : List ℕ) → Content

-- Names and their values, in the order of the names' bytes.
abbrev pub Entries : Type 0
Entries = List (List ℕ × Content)

-- Configuration data: its entries, and whether changes of them are refused.
pub record Configuration : Type 0 where
  pub entries : Entries
  pub frozen : Bool

-- Returns configuration data with these entries, which may be changed.
abbrev pub unfrozen_configuration : Entries → Configuration
unfrozen_configuration entries = record { entries = entries; frozen = false }

-- Returns the names of entries, in their order.
abbrev pub names : Entries → List (List ℕ)
names entries = map (λ entry. entry.0) entries

-- Returns the value of this name, if it has one.
unfoldable pub value_of : Entries → List ℕ → Option Content
value_of entries name = lookup (λ key. bytes_eq name key) entries

-- Returns the entries with this value of this name, in place of an earlier one.
unfoldable pub with_value : Entries → List ℕ → Content → Entries
with_value entries name content = insert_entry (slice_cmp nat_cmp) entries name content

-- Returns the entries with each of these others set in turn.
unfoldable pub entries_with_others : Entries → Entries → Entries
entries_with_others entries [] = entries
entries_with_others entries (other ∷ others) = entries_with_others (with_value entries other.0 other.1) others

-- Returns a text with a backslash before each quote.
unfoldable pub escaped_quotes : List ℕ → List ℕ
escaped_quotes [] = []
escaped_quotes (b ∷ text) = (if b == code "\"" then codes "\\\"" else b ∷ []) ++ escaped_quotes text

-- Returns a text in quotes, the quotes inside escaped.
unfoldable pub double_quoted_text : List ℕ → List ℕ
double_quoted_text text = codes "\"" ++ escaped_quotes text ++ codes "\""

-- Returns a value in printed form.
unfoldable pub printed_content : Content → List ℕ
printed_content (Flag true) = codes "true"
printed_content (Flag false) = codes "false"
printed_content (Number z) = signed_decimal z
printed_content (Bytes text) = text

-- Defines rows: the arguments that a call takes, and whether given arguments fit.
use Rattle.std.specs.Prelude.{ℕ, Bool, true, false, ◌||◌, List, [], ◌∷◌, slice_get}
use Rattle.std.specs.Prelude.{Option, Some, None, is_some, bytes_eq, codes, if◌then◌else◌}
use Rattle.values.specs.Data.{Data, boolean_in, integer_in, text_in, entries_in, object}
use Rattle.values.specs.declared.object.Object.{Object}
use Rattle.arguments.specs.declared.row.ArgumentKind.{ArgumentKind}
use Rattle.arguments.specs.declared.row.ArgumentKind.TheVariants as kinds
use Rattle.values.specs.Flat.{is_texts}
use Rattle.arguments.specs.Pieces.{are_pieces, is_command, is_configuration, is_feature, is_file}

-- A keyword that a call takes: its name, the kind of its value, and whether it is required.
pub record KeywordData : Type 0 where
  pub name : List ℕ
  pub kind : ArgumentKind
  pub is_needed : Bool

-- The kinds of the positional arguments and how many of them are needed, the kind of further ones, and the keywords. Then the keywords that
-- are not supported, in addition to those that no call supports.
pub record RowData : Type 0 where
  pub positional : List ArgumentKind
  pub needed : ℕ
  pub others : Option ArgumentKind
  pub keywords : List KeywordData
  pub left_out : List (List ℕ)

-- ---- constructors

-- Returns an optional keyword.
abbrev pub optional : List ℕ → ArgumentKind → KeywordData
optional name kind = record { name = name; kind = kind; is_needed = false }

-- Returns a required keyword.
abbrev pub required_keyword : List ℕ → ArgumentKind → KeywordData
required_keyword name kind = record { name = name; kind = kind; is_needed = true }

-- Returns a row with these positional arguments, of which the first `needed` are needed, and these keywords.
abbrev pub row : List ArgumentKind → ℕ → List KeywordData → RowData
row positional needed keywords = record { positional = positional; needed = needed; others = None; keywords = keywords; left_out = [] }

-- Returns a row that also takes any number of further arguments after the positional ones.
abbrev pub with_others : ArgumentKind → RowData → RowData
with_others kind r =
    record { positional = r.positional; needed = r.needed; others = Some kind; keywords = r.keywords; left_out = r.left_out }

-- Returns a row in which these keywords are not supported.
abbrev pub leaving_out : List (List ℕ) → RowData → RowData
leaving_out names r =
    record { positional = r.positional; needed = r.needed; others = r.others; keywords = r.keywords; left_out = names }

-- Returns the keywords that no call supports.
abbrev pub common_left_out : List (List ℕ)
common_left_out = codes "kwargs" ∷ codes "fallback" ∷ codes "deprecated" ∷ []

-- ---- the kind at an index or with a name

-- Holds if a value is an object that passes a test.
abbrev pub is_object : (Object → Bool) → Data → Bool
is_object test (object o) = test o
is_object test _ = false

-- Holds if a value is of a kind.
abbrev pub is_of : ArgumentKind → Data → Bool
is_of kinds.Any d = true
is_of kinds.Boolean d = is_some (boolean_in d)
is_of kinds.Integer d = is_some (integer_in d)
is_of kinds.Text d = is_some (text_in d)
is_of kinds.IntegerOrText d = is_some (integer_in d) || is_some (text_in d)
is_of kinds.Setting d = is_some (boolean_in d) || (is_some (integer_in d) || is_some (text_in d))
is_of kinds.Requirement d = is_some (boolean_in d) || is_object is_feature d
is_of kinds.Texts d = is_texts d
is_of kinds.Dictionary d = is_some (entries_in d)
is_of kinds.TextsOrDictionary d = is_texts d || is_some (entries_in d)
is_of kinds.ConfigurationData d = is_object is_configuration d
is_of kinds.Configuration d = is_object is_configuration d || is_some (entries_in d)
is_of kinds.File d = is_object is_file d
is_of kinds.Command d = is_object is_command d
is_of (kinds.Flat piece) d = are_pieces piece d

-- Returns the kind of the positional argument at an index: the row names it, or it is one of the further ones.
abbrev pub kind_or : Option ArgumentKind → Option ArgumentKind → Option ArgumentKind
kind_or (Some kind) others = Some kind
kind_or None others = others

-- Returns the kind of the positional argument at an index of a row.
abbrev pub kind_at : RowData → ℕ → Option ArgumentKind
kind_at row i = kind_or (slice_get row.positional i) row.others

-- Returns the kind of a keyword, and none if there is no such keyword.
abbrev pub keyword_kind : List ℕ → List KeywordData → Option ArgumentKind
keyword_kind name [] = None
keyword_kind name (k ∷ ks) = if bytes_eq k.name name then Some k.kind else keyword_kind name ks

-- Returns the value given with a name.
abbrev pub value_named : List ℕ → List (List ℕ × Data) → Option Data
value_named name [] = None
value_named name (n ∷ ns) = if bytes_eq n.0 name then Some n.1 else value_named name ns

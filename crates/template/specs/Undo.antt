-- Defines what is kept to revert changes, for the contracts of private functions.
use Rattle.std.specs.Prelude.{◌≡◌, ℕ, List, [], ◌∷◌, map, Option, option_map, String, string_bytes}
use Rattle.std.specs.declared.alloc.Global.{Global}
use Rattle.std.specs.List.Sorted.{IsStrictlySortedBy}
use Rattle.std.specs.Cmp.Lexicographic.{slice_cmp}
use Rattle.std.specs.Ordering.{nat_cmp}
use Rattle.template.specs.Config.{Content, Entries, names, value_of, with_value}
use Rattle.template.specs.ConfigData.{content_of}
use Rattle.template.specs.declared.config.ConfigValue.{ConfigValue}

-- This name was set, and this was its earlier value.
pub record IsSet (name : List ℕ) (before : Option Content) (old new : Entries) : Type 0 where
  pub content : Content
  pub is : new ≡ with_value old name content
  pub was : value_of old name ≡ before
  pub ascending : IsStrictlySortedBy (slice_cmp nat_cmp) (names old)

-- Holds if these names were set in turn.
abbrev pub AreSet : List (List ℕ × Option Content) → Entries → Entries → Type 0
AreSet [] old new = new ≡ old
AreSet (change ∷ changes) old new = (mid : Entries) × (IsSet change.0 change.1 old mid × AreSet changes mid new)

-- Returns the data of changes of the code: each name that was set, with its value before, or none if it had none.
abbrev pub changes_of : List (String Global × Option ConfigValue) → List (List ℕ × Option Content)
changes_of changes = map (λ change. (string_bytes change.0, option_map content_of change.1)) changes

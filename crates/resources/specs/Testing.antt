-- Defines the arguments of `test`.
use Prim.Native.Char.{code}
use Rattle.std.specs.Prelude.{ℕ, ◌^◌, ℤ, pos, negsuc, Bool, nat_lt, List, [], ◌∷◌, ◌++◌, ◌==◌, Option, Some, Result, Ok, Err, codes}
use Rattle.std.specs.Prelude.{if◌then◌else◌}
use Rattle.std.specs.List.{list_any}
use Rattle.values.specs.Data.{Data, dictionary, Items, no_items, item, entry_values, keys_in, text_in}
use Rattle.values.specs.declared.refusal.OperationRefusal.{OperationRefusal}
use Rattle.values.specs.declared.refusal.OperationRefusal.TheVariants as refusal
use Rattle.arguments.specs.Arguments.{ArgumentsData}
use Rattle.arguments.specs.Given.{keyword, texts}
use Rattle.arguments.specs.Refused.{breaks}
use Rattle.arguments.specs.Said.{Said, ◌>>=◌, found_value}
use Rattle.arguments.specs.declared.rule.Rule.TheVariants as rules

-- ---- seconds

-- Holds if an integer is from -2^63 to 2^63 - 1. Here `pos n` is n, and `negsuc n` is -(n + 1).
abbrev pub is_in_64_bits : ℤ → Bool
is_in_64_bits (pos n) = nat_lt n (2 ^ 63)
is_in_64_bits (negsuc n) = nat_lt n (2 ^ 63)

-- Returns the seconds of a timeout, or E7 if they do not fit in 64 bits.
abbrev pub seconds_of : ℤ → Result ℤ OperationRefusal
seconds_of timeout = if is_in_64_bits timeout then Ok timeout else Err refusal.Range

-- ---- environment variables

-- Returns a name and a value as `NAME=VALUE`.
abbrev pub assignment : (name value : List ℕ) → List ℕ
assignment name value = name ++ (codes "=" ++ value)

-- Returns assignments followed by those of names and values. A value that is no text breaks a rule, and the detail is its name.
abbrev pub assigned_behind : List (List ℕ) → (names : List (List ℕ)) → (values : Items) → Said (List (List ℕ))
assigned_behind ts [] ds = Ok ts
assigned_behind ts (n ∷ ns) no_items = Ok ts
assigned_behind ts (n ∷ ns) (item d ds) = do
  t ← found_value (text_in d) rules.TakesText n
  assigned_behind (ts ++ assignment n t ∷ []) ns ds

-- Holds if a text has a name and a value, either of which may be empty.
abbrev pub is_assignment : List ℕ → Bool
is_assignment text = list_any (λ b. b == code "=") text

-- Checks that each text has a name and a value. The first one that has none breaks a rule.
abbrev pub are_assignments : List (List ℕ) → Said (Unit {0})
are_assignments [] = Ok tt
are_assignments (t ∷ ts) = if is_assignment t then are_assignments ts else Err (breaks rules.IsAssignment t)

-- Returns the variables of a dictionary, and otherwise those of the texts.
abbrev pub environment_by : Option Data → List (List ℕ) → Said (List (List ℕ))
environment_by (Some (dictionary es)) ts = assigned_behind [] (keys_in es) (entry_values es)
environment_by _ ts = do
  _ ← are_assignments ts
  Ok ts

-- Returns the variables of the keyword `env`, as texts `NAME=VALUE`, given as a dictionary of texts or as such texts.
abbrev pub environment : ArgumentsData → Said (List (List ℕ))
environment a = environment_by (keyword (codes "env") a) (texts (codes "env") a)

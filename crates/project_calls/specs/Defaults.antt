-- Defines the keyword `default_options` of `project`: texts `NAME=VALUE`, or a dictionary of values, which are used as they are printed.
use Rattle.std.specs.Prelude.{ℕ, List, [], ◌∷◌, ◌++◌, map, codes, Option, unwrap_or, option_and_then, Result, Ok, Err}
use Rattle.values.specs.Data.{Items, no_items, item, Entries, no_entries, entry_values, entries_in, keys_in}
use Rattle.values.specs.declared.refusal.OperationRefusal.{OperationRefusal as OperationRefusal}
use Rattle.arguments.specs.Arguments.{ArgumentsData}
use Rattle.arguments.specs.Given.{keyword, texts}
use Rattle.options.specs.Verdicts.{Default, Assignment, Entry}
use Rattle.values.specs.printing.Printed.{printed_value}
use Rattle.operations.specs.operators.TextLists.{and_then}

-- Returns texts followed by printed values, or the first refusal.
abbrev pub printed_behind : List (List ℕ) → Items → Result (List (List ℕ)) OperationRefusal
printed_behind ts no_items = Ok ts
printed_behind ts (item d ds) = and_then (printed_value d) (λ t. printed_behind (ts ++ t ∷ []) ds)

-- Returns printed values, or the first refusal.
abbrev pub printed_all : Items → Result (List (List ℕ)) OperationRefusal
printed_all ds = printed_behind [] ds

-- Returns the dictionary that the keyword has, if it has one.
abbrev pub dictionary_given : ArgumentsData → Option Entries
dictionary_given a = option_and_then entries_in (keyword (codes "default_options") a)

-- Returns the entries of that dictionary, and none if there is no dictionary.
abbrev pub entries_given : ArgumentsData → Entries
entries_given a = unwrap_or (dictionary_given a) no_entries

-- Returns the printed values of that dictionary.
abbrev pub printed_values : ArgumentsData → Result (List (List ℕ)) OperationRefusal
printed_values a = printed_all (entry_values (entries_given a))

-- Returns this name if its value cannot be printed, and otherwise what the other names give.
abbrev pub unless_printed : Result (List ℕ) OperationRefusal → (name others : List ℕ) → List ℕ
unless_printed (Ok t) name others = others
unless_printed (Err refusal) name others = name

-- Returns the name of the first value that cannot be printed.
abbrev pub first_unprinted : (names : List (List ℕ)) → (values : Items) → List ℕ
first_unprinted [] ds = []
first_unprinted (n ∷ ns) no_items = []
first_unprinted (n ∷ ns) (item d ds) = unless_printed (printed_value d) n (first_unprinted ns ds)

-- Returns keys with printed values, pair by pair.
abbrev pub entry_defaults : List (List ℕ) → List (List ℕ) → List Default
entry_defaults [] values = []
entry_defaults (k ∷ ks) [] = []
entry_defaults (k ∷ ks) (v ∷ vs) = Entry k v ∷ entry_defaults ks vs

-- Returns the texts of the keyword, followed by the keys of its dictionary with these printed values.
abbrev pub defaults_of : ArgumentsData → List (List ℕ) → List Default
defaults_of a values = map Assignment (texts (codes "default_options") a) ++ entry_defaults (keys_in (entries_given a)) values

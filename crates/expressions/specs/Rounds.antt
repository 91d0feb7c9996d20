-- Defines the rounds of a loop: "Foreach statements" of the page "Syntax".
use Rattle.std.specs.Prelude.{◌≡◌, ℕ, ◌+◌, ◌≤◌, List, [], ◌∷◌, drop, Option, Some, None, Result, Ok, Err, option_map, is_some, Bool, length}
use Rattle.values.specs.Data.{Data, boolean, integer, text, list, dictionary, object, Items, no_items, item, Entries, no_entries, entry}
use Rattle.values.specs.View.{data_of}
use Rattle.support.specs.declared.faults.refusal.Refusal.{Refusal}
use Rattle.support.specs.declared.faults.refusal.Refusal.TheVariants as refusals
use Rattle.expressions.specs.declared.loops.Round.{Round as Declared}

-- The values of a round's variables: of the first, and of the second if there is one.
abbrev pub Round : Type 0
Round = Data × Option Data

-- Returns a round for each item.
abbrev pub item_rounds : Items → List Round
item_rounds no_items = []
item_rounds (item d ds) = (d, None) ∷ item_rounds ds

-- Returns a round for each entry: its key and its value.
abbrev pub entry_rounds : Entries → List Round
entry_rounds no_entries = []
entry_rounds (entry key d es) = (text key, Some d) ∷ entry_rounds es

-- Returns the rounds of a loop. A loop with one name iterates over a list, one with two names over a dictionary in order of insertion.
abbrev pub loop_rounds : Option (List ℕ) → Data → Result (List Round) Refusal
loop_rounds None (list ds) = Ok (item_rounds ds)
loop_rounds (Some second) (dictionary es) = Ok (entry_rounds es)
loop_rounds second d = Err refusals.Type

-- Returns the plain data of a round.
abbrev pub round_data : Declared → Round
round_data r = (data_of r.first, option_map data_of r.second)

-- Returns all rounds over a value.
abbrev pub rounds_in : Data → List Round
rounds_in (list ds) = item_rounds ds
rounds_in (dictionary es) = entry_rounds es
rounds_in (boolean b) = []
rounds_in (integer z) = []
rounds_in (text t) = []
rounds_in (object o) = []

-- Holds if a round is the one at this position, and if there is none past the last.
abbrev pub RoundAt : List Round → ℕ → Option Declared → Type 0
RoundAt rounds at None = drop at rounds ≡ []
RoundAt rounds at (Some r) = drop at rounds ≡ round_data r ∷ drop (at + 1) rounds

-- Holds if a loop with one name or with two can iterate over a value, or has this refusal.
abbrev pub Loops : Bool → Data → Result (Unit {0}) Refusal → Type 0
Loops has_second d (Ok u) = (second : Option (List ℕ)) → is_some second ≡ has_second → loop_rounds second d ≡ Ok (rounds_in d)
Loops has_second d (Err refusal) = (second : Option (List ℕ)) → is_some second ≡ has_second → loop_rounds second d ≡ Err refusal

-- Holds if a loop over a value has at most 65,536 rounds.
abbrev pub HasFewRounds : Data → Type 0
HasFewRounds d = length (rounds_in d) ≤ 65536

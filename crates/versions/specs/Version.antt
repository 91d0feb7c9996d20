-- Defines the runs of a version, and the order of versions: `version_compare` of the page "Reference manual".
use Prim.Native.Char.{code}
use Rattle.std.specs.Prelude.{ℕ, ◌+◌, ◌-◌, ◌*◌, ◌^◌, List, [], ◌∷◌, length, Option, Some, None, if◌then◌else◌}
use Rattle.std.specs.Ordering.{nat_cmp}
use Rattle.std.specs.declared.cmp.Ordering.{Ordering}
use Rattle.std.specs.declared.cmp.Ordering.TheVariants.{Less, Greater}
use Rattle.std.specs.Char.{is_ascii_digit, is_ascii_alphabetic}
use Rattle.std.specs.Cmp.Lexicographic.{slice_cmp}

-- A run is a longest stretch of digits or of letters in a version, as its bytes.
pub data Run : Type 0 where
  number : List ℕ → Run
  word : List ℕ → Run

-- Returns runs with a digit before them. The digit joins a number at the start, or begins a new one.
abbrev pub with_digit : ℕ → List (Option Run) → List (Option Run)
with_digit d (Some (number ds) ∷ parts) = Some (number (d ∷ ds)) ∷ parts
with_digit d parts = Some (number (d ∷ [])) ∷ parts

-- Returns runs with a letter before them. The letter joins a word at the start, or begins a new one.
abbrev pub with_letter : ℕ → List (Option Run) → List (Option Run)
with_letter c (Some (word cs) ∷ parts) = Some (word (c ∷ cs)) ∷ parts
with_letter c parts = Some (word (c ∷ [])) ∷ parts

-- Returns the runs of a version, with none for each byte that separates them.
abbrev pub parts : List ℕ → List (Option Run)
parts [] = []
parts (b ∷ bs) =
    if is_ascii_digit b then with_digit b (parts bs)
    else if is_ascii_alphabetic b then with_letter b (parts bs)
    else None ∷ parts bs

-- Returns the runs without the separators between them.
abbrev pub present : List (Option Run) → List Run
present [] = []
present (None ∷ others) = present others
present (Some run ∷ others) = run ∷ present others

-- Returns the runs of a version, in order.
abbrev pub runs : List ℕ → List Run
runs version = present (parts version)

-- Returns the integer that decimal digits spell, of any length.
abbrev pub integer_of_digits : List ℕ → ℕ
integer_of_digits [] = 0
integer_of_digits (d ∷ ds) = (d - code "0") * 10 ^ length ds + integer_of_digits ds

-- Compares two runs: numbers by value, words by bytes; a number is greater than a word.
abbrev pub run_order : Run → Run → Ordering
run_order (number xs) (number ys) = nat_cmp (integer_of_digits xs) (integer_of_digits ys)
run_order (number xs) (word ys) = Greater
run_order (word xs) (number ys) = Less
run_order (word xs) (word ys) = slice_cmp nat_cmp xs ys

-- Compares two versions by the first run that differs. If there is none, the version with more runs is greater.
abbrev pub version_order : List ℕ → List ℕ → Ordering
version_order v w = slice_cmp run_order (runs v) (runs w)

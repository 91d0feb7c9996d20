-- Defines which dependency the machine file has.
use Rattle.std.specs.Prelude.{ℕ, Bool, true, ◌&&◌, List, [], ◌∷◌, Option, Some, None, Result}
use Rattle.std.specs.Prelude.{unwrap_or, option_and_then, option_map, codes, if◌then◌else◌}
use Rattle.values.specs.declared.object.Dependency.{Dependency}
use Rattle.values.specs.declared.refusal.OperationRefusal.{OperationRefusal}
use Rattle.resources.specs.Found.{found_dependency}
use Rattle.machine_file.specs.Files.{Entry}
use Rattle.machine_file.specs.Lookups.{entry_at}
use Rattle.machine_file.specs.Questions.{Answer, entries_of_answer, value_of_answer}
use Rattle.machine_file.specs.Readers.{text_said, texts_said, words_said}
use Rattle.versions.specs.Condition.{meets}

-- Returns the version in a section, and `unknown` if it has none.
abbrev pub said_version : List Entry → List ℕ
said_version entries =
    unwrap_or (option_and_then text_said (option_map (λ e. e.value) (entry_at entries (codes "version")))) (codes "unknown")

-- Holds if a version meets all conditions.
abbrev pub conditions_hold : List ℕ → List (List ℕ) → Bool
conditions_hold version [] = true
conditions_hold version (c ∷ cs) = meets version c && conditions_hold version cs

-- Returns a section if its version meets all conditions.
abbrev pub kept_if_met : List (List ℕ) → Option (List Entry) → Option (List Entry)
kept_if_met conditions None = None
kept_if_met conditions (Some entries) = if conditions_hold (said_version entries) conditions then Some entries else None

-- Returns the texts that a section has for a key.
abbrev pub said_texts : List ℕ → List Entry → List (List ℕ)
said_texts key entries = unwrap_or (option_and_then texts_said (option_map (λ e. e.value) (entry_at entries key))) []

-- Returns the dependency that a section describes.
abbrev pub said_dependency : List ℕ → List Entry → Result Dependency OperationRefusal
said_dependency name entries =
    found_dependency name (said_version entries) (said_texts (codes "compile_args") entries) (said_texts (codes "link_args") entries)

-- Returns the dependency with a name if an answer has a section whose version meets all conditions.
abbrev pub dependency_that_fits : List (List ℕ) → List ℕ → Answer → Option (Result Dependency OperationRefusal)
dependency_that_fits conditions name answer = option_map (said_dependency name) (kept_if_met conditions (entries_of_answer answer))

-- Returns the command of a program in an answer.
abbrev pub program_words : Answer → Option (List (List ℕ))
program_words answer = option_map words_said (value_of_answer answer)

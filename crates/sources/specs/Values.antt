-- Defines the results of `files` and `include_directories`.
use Rattle.std.specs.Prelude.{ℕ, false, List, [], ◌∷◌, Result, Ok, Err}
use Rattle.values.specs.Data.{Data, list, object, Items, no_items, item, items_append}
use Rattle.values.specs.Limits.{within, within_bytes}
use Rattle.values.specs.declared.object.Object.TheVariants as objects
use Rattle.values.specs.declared.refusal.OperationRefusal.{OperationRefusal}
use Rattle.values.specs.Copies.{short_texts}

-- Runs a step after another, unless that was refused.
abbrev pub and_then : {A B : Type 0} → Result A OperationRefusal → (A → Result B OperationRefusal) → Result B OperationRefusal
and_then (Ok a) next = next a
and_then (Err refusal) next = Err refusal

-- Returns items followed by files in the source directory, each with a path within the limit of a text.
abbrev pub files_behind : Items → List (List ℕ) → Result Items OperationRefusal
files_behind ds [] = Ok ds
files_behind ds (p ∷ ps) =
    and_then (within_bytes p) (λ path. files_behind (items_append ds (item (object (objects.File path false)) no_items)) ps)

-- Returns the list of the files at these paths.
abbrev pub files_at : List (List ℕ) → Result Data OperationRefusal
files_at ps = and_then (files_behind no_items ps) (λ ds. within (list ds))

-- Returns the object with the directories at these paths.
abbrev pub directories_at : List (List ℕ) → Result Data OperationRefusal
directories_at ps = and_then (short_texts ps) (λ qs. Ok (object (objects.IncludeDirectories qs)))

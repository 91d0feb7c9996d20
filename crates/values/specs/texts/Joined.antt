-- Defines texts that are made of pieces.
use Rattle.std.specs.Prelude.{ℕ, ◌++◌, List, [], ◌∷◌, length, ◌==◌, Result, Err, if◌then◌else◌}
use Rattle.std.specs.List.{flat_map}
use Rattle.values.specs.declared.refusal.OperationRefusal.{OperationRefusal}
use Rattle.values.specs.declared.refusal.OperationRefusal.TheVariants as refusal
use Rattle.values.specs.Limits.{within_bytes}
use Rattle.values.specs.texts.Pieces.{parts}

-- Returns the pieces with a separator between each two.
abbrev pub joined_texts : List ℕ → List (List ℕ) → List ℕ
joined_texts separator [] = []
joined_texts separator (piece ∷ pieces) = piece ++ flat_map (λ next. separator ++ next) pieces

-- Returns a text with each occurrence of `old` replaced by `new`. The occurrences are found like those of a separator.
abbrev pub replaced_text : List ℕ → List ℕ → List ℕ → Result (List ℕ) OperationRefusal
replaced_text text old new = if length old == 0 then Err refusal.Arguments else within_bytes (joined_texts new (parts old text))

-- Reads results of the functions on texts.
use Rattle.std.specs.Prelude.{ℕ, List, map, Vec, Result, Ok, Err}
use denote.Ref.{Bor}
use Rattle.values.specs.declared.refusal.OperationRefusal.{OperationRefusal}

-- Returns the pieces of a result, or its refusal.
abbrev pub pieces_in : {Z : Type 0} → Result (Vec (Bor (List ℕ)) Z) OperationRefusal → Result (List (List ℕ)) OperationRefusal
pieces_in (Ok pieces) = Ok (map (λ piece. piece.now) pieces.items)
pieces_in (Err refusal) = Err refusal

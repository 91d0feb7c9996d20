use Rattle.std.proofs.Common.{◌≡◌, ◌≤◌, ◌++◌, length, map}
use Rattle.values.specs.texts.Joined.{joined_texts}
use Rattle.values.proofs.JoinedLemmas.{pieces_from}
use Rattle.values.proofs.texts.join_texts.join.Given as goal

abbrev pub invariant-loop-piece : goal.invariant-loop-piece
invariant-loop-piece l =
    (joined_texts l.separator (map (λ p. p.now) l.pieces) ≡ l.made ++ pieces_from l.separator l.others l.piece-index) ×
    (length l.made ≤ 16777216)

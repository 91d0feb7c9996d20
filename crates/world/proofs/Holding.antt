-- A tree that stays as it is holds what it held.
use Rattle.std.proofs.Common.{ℕ, List, refl, ◌∙◌}
use Rattle.ports.specs.Tree.{TreeState, Stays}
use Rattle.world.specs.Gives.{Holds}

pub holds_later : {old new : TreeState} {files : List (List ℕ × List ℕ)} → Stays old new → Holds old files → Holds new files
holds_later s h = record { steady = s.steady h.steady; files = s.files h.steady ∙ h.files }

pub stays_here : (s : TreeState) → Stays s s
stays_here s = record { steady = λ h. h; files = λ _. refl }

pub stays_on : {old mid new : TreeState} → Stays old mid → Stays mid new → Stays old new
stays_on s t = record { steady = λ h. t.steady (s.steady h); files = λ h. t.files (s.steady h) ∙ s.files h }

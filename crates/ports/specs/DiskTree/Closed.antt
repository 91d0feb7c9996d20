-- Proves what only this crate knows of the closed definitions: the calls of a tree on a disk owe nothing to a caller who assumes that it is
-- steady.
use Rattle.std.specs.Prelude.{ℕ, IsTrue, List}
use Rattle.std.proofs.lemmas.Bool.{false≢true}
use Rattle.ports.specs.DiskTree.{are_steady}

-- Proves anything from the premise that the files below a folder stay unchanged, since `are_steady` is false by its closed definition.
pub owes_nothing : {owed : Type 0} (folder : List ℕ) → IsTrue (are_steady folder) → owed
unfolding are_steady
owes_nothing folder is = absurd (false≢true is)

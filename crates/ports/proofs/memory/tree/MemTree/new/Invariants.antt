use Rattle.std.proofs.Common.{◌≡◌, ◌++◌, ℕ, List, vec_len}
use Rattle.ports.specs.Tree.{file_at}
use Rattle.ports.specs.memory.MemTree.{contents}
use Rattle.ports.proofs.memory.tree.MemTree.new.Given as goal

abbrev pub invariant-loop-path : goal.invariant-loop-path
invariant-loop-path l = (path : List ℕ) → file_at (contents l.files.items ++ contents l.found.entries) path ≡ file_at (contents l.fn.files.items) path

abbrev pub decreases-loop-path : goal.decreases-loop-path
decreases-loop-path l = vec_len l.files

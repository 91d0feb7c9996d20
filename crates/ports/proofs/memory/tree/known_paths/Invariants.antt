use Rattle.std.proofs.Common.{◌≡◌, ℕ, List}
use Rattle.ports.specs.memory.MemTree.{is_one_of}
use Rattle.ports.proofs.memory.tree.known_paths.Given as goal

abbrev pub invariant-loop-path : goal.invariant-loop-path
invariant-loop-path l = (path : List ℕ) → is_one_of l.known.keys path ≡ is_one_of l.yielded path

use Rattle.byte_devices.specs.SlicesView.{slice_tree_seen}
use Rattle.byte_devices.proofs.SpelledTree.{ReadUpTo}
use Rattle.byte_devices.proofs.tree.SliceTree.new.Given as goal

abbrev pub invariant-loop-size : goal.invariant-loop-size
invariant-loop-size l = ReadUpTo l.paths l.sizes l.contents l.size-index l.path_at l.byte_at (slice_tree_seen l.tree).files

use Rattle.std.proofs.Common.{◌≡◌, [], length, drop}
use Rattle.support.specs.paths.Folder.{folder_of}
use Rattle.support.specs.paths.Paths.{follow_parts, parts_of}
use Rattle.support.proofs.paths.named.follow_parts.Given as goal

abbrev pub invariant-loop-part : goal.invariant-loop-part
invariant-loop-part l = follow_parts (folder_of l.folder) (drop (length l.yielded) (parts_of l.text)) ≡ follow_parts [] (parts_of l.text)

use Rattle.std.proofs.Common.{◌≡◌, length, IsUtf8}
use Rattle.support.specs.paths.Names.{plain_name}
use Rattle.support.proofs.paths.names.plain_name.Given as goal

abbrev pub invariant-loop-folder : goal.invariant-loop-folder
invariant-loop-folder l = (plain_name l.name ≡ plain_name l.fn.path) × IsUtf8 l.name

abbrev pub decreases-loop-folder : goal.decreases-loop-folder
decreases-loop-folder l = length l.name

use Rattle.std.proofs.Common.{drop, map}
use Rattle.code.specs.FormatStrings.{part_data}
use Rattle.expressions.specs.Contexts.{stand_of}
use Rattle.expressions.proofs.Filling.{Filled}
use Rattle.expressions.proofs.context.Context.fill.Given as goal

-- what was filled, and the parts that are left, are all
abbrev pub invariant-loop-part : goal.invariant-loop-part
invariant-loop-part g l =
    Filled l.line (map part_data l.parts) (map part_data (drop l.part-index l.parts)) l.made
    (stand_of g.T.Tree.seen g.O.Outputs.seen l.self)

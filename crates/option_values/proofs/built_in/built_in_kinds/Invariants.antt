use Rattle.std.proofs.Common.{◌≡◌, [], take, map}
use Rattle.std.specs.List.{fold}
use Rattle.option_values.specs.View.{kinds_in, row_in}
use Rattle.option_values.specs.BuiltIns.{add_kind}
use Rattle.option_values.proofs.built_in.built_in_kinds.Given as goal

abbrev pub invariant-loop-row : goal.invariant-loop-row
invariant-loop-row l = kinds_in l.kinds.entries ≡ fold add_kind [] (map row_in (take l.row-index l.row-items))

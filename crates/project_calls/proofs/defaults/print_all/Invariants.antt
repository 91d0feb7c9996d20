use Rattle.std.proofs.Common.{◌≡◌, map, drop, string_bytes}
use Rattle.values.specs.View.{items_of}
use Rattle.project_calls.specs.Defaults.{printed_all, printed_behind}
use Rattle.project_calls.proofs.defaults.print_all.Given as goal

-- what is printed and what is left decide
abbrev pub invariant-loop-value : goal.invariant-loop-value
invariant-loop-value l = printed_behind (map string_bytes l.texts.items) (items_of (drop l.value-index l.values)) ≡ printed_all (items_of l.values)

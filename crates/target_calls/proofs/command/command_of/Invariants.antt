use Rattle.std.proofs.Common.{◌≡◌, map, drop}
use Rattle.values.specs.View.{data_of}
use Rattle.sources.specs.HolesView.{place_view}
use Rattle.target_calls.specs.Commands.{no_part}
use Rattle.target_calls.specs.CommandsView.{part_view}
use Rattle.target_calls.specs.LongCommands.{no_lists, short_behind}
use Rattle.target_calls.specs.LongCommandsView.{had_view}
use Rattle.world.specs.HereView.{here_view}
use Rattle.target_calls.proofs.command.command_of.Given as goal

-- the parts so far, the lists that they had, and the values that are left decide
abbrev pub invariant-loop-value : goal.invariant-loop-value
invariant-loop-value l =
    short_behind (here_view l.here) (place_view l.place) (part_view l.whole) (had_view l.had) (map (λ v. data_of v.now) (drop l.value-index l.values))
    ≡ short_behind (here_view l.here) (place_view l.place) no_part no_lists (map (λ v. data_of v.now) l.values)

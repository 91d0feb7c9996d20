-- Defines the view of what is known of the lists of paths that a command has had.
use Rattle.target_calls.specs.LongCommands.{HadData}
use Rattle.target_calls.specs.declared.repeated_lists.HadLists.{HadLists}

-- Returns it as plain data.
abbrev pub had_view : HadLists → HadData
had_view h = record { paths = h.paths; lists = h.lists.keys }

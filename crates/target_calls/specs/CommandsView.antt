-- Defines the view of a part of a command.
use Rattle.std.specs.Prelude.{map}
use Rattle.build.specs.edge.Texts.{texts}
use Rattle.build.specs.View.{source_view}
use Rattle.target_calls.specs.Commands.{PartData}
use Rattle.target_calls.specs.declared.command.Part.{Part}

-- Returns the plain data of a part of a command.
abbrev pub part_view : Part → PartData
part_view p = record { words = texts p.words.items; needs = map source_view p.needs.items }

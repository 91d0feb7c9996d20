-- Defines the view of what was found at the path of a definition file.
use Rattle.world.specs.Finding.{FoundData, nothing, too_long, bytes}
use Rattle.world.specs.declared.definition_files.lookup.Found.{Found}
use Rattle.world.specs.declared.definition_files.lookup.Found.TheVariants as found

-- Returns the data of a search's result, with the bytes of the file without their place in memory.
abbrev pub found_in : Found → FoundData
found_in found.Nothing = nothing
found_in found.TooLong = too_long
found_in (found.Bytes bs) = bytes bs.items

-- Defines how contracts see outputs on a disk. No program can know whether a disk stores what it accepts. So these definitions are closed:
-- a user of the outputs can prove neither that they tell nor that they don't. Only the user of the program can know it.
pub mod Closed
use Rattle.std.specs.Prelude.{ℕ, Bool, false, List, [], Option, option_map, string_bytes}
use Rattle.ports.specs.Outputs.{Event, OutputState}
use Rattle.ports.specs.declared.disk_file.DiskOutput.{DiskOutput}

-- Returns the events that a disk took.
pub taken_by_disk : List Event
taken_by_disk = []

-- Returns whether the disk took exactly what its calls say.
pub disk_tells : Bool
disk_tells = false

module _ {W : Type 0} where
  -- Returns the name with which an output was opened.
  abbrev pub name_of : DiskOutput W → List ℕ
  name_of output = string_bytes output.paths.name

  -- Returns the state of outputs on a disk, given the output that is open, if there is one, and the count of the disk's failures.
  abbrev pub disk_state : Option (DiskOutput W) → ℕ → OutputState
  disk_state current failures =
      record { events = taken_by_disk; open_name = option_map name_of current; failures = failures; tells = disk_tells }

-- Defines the statuses of the calls for C.
use Rattle.std.specs.Prelude.{◌≡◌, ℕ, List}
use Rattle.command_line.specs.declared.line.Task.{Task}
use Rattle.machine_file.specs.Answers.{MachineSaid}
use Rattle.world.specs.Deed.{Files}
use Rattle.embedding.specs.Answers.{Ends, Keeps}
use Rattle.embedding.specs.Given.{GivenData}
use Rattle.embedding.specs.declared.ending.Ending.{Ending}
use Rattle.embedding.specs.declared.ending.Ending.TheVariants as ends

-- Returns the status of each ending.
abbrev pub status_of : Ending → ℕ
status_of ends.Done = 0
status_of ends.Fault = 1
status_of ends.Memory = 3
status_of ends.Settings = 4
status_of ends.Slices = 5

-- Returns the record of these slices, in the order of the arguments of the calls for C.
abbrev pub given_as : (paths sizes contents words machine source_root build_folder : List ℕ) → GivenData
given_as paths sizes contents words machine source_root build_folder = record {
  paths = paths;
  sizes = sizes;
  contents = contents;
  words = words;
  machine = machine;
  source_root = source_root;
  build_folder = build_folder;
}

-- Holds if the status is that of an ending for which `Ends` holds.
abbrev pub EndsWith : Task → GivenData → Files → List (List ℕ) → MachineSaid → ℕ → List ℕ → ℕ → Type 0
EndsWith task given files options said status room len =
    (e : Ending) × (status ≡ status_of e) × Ends task given files options said e room len

-- Holds if the status is that of an ending for which `Keeps` holds.
abbrev pub KeepsAt : ℕ → List ℕ → List ℕ → ℕ → Type 0
KeepsAt status old new len = (e : Ending) × (status ≡ status_of e) × Keeps e old new len

-- Defines `install_headers`, `install_data` and `install_man`.
use Rattle.std.specs.Prelude.{List, [], ◌∷◌, Option, None}
use Rattle.arguments.specs.Arguments.{ArgumentsData}
use Rattle.values.specs.Data.{Data}
use Rattle.build.specs.project.World.{InstallData}
use Rattle.world.specs.Declaring.{add_install}
use Rattle.world.specs.Deed.{Deed, give, read, ◌>>=◌}
use Rattle.world.specs.Fit.{deed_of_result}
use Rattle.resource_calls.specs.Destinations.{SaidData, folders_in, said_of}
use Rattle.resource_calls.specs.NamedFiles.{files_required}
use Rattle.resource_calls.specs.declared.destinations.Sort.{Sort}

-- Returns which files are installed where, and refuses arguments that break a rule with E9.
unfoldable pub said_installs : Sort → ArgumentsData → Deed SaidData
said_installs sort a = do
  facts ← read
  deed_of_result (said_of (folders_in facts) sort a)

-- Records each installed file.
unfoldable pub all_installed : List InstallData → Deed (Unit {0})
all_installed [] = give tt
all_installed (i ∷ is) = do
  _ ← add_install i
  all_installed is

-- Defines `install_headers(files..)` and its like, by the sort of file. Refuses with E9, and with E14 for the first missing file.
unfoldable pub install : Sort → ArgumentsData → Deed (Option Data)
install sort a = do
  said ← said_installs sort a
  _ ← files_required said.named
  _ ← all_installed said.installs
  give None

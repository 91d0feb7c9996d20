-- Defines where files are installed: `install_headers`, `install_data` and `install_man` of the page "Reference manual".
use Rattle.std.specs.Prelude.{List, [], Option, Some, None, Ok, option_map, codes}
use Rattle.arguments.specs.Arguments.{ArgumentsData}
use Rattle.arguments.specs.Given.{text_given, text_of}
use Rattle.arguments.specs.Each.{each_said}
use Rattle.arguments.specs.Leaves.{leaves_from}
use Rattle.arguments.specs.Said.{Said, ◌>>=◌, found_value}
use Rattle.arguments.specs.declared.rule.Rule.TheVariants as rules
use Rattle.build.specs.edge.Texts.{Path, Text}
use Rattle.support.specs.paths.Below.{path_below}
use Rattle.build.specs.project.World.{InstallData}
use Rattle.support.specs.paths.Names.{plain_name}
use Rattle.resources.specs.Installs.{destination, headers_folder, man_folder}
use Rattle.sources.specs.Sources.{NamedData, tree, built, sources_of}
use Rattle.world.specs.Here.{HereData, here_of}
use Rattle.world.specs.Options.{option_text}
use Rattle.world.specs.World.{Facts}
use Rattle.resource_calls.specs.declared.destinations.Sort.{Sort}
use Rattle.resource_calls.specs.declared.destinations.Sort.TheVariants as sorts

-- The place of the call, the directories of the options `prefix`, `includedir`, `datadir` and `mandir`, and the name of the project.
pub record FoldersData : Type 0 where
  pub here : HereData
  pub prefix : Path
  pub includedir : Path
  pub datadir : Path
  pub mandir : Path
  pub project : Text

-- Returns the directories of the present project.
abbrev pub folders_in : Facts → FoldersData
folders_in facts = record {
  here = here_of facts;
  prefix = option_text facts.options (codes "prefix");
  includedir = option_text facts.options (codes "includedir");
  datadir = option_text facts.options (codes "datadir");
  mandir = option_text facts.options (codes "mandir");
  project = facts.project.surroundings.facts.name;
}

-- ---- directories

-- Returns the default directory. Headers are installed to `includedir` and the keyword `subdir`, data to `datadir` and the project's name.
-- A man page is installed to the section of its name's last digit in `mandir`; it must have one (E9).
abbrev pub usual_folder : FoldersData → Sort → ArgumentsData → Text → Option Path
usual_folder folders sorts.Header a name = Some (headers_folder folders.includedir (text_of (codes "subdir") a))
usual_folder folders sorts.Data a name = Some (path_below folders.datadir folders.project)
usual_folder folders sorts.ManPage a name = man_folder folders.mandir name

-- Returns the given directory, and otherwise the default one.
abbrev pub given_or : Option Path → Path → Path
given_or (Some given) usual = given
given_or None usual = usual

-- Returns the directory of the keyword `install_dir`, and otherwise the default one.
abbrev pub install_folder : FoldersData → Sort → ArgumentsData → Text → Option Path
install_folder folders sort a name = option_map (given_or (text_given (codes "install_dir") a)) (usual_folder folders sort a name)

-- ---- files

-- Returns a file by its absolute path, and where it is installed: in its directory below `prefix`, or in that directory itself if it is
-- absolute.
abbrev pub install_at : FoldersData → Sort → ArgumentsData → (root path : Path) → Option InstallData
install_at folders sort a root path =
    option_map (λ folder. record { source = path_below root path; destination = destination folders.prefix folder (plain_name path) })
    (install_folder folders sort a (plain_name path))

-- Returns where a named file is installed. A target cannot be installed like this.
abbrev pub install_of : FoldersData → Sort → ArgumentsData → NamedData → Option InstallData
install_of folders sort a (tree path) = install_at folders sort a folders.here.source_root path
install_of folders sort a (built path) = install_at folders sort a folders.here.build_root path
install_of folders sort a _ = None

-- Returns the path of a named file, which is empty for a target.
abbrev pub path_said : NamedData → Path
path_said (tree path) = path
path_said (built path) = path
path_said _ = []

-- Returns where a named file is installed. A file that cannot be installed breaks a rule.
abbrev pub destination_of_file : FoldersData → Sort → ArgumentsData → NamedData → Said InstallData
destination_of_file folders sort a n = found_value (install_of folders sort a n) rules.IsManPage (path_said n)

-- ---- the call

-- The files that the call names, and what is installed.
pub record SaidData : Type 0 where
  pub named : List NamedData
  pub installs : List InstallData

-- Returns what a call with these files installs.
abbrev pub said_from : FoldersData → Sort → ArgumentsData → List NamedData → Said SaidData
said_from folders sort a named = do
  installs ← each_said (destination_of_file folders sort a) [] named
  Ok (record { named = named; installs = installs })

-- Returns what the call installs, or its refusal. Each path must be below the source root, and each man page needs a section.
abbrev pub said_of : FoldersData → Sort → ArgumentsData → Said SaidData
said_of folders sort a = do
  named ← sources_of folders.here.source_root folders.here.folder (leaves_from 0 a)
  said_from folders sort a named

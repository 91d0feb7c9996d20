-- Defines where the outputs of a custom target are installed.
use Rattle.std.specs.Prelude.{ℕ, List, [], ◌∷◌, codes, if◌then◌else◌}
use Rattle.arguments.specs.Arguments.{ArgumentsData}
use Rattle.arguments.specs.Given.{text_of}
use Rattle.build.specs.edge.Texts.{Path, Text}
use Rattle.support.specs.paths.Below.{path_below}
use Rattle.support.specs.paths.Paths.{path_in}
use Rattle.build.specs.project.World.{InstallData}
use Rattle.build.specs.Data.{Build, Custom, CustomData, TargetData}
use Rattle.world.specs.Declaring.{add_install, add_target}
use Rattle.world.specs.Deed.{Deed, give, read, ◌>>=◌}
use Rattle.world.specs.Options.{option_text}
use Rattle.world.specs.World.{Facts}

-- The build directory, the folder of the definition file, and the directory where outputs are installed.
pub record WayData : Type 0 where
  pub build_root : Path
  pub folder : Path
  pub destination : Path

-- Returns where outputs are installed: to `install_dir` below `prefix`, or to `install_dir` itself if it is absolute.
abbrev pub way_of : Facts → ArgumentsData → WayData
way_of facts a = record {
  build_root = facts.settings.build_root;
  folder = facts.folder;
  destination = path_below (option_text facts.options (codes "prefix")) (text_of (codes "install_dir") a);
}

-- Returns where an output is installed.
abbrev pub output_install : WayData → Text → InstallData
output_install way name = record {
  source = path_below way.build_root (path_in way.folder name);
  destination = path_below way.destination name;
}

-- Returns the outputs of a custom target that is installed, and none for any other.
abbrev pub custom_names : CustomData → List Text
custom_names t = if t.is_installed then t.outputs else []

-- Returns the outputs that are installed.
abbrev pub installed_names : TargetData → List Text
installed_names (Build t) = []
installed_names (Custom t) = custom_names t

-- Records where each output is installed.
unfoldable pub all_noted : WayData → List Text → Deed (Unit {0})
all_noted way [] = give tt
all_noted way (name ∷ names) = do
  _ ← add_install (output_install way name)
  all_noted way names

-- Declares the target, and records where its outputs are installed.
unfoldable pub add_custom : ArgumentsData → TargetData → Deed ℕ
add_custom a t = do
  facts ← read
  n ← add_target t
  _ ← all_noted (way_of facts a) (installed_names t)
  give n

-- Defines `configure_file`, which makes a file while the definition files are evaluated.
use Rattle.std.specs.Prelude.{ℕ, Bool, true, false, [], Option, Some, None, codes, bytes_eq, option_map}
use Rattle.arguments.specs.Arguments.{ArgumentsData}
use Rattle.arguments.specs.Given.{keyword, text_given, text_of}
use Rattle.values.specs.Data.{Data, object, text}
use Rattle.values.specs.Limits.{within_bytes}
use Rattle.values.specs.declared.object.Object.TheVariants as objects
use Rattle.build.specs.edge.Texts.{Path, Text}
use Rattle.arguments.specs.declared.rule.Rule.TheVariants as rules
use Rattle.support.specs.declared.faults.refusal.Refusal.TheVariants as refusals
use Rattle.support.specs.paths.Below.{path_below}
use Rattle.support.specs.paths.Paths.{path_in}
use Rattle.support.specs.paths.Names.{is_file_name}
use Rattle.build.specs.project.World.{InstallData}
use Rattle.resources.specs.Installs.{destination}
use Rattle.world.specs.Configuring.{freeze_configured}
use Rattle.world.specs.Declaring.{add_install}
use Rattle.world.specs.Deed.{Deed, give, read, make, ◌>>=◌, answer_or_refusal, need}
use Rattle.world.specs.Fit.{deed_of_result}
use Rattle.world.specs.Ruled.{obeyed_rule}
use Rattle.world.specs.Making.{Filling}
use Rattle.world.specs.Options.{option_text}
use Rattle.world.specs.World.{Facts}
use Rattle.configuration_calls.specs.Given.{GivenData, configuration_given}
use Rattle.configuration_calls.specs.Inputs.{input_named}
use Rattle.configuration_calls.specs.Written.{header_filling, template_at, template_filling}

-- ---- the arguments

-- Holds if a format is `'meson'`. Other formats are not supported.
abbrev pub is_meson : Data → Bool
is_meson (text t) = bytes_eq t (codes "meson")
is_meson _ = false

-- Holds if the format is absent or `'meson'`.
abbrev pub fits_format : Option Data → Bool
fits_format None = true
fits_format (Some d) = is_meson d

-- Holds if the call has no `format`, or the format `'meson'`.
abbrev pub has_meson_format : ArgumentsData → Bool
has_meson_format a = fits_format (keyword (codes "format") a)

-- Returns the path of the template, and refuses with E9 an `input` that names none.
unfoldable pub input_given : ArgumentsData → Deed (Option Path)
input_given a = do
  facts ← read
  deed_of_result (input_named facts.settings.source_root facts.folder a)

-- Returns the values of `configuration`, and refuses with E9 any value other than configuration data or a dictionary.
unfoldable pub values_given : ArgumentsData → Deed GivenData
values_given a = do
  facts ← read
  deed_of_result (configuration_given facts a)

-- ---- where the output is installed

-- Returns where the output is installed, given its path in the build directory: in a directory below `prefix`, or in one that is absolute.
abbrev pub install_at : Facts → (path : Path) (name : Text) (folder : Path) → InstallData
install_at facts path name folder = record {
  source = path_below facts.settings.build_root path;
  destination = destination (option_text facts.options (codes "prefix")) folder name;
}

-- Records an installed file, if there is one.
unfoldable pub noted_install : Option InstallData → Deed (Unit {0})
noted_install None = give tt
noted_install (Some install) = add_install install

-- Records that the output is installed if there is an `install_dir`.
unfoldable pub installed_output : (path : Path) → ArgumentsData → Deed (Unit {0})
installed_output path a = do
  facts ← read
  noted_install (option_map (install_at facts path (text_of (codes "output") a)) (text_given (codes "install_dir") a))

-- ---- the call

-- Freezes configuration data. A dictionary has nothing to freeze.
unfoldable pub frozen_by : Option ℕ → Deed (Unit {0})
frozen_by None = give tt
frozen_by (Some number) = freeze_configured number

-- Runs before the output is opened: its path must be within the limit of a text (E22), and the data is frozen.
unfoldable pub prepared_path : Path → Option ℕ → Deed Path
prepared_path path number = do
  given ← answer_or_refusal (within_bytes path)
  _ ← frozen_by number
  give given

-- Makes the output in the present folder (E21, E11), and returns its path.
unfoldable pub output_made : ArgumentsData → GivenData → Filling → Deed Path
output_made a values filling = do
  facts ← read
  make facts.folder (text_of (codes "output") a) (prepared_path (path_in facts.folder (text_of (codes "output") a)) values.number) filling

-- Makes the output, records its installation, and returns it as a file.
unfoldable pub output_file : ArgumentsData → GivenData → Filling → Deed (Option Data)
output_file a values filling = do
  path ← output_made a values filling
  _ ← installed_output path a
  give (Some (object (objects.File path true)))

-- Makes the output with a template or without one.
unfoldable pub configured_output : ArgumentsData → Option Path → GivenData → Deed (Option Data)
configured_output a None values = output_file a values (header_filling values.entries)
configured_output a (Some path) values = do
  bytes ← template_at path
  output_file a values (template_filling values.entries path bytes)

-- Defines `configure_file()`. Refuses with E9, E14, E21, E11. Refuses with E19 or E22 at the first bad line of the template, after the
-- lines before it are written.
unfoldable pub configure_file : ArgumentsData → Deed (Option Data)
configure_file a = do
  _ ← need (has_meson_format a) refusals.LeftOut []
  _ ← obeyed_rule (is_file_name (text_of (codes "output") a)) rules.IsFileName (text_of (codes "output") a)
  input ← input_given a
  values ← values_given a
  configured_output a input values

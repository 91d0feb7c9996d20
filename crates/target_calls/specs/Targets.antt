-- Defines the functions that declare an executable or a library.
use Rattle.std.specs.Prelude.{ℕ, Option, Some, bytes_eq, codes, if◌then◌else◌}
use Rattle.arguments.specs.Arguments.{ArgumentsData}
use Rattle.values.specs.Data.{Data, object}
use Rattle.values.specs.declared.object.Object.TheVariants as objects
use Rattle.option_values.specs.Values as option
use Rattle.option_values.specs.Settings.{value_named}
use Rattle.build.specs.project.Adding.{is_fit}
use Rattle.build.specs.Data.{TargetData}
use Rattle.build.specs.declared.target.TargetKind.{TargetKind}
use Rattle.build.specs.declared.target.TargetKind.TheVariants as kinds
use Rattle.world.specs.Declaring.{add_target}
use Rattle.world.specs.Deed.{Deed, give, read, ◌>>=◌}
use Rattle.world.specs.Fit.{deed_of_result}
use Rattle.world.specs.Ruled.{obeyed_rule}
use Rattle.target_calls.specs.FitBreaches.{fit_breach}
use Rattle.target_calls.specs.BuildTargets.{NamedTargetData, declared_target}
use Rattle.target_calls.specs.Files.{all_required}
use Rattle.world.specs.Here.{here_of}
use Rattle.target_calls.specs.Installs.{install_of, noted_install}

-- Returns what the arguments declare, and refuses those that break a rule with E9.
unfoldable pub target_of_arguments : TargetKind → ArgumentsData → Deed NamedTargetData
target_of_arguments kind a = do
  facts ← read
  deed_of_result (declared_target (here_of facts) kind a)

-- Refuses a target that the project cannot have, for its names, sources or libraries (E9).
unfoldable pub required_fit : TargetData → Deed (Unit {0})
required_fit t = do
  facts ← read
  obeyed_rule (is_fit facts.project t) (fit_breach facts.project t).0 (fit_breach facts.project t).1

-- Declares the target, and records where its file is installed.
unfoldable pub add_installed : ArgumentsData → TargetData → Deed ℕ
add_installed a t = do
  facts ← read
  n ← add_target t
  _ ← noted_install (install_of facts a t)
  give n

-- Defines `executable`, `static_library` and `shared_library`, by the kind. Refuses with E9; with E14 for the first missing file in the
-- order of the arguments; and with E21, E11 and E22.
unfoldable pub declare : TargetKind → ArgumentsData → Deed (Option Data)
declare kind a = do
  d ← target_of_arguments kind a
  _ ← required_fit d.target
  _ ← all_required d.files
  n ← add_installed a d.target
  give (Some (object (objects.BuildTarget n)))

-- Returns what `library` makes for this value of the option `default_library`.
abbrev pub library_kind : Option option.Value → TargetKind
library_kind (Some (option.Combo choice)) = if bytes_eq choice (codes "static") then kinds.StaticLibrary else kinds.SharedLibrary
library_kind _ = kinds.SharedLibrary

-- Declares a static library if the option `default_library` is `static`, and otherwise a shared one (`library`).
unfoldable pub library : ArgumentsData → Deed (Option Data)
library a = do
  facts ← read
  declare (library_kind (value_named facts.options (codes "default_library"))) a

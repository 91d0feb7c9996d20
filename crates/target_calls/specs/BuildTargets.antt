-- Defines an executable or a library, from the arguments of a call: `executable` and its like on the page "Reference manual".
use Rattle.std.specs.Prelude.{Bool, true, false, List, [], ◌++◌, codes, flat_map, Option, Some, None, Ok, option_and_then}
use Rattle.std.specs.Fmt.{signed_decimal}
use Rattle.arguments.specs.Arguments.{ArgumentsData}
use Rattle.arguments.specs.Given.{flag, keyword, text_at, text_given, text_of, texts}
use Rattle.arguments.specs.Leaves.{leaves_from, leaves_named}
use Rattle.arguments.specs.Said.{Said, ◌>>=◌, found_value, kept_rule}
use Rattle.arguments.specs.declared.rule.Rule.TheVariants as rules
use Rattle.values.specs.Data.{Data, integer, text}
use Rattle.build.specs.edge.Texts.{Path, Text}
use Rattle.build.specs.Data.{Build, BuildData, ListsData, SourceData, TargetData}
use Rattle.build.specs.declared.target.TargetKind.{TargetKind}
use Rattle.sources.specs.Folders.{folders_of}
use Rattle.sources.specs.Libraries.{numbers_of}
use Rattle.sources.specs.Sources.{NamedData, sources_of}
use Rattle.sources.specs.Versions.{is_library_version}
use Rattle.target_calls.specs.Dependencies.{dependencies_of}
use Rattle.world.specs.Here.{HereData}
use Rattle.target_calls.specs.Sources.{file_in, sources_in}

-- ---- the keywords of a shared library

-- Holds if `version` is absent, or is one to three numbers separated by dots.
abbrev pub version_fits : Option Text → Bool
version_fits None = true
version_fits (Some version) = is_library_version version

-- Returns a text, or the decimal digits of an integer.
abbrev pub number_in : Data → Option Text
number_in (text t) = Some t
number_in (integer z) = Some (signed_decimal z)
number_in _ = None

-- Returns the keyword `soversion`, if it is given.
abbrev pub soversion_given : ArgumentsData → Option Text
soversion_given a = option_and_then number_in (keyword (codes "soversion") a)

-- ---- lists

-- Returns the sources that a call gives: those after the target's name, then those of the keyword.
abbrev pub source_values : ArgumentsData → List Data
source_values a = leaves_from 1 a ++ leaves_named (codes "sources") a

-- Returns the sources that a call names. Each path must be below the source root.
abbrev pub named_sources : HereData → ArgumentsData → Said (List NamedData)
named_sources here a = sources_of here.source_root here.folder (source_values a)

-- Returns the lists that the target has itself, without those of dependencies. Each include directory must be below the source root.
abbrev pub own_lists : HereData → ArgumentsData → List SourceData → Said ListsData
own_lists here a sources = do
  folders ← folders_of here.source_root here.folder (leaves_named (codes "include_directories") a)
  libraries ← found_value (numbers_of (leaves_named (codes "link_with") a)) rules.TakesLibraries (codes "link_with")
  Ok (record {
    sources = sources;
    include_folders = folders;
    compile_args = texts (codes "c_args") a;
    link_args = texts (codes "link_args") a;
    link_with = libraries;
  })

-- ---- the target

-- Returns the target. It is built by default and not installed, unless the call says otherwise.
abbrev pub build_target : HereData → TargetKind → ArgumentsData → (own : ListsData) (dependencies : List ListsData) → BuildData
build_target here kind a own dependencies = record {
  kind = kind;
  folder = here.folder;
  name = text_at 0 a;
  own = own;
  dependencies = dependencies;
  version = text_given (codes "version") a;
  soversion = soversion_given a;
  is_default = flag (codes "build_by_default") true a;
  is_installed = flag (codes "install") false a;
}

-- A target, and the source files that the call requires.
pub record NamedTargetData : Type 0 where
  pub target : TargetData
  pub files : List Path

-- Returns what a call with these sources declares. No source of the call or of a dependency may be an output that no target has.
abbrev pub declared_from : HereData → TargetKind → ArgumentsData → List NamedData → Said NamedTargetData
declared_from here kind a named = do
  sources ← found_value (sources_in here.earlier named) rules.NamesFile []
  own ← own_lists here a sources
  dependencies ← found_value (dependencies_of here.earlier (leaves_named (codes "dependencies") a)) rules.NamesFile []
  Ok (record { target = Build (build_target here kind a own dependencies); files = flat_map file_in named })

-- Returns what a call declares, or its refusal. Checked are `version`, then the paths of sources, and then those of directories.
unfoldable pub declared_target : HereData → TargetKind → ArgumentsData → Said NamedTargetData
declared_target here kind a = do
  _ ← kept_rule (version_fits (text_given (codes "version") a)) rules.IsLibraryVersion (text_of (codes "version") a)
  named ← named_sources here a
  declared_from here kind a named

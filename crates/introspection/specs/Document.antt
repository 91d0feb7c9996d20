-- Defines the introspection document of a project: one JSON value that shows it to other programs. The members of an object are in the
-- order of their keys.
use Rattle.std.specs.Prelude.{List, [], ◌∷◌, map, fold, codes}
use Rattle.serde_json.specs.Data.{Data, boolean, number, string, array, object, Members, no_members, put}
use Rattle.serde_json.specs.Find.{of_integer}
use Rattle.serde_json.specs.View.{items_of}
use Rattle.serde_json.specs.Written.{compact_text}
use Rattle.build.specs.edge.Texts.{Path, Text}
use Rattle.build.specs.Data.{FactsData, OptionData, text, boolean as truth, integer, texts, OptionEntryData}
use Rattle.build.specs.Data.{BuildData, CustomData, TargetData, Build, Custom}
use Rattle.support.specs.paths.Paths.{path_in}
use Rattle.build.specs.Files.{file_path, output_paths}
use Rattle.build.specs.declared.facts.OptionType.{OptionType}
use Rattle.build.specs.declared.facts.OptionType.TheVariants as types
use Rattle.build.specs.declared.target.TargetKind.{TargetKind}
use Rattle.build.specs.declared.target.TargetKind.TheVariants.{Executable, StaticLibrary, SharedLibrary}
use Rattle.build.specs.project.World.{WorldData, AnswerData, InstallData, TestData}

-- ---- JSON

-- Returns a JSON array.
abbrev pub list : List Data → Data
list values = array (items_of values)

-- Returns a JSON array of strings.
abbrev pub strings : List Text → Data
strings ts = list (map string ts)

-- Adds one key with its value.
abbrev pub with_field : Members → Text × Data → Members
with_field ms f = put f.0 f.1 ms

-- Returns an object of these keys with their values.
abbrev pub fields : List (Text × Data) → Data
fields fs = object (fold with_field no_members fs)

-- ---- the options of the build, first the built-in ones, then the declared ones: name, type and value of each

-- Returns the name of an option's type.
abbrev pub type_name : OptionType → Text
type_name types.String = codes "string"
type_name types.Boolean = codes "boolean"
type_name types.Combo = codes "combo"
type_name types.Integer = codes "integer"
type_name types.Array = codes "array"
type_name types.Feature = codes "feature"

-- Returns an option's value as a text, a truth value, a number or a list of texts.
abbrev pub option_value : OptionData → Data
option_value (text t) = string t
option_value (truth b) = boolean b
option_value (integer n) = number (of_integer n)
option_value (texts ts) = strings ts

-- Returns the entry of an option.
abbrev pub option_entry : OptionEntryData → Data
option_entry o =
    fields ((codes "name", string o.name) ∷ (codes "type", string (type_name o.kind)) ∷ (codes "value", option_value o.value) ∷ [])

-- Returns the entries of all options.
abbrev pub build_options : WorldData → Data
build_options w = list (map option_entry w.surroundings.facts.options)

-- ---- what the build reads: the paths of the tree that were looked at, each once in the order of the first look

-- Returns the paths that were looked at.
abbrev pub files_read : WorldData → Data
files_read w = fields ((codes "absent", strings w.absent) ∷ (codes "present", strings w.present) ∷ [])

-- ---- the dependencies: the result of each call of `dependency`, in order

-- Returns the entry of a call of `dependency`.
abbrev pub dependency_entry : AnswerData → Data
dependency_entry a =
    fields ((codes "found", boolean a.is_found) ∷ (codes "name", string a.name) ∷ (codes "version", string a.version) ∷ [])

-- Returns the entries of all calls of `dependency`.
abbrev pub dependencies : WorldData → Data
dependencies w = list (map dependency_entry w.dependencies)

-- ---- the installed files: the destination of each, under its absolute path; the last destination of a file counts

-- Adds a file that is installed.
abbrev pub with_installed : Members → InstallData → Members
with_installed ms i = put i.source (string i.destination) ms

-- Returns the destinations of the installed files.
abbrev pub installed_files : WorldData → Data
installed_files w = object (fold with_installed no_members w.installs)

-- ---- the project

-- Returns the license, the name and the version of a project.
abbrev pub project_entry : FactsData → Data
project_entry f = fields ((codes "license", strings f.license) ∷ (codes "name", string f.name) ∷ (codes "version", string f.version) ∷ [])

-- Returns the license, the name and the version of the project.
abbrev pub project_info : WorldData → Data
project_info w = project_entry w.surroundings.facts

-- ---- the targets, in the order of their declaration

-- Returns the name of a kind of build target.
abbrev pub kind_name : TargetKind → Text
kind_name Executable = codes "executable"
kind_name StaticLibrary = codes "static library"
kind_name SharedLibrary = codes "shared library"

-- Returns the definition file of a folder.
unfoldable pub definition_file : Path → Path
definition_file folder = path_in folder (codes "meson.build")

-- Returns the entry of a build target. It shows the file that the target makes, by its path in the build directory, but not the symbolic
-- links to it.
abbrev pub build_entry : BuildData → Data
build_entry t =
    fields ((codes "build_by_default", boolean t.is_default)
    ∷ (codes "defined_in", string (definition_file t.folder))
    ∷ (codes "filename", strings (file_path t ∷ []))
    ∷ (codes "installed", boolean t.is_installed)
    ∷ (codes "name", string t.name)
    ∷ (codes "type", string (kind_name t.kind))
    ∷ [])

-- Returns the entry of a custom target, with the paths of its outputs in the build directory.
abbrev pub custom_entry : CustomData → Data
custom_entry t =
    fields ((codes "build_by_default", boolean t.is_default)
    ∷ (codes "defined_in", string (definition_file t.folder))
    ∷ (codes "filename", strings (output_paths t))
    ∷ (codes "installed", boolean t.is_installed)
    ∷ (codes "name", string t.name)
    ∷ (codes "type", string (codes "custom"))
    ∷ [])

-- Returns the entry of a target.
abbrev pub target_entry : TargetData → Data
target_entry (Build t) = build_entry t
target_entry (Custom t) = custom_entry t

-- Returns the entries of all targets.
abbrev pub targets : WorldData → Data
targets w = list (map target_entry w.targets)

-- ---- the tests, in the order of their declaration: the command's words, the environment as texts `K=V`, the timeout in seconds

-- Returns the entry of a test.
abbrev pub test_entry : TestData → Data
test_entry t =
    fields ((codes "cmd", strings t.command)
    ∷ (codes "env", strings t.environment)
    ∷ (codes "name", string t.name)
    ∷ (codes "should_fail", boolean t.should_fail)
    ∷ (codes "suite", strings t.suites)
    ∷ (codes "timeout", number (of_integer t.timeout))
    ∷ [])

-- Returns the entries of all tests.
abbrev pub tests : WorldData → Data
tests w = list (map test_entry w.tests)

-- ---- the document

-- Returns the document of a project.
unfoldable pub document_of : WorldData → Data
document_of w =
    fields ((codes "buildoptions", build_options w)
    ∷ (codes "buildsystem_files", files_read w)
    ∷ (codes "dependencies", dependencies w)
    ∷ (codes "installed", installed_files w)
    ∷ (codes "projectinfo", project_info w)
    ∷ (codes "targets", targets w)
    ∷ (codes "tests", tests w)
    ∷ [])

-- Returns the text of the document, with no space between its parts and no newline at its end.
abbrev pub document_text : WorldData → Text
document_text w = compact_text (document_of w)

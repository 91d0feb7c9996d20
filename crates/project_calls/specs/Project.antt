-- Defines `project`.
use Rattle.std.specs.Prelude.{ℕ, not, List, [], ◌∷◌, ◌++◌, Option, Some, None, codes, unwrap_or, option_and_then, if◌then◌else◌}
use Rattle.std.specs.Prelude.{Result, Ok, Err, refl}
use Rattle.std.specs.Str.{bytes_eq}
use Rattle.values.specs.Data.{Data, entry_values, keys_in, text_in}
use Rattle.values.specs.declared.refusal.OperationRefusal.{OperationRefusal as OperationRefusal}
use Rattle.support.specs.declared.faults.refusal.Refusal.TheVariants as refusals
use Rattle.arguments.specs.Arguments.{ArgumentsData}
use Rattle.arguments.specs.Given.{keyword, text_at, texts, texts_from}
use Rattle.arguments.specs.Rules.{breach_message}
use Rattle.arguments.specs.declared.rule.Rule.TheVariants as rules
use Rattle.world.specs.Details.{refuse_about}
use Rattle.options.specs.Faults.{OptionFaultData, file_of, line_of}
use Rattle.options.specs.Resolves.{Resolution}
use Rattle.option_values.specs.Settings.{Setting}
use Rattle.project_calls.specs.Defaults.{entries_given, first_unprinted, printed_values}
use Rattle.project_calls.specs.OptionFile.{option_file}
use Rattle.project_calls.specs.Entries.{entries_in}
use Rattle.project_calls.specs.Flags.{flags_in}
use Rattle.project_calls.specs.Programs.{ProgramsData, programs}
use Rattle.project_calls.specs.Resolution.{resolution}
use Rattle.build.specs.Data.{FactsData}
use Rattle.world.specs.World.{Facts, with_options}
use Rattle.world.specs.Deed.{Deed, give, refuse, need, read, change, begin_project, ◌>>=◌, say}
use Rattle.world.specs.Operation.{of_operation}

-- Returns the arguments after the name: the languages.
abbrev pub texts_behind : ArgumentsData → List (List ℕ)
texts_behind a = texts_from 1 a

-- Returns the first language that is not C.
abbrev pub other_language : List (List ℕ) → Option (List ℕ)
other_language [] = None
other_language (l ∷ ls) = if bytes_eq l (codes "c") then other_language ls else Some l

-- Refuses a language other than C (E23).
unfoldable pub only_c : Option (List ℕ) → Deed (Unit {0})
only_c None = give tt
only_c (Some language) = refuse refusals.LeftOut (breach_message rules.IsC language)

-- Checks the languages of a project: at least one, and only C.
unfoldable pub languages_taken : List (List ℕ) → Deed (Unit {0})
languages_taken [] = refuse refusals.ProjectCall (codes "'project': names no language")
languages_taken (l ∷ ls) = only_c (other_language (l ∷ ls))

-- ---- the options

-- Returns printed values, or refuses with this name.
unfoldable pub printed_or : Result (List (List ℕ)) OperationRefusal → List ℕ → Deed (List (List ℕ))
printed_or (Ok texts) name = give texts
printed_or (Err refusal) name = refuse (of_operation refusal) (breach_message rules.IsPrinted name)

-- Returns the printed values of a dictionary of defaults, or refuses with the name of the first that cannot be printed.
unfoldable pub defaults_printed : ArgumentsData → Deed (List (List ℕ))
defaults_printed a = printed_or (printed_values a) (first_unprinted (keys_in (entries_given a)) (entry_values (entries_given a)))

-- Warns the user of names that no option has.
unfoldable pub option_warnings : List (List ℕ) → Deed (Unit {0})
option_warnings [] = give tt
option_warnings (name ∷ names) = do
  _ ← say ((codes "WARNING: unknown option " ++ name) ++ codes "\n")
  option_warnings names

-- Returns the options with their values, or refuses the first fault of a value at its place, where `path` is the path of the option file.
unfoldable pub settled_options : List ℕ → Result (List Setting) OptionFaultData → ℕ → Deed (List Setting)
settled_options path (Ok settings) call = give settings
settled_options path (Err fault) call = refuse_about (file_of path fault.place) (line_of call fault.place) fault.refusal fault.detail

-- ---- facts of the project

-- Returns the keyword `version`, which is `undefined` by default.
abbrev pub version_of : ArgumentsData → List ℕ
version_of a = unwrap_or (option_and_then text_in (keyword (codes "version") a)) (codes "undefined")

-- Returns the facts of the project: from the arguments of the call, the directories, the programs of the machine and the options.
abbrev pub facts_of : ArgumentsData → List Setting → ProgramsData → Facts → FactsData
facts_of a options programs facts = record {
  name = text_at 0 a;
  version = version_of a;
  license = texts (codes "license") a;
  depth = facts.settings.depth;
  source_root = facts.settings.source_root;
  build_root = facts.settings.build_root;
  compiler = programs.compiler;
  archiver = programs.archiver;
  flags = flags_in options;
  options = entries_in options;
}

-- Writes the warnings, requests the programs, sets the options, and begins the project.
unfoldable pub begin : ArgumentsData → List ℕ → Resolution → Deed (Unit {0})
begin a path r = do
  _ ← option_warnings r.unknown
  call ← read
  options ← settled_options path r.outcome call.line
  found ← programs
  facts ← read
  _ ← change (with_options options) (λ facts. refl)
  begin_project (facts_of a options found facts)

-- Defines `project(name, language.., version:, license:, default_options:, meson_version:)`. Refuses a second call with any arguments. The
-- required version of Meson has no effect.
unfoldable pub project : ArgumentsData → Deed (Option Data)
project a = do
  facts ← read
  _ ← need (not facts.is_begun) refusals.ProjectCall (codes "'project': was called before")
  printed ← defaults_printed a
  _ ← languages_taken (texts_behind a)
  file ← option_file
  options ← resolution a printed file.declared
  _ ← begin a file.path options
  give None

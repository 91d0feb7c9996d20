-- Defines what a value that a place gives means.
use Rattle.std.specs.Prelude.{ℕ, ◌+◌, Bool, true, false, ◌&&◌, List, [], ◌∷◌, map, Option, Some, None, codes, if◌then◌else◌, bytes_eq}
use Rattle.std.specs.Option.{option_map}
use Rattle.syntax.specs.lexer.Bytes.{equals}
use Rattle.machine_file.specs.Files as machine
use Rattle.machine_file.specs.Texts.{Parts, cut_first}
use Rattle.machine_file.specs.Values as written
use Rattle.option_values.specs.BuiltIns.{built_in_kind}
use Rattle.option_values.specs.Kinds.{Kind}
use Rattle.option_values.specs.Values.{Value}
use Rattle.option_values.specs.Given.{value_of_given}
use Rattle.options.specs.option_file.Declarations.{Declaration}
use Rattle.options.specs.option_file.Lookups.{option_named}
use Rattle.options.specs.declared.fault.Origin.{Origin}
use Rattle.options.specs.declared.fault.Origin.TheVariants.{Declared, Project, MachineFile, CommandLine}
use Rattle.options.specs.declared.known_options.OptionScope.{OptionScope}
use Rattle.options.specs.declared.known_options.OptionScope.TheVariants.{BuiltIn, OfProject}
use Rattle.options.specs.Faults.{OptionFaultData}
use Rattle.options.specs.Misfits.{MisfitData, NoOption, NoSign, Both, NoValue, NoDefault, refusal_of, words_of}
use Rattle.option_values.specs.Settings.{Setting}
use Rattle.options.specs.Defaults.{default_of}

-- An option takes a value, or no option has this name and the user is warned, or the value is refused.
pub data Verdict : Type 0 where
  Sets : (setting : Setting) → Verdict
  Warns : (name : List ℕ) → Verdict
  Refuses : (fault : OptionFaultData) → Verdict

-- Returns the verdict of a place whose value is refused.
abbrev pub refusing_verdict : Origin → MisfitData → Verdict
refusing_verdict place m = Refuses (record { place = place; refusal = refusal_of m; detail = words_of m })

-- ---- the declarations

-- Returns the verdict of a declaration with this default, or with none.
abbrev pub of_default : Declaration → Option Value → Verdict
of_default d None = refusing_verdict (Declared d.line) (NoDefault d.name d.kind d.value)
of_default d (Some v) = Sets (record { name = d.name; value = v; given = false })

-- Returns the verdict of a declaration, which sets its option to its default.
unfoldable pub of_declaration : Declaration → Verdict
of_declaration d = of_default d (default_of d)

-- ---- the names that a place knows

-- Returns what the declared option with this name takes.
unfoldable pub declared_kind : List Declaration → List ℕ → Option Kind
declared_kind ds name = option_map (λ d. d.kind) (option_named ds name)

-- Returns what the option takes: the built-in one with this name, or else the declared one.
abbrev pub or_declared : List Declaration → List ℕ → Option Kind → Option Kind
or_declared ds name None = declared_kind ds name
or_declared ds name (Some kind) = Some kind

-- Returns what the option with this name takes, built-in or declared.
unfoldable pub kind_named : List Declaration → List ℕ → Option Kind
kind_named ds name = or_declared ds name (built_in_kind name)

-- ---- the places

-- Returns whether the value is `both` of `default_library`, which is left out. It is known, so it has a refusal of its own.
abbrev pub is_both : List ℕ → written.Value → Bool
is_both name (written.Text text) = bytes_eq name (codes "default_library") && bytes_eq text (codes "both")
is_both name _ = false

-- Returns what is wrong with something that is no value of the option.
abbrev pub misfit_of : List ℕ → Kind → written.Value → MisfitData
misfit_of name kind what = if is_both name what then Both else NoValue name kind what

-- Returns the verdict of a place that gives an option a value, or something that the option does not take.
abbrev pub of_value : Origin → List ℕ → MisfitData → Option Value → Verdict
of_value place name otherwise None = refusing_verdict place otherwise
of_value place name otherwise (Some v) = Sets (record { name = name; value = v; given = true })

-- Returns the verdict of a place that gives an option of this kind what is written there.
unfoldable pub of_kind : Origin → List ℕ → written.Value → Kind → Verdict
of_kind place name what kind = of_value place name (misfit_of name kind what) (value_of_given kind what)

-- Returns the verdict of a place that gives a value to a name that no option has. Only `default_options` may do so.
abbrev pub unknown_at : Origin → List ℕ → Verdict
unknown_at (Declared line) name = refusing_verdict (Declared line) (NoOption name)
unknown_at Project name = Warns name
unknown_at (MachineFile line) name = refusing_verdict (MachineFile line) (NoOption name)
unknown_at (CommandLine number) name = refusing_verdict (CommandLine number) (NoOption name)

-- Returns the verdict of a place that gives a value to the option with a name, if there is such an option.
abbrev pub of_named : Origin → List ℕ → written.Value → Option Kind → Verdict
of_named place name what None = unknown_at place name
of_named place name what (Some kind) = of_kind place name what kind

-- Returns the verdict of a name and a value, or of a text without `=`.
abbrev pub of_parts : List Declaration → Origin → List ℕ → Option Parts → Verdict
of_parts ds place text None = refusing_verdict place (NoSign text)
of_parts ds place text (Some parts) = of_named place parts.0 (written.Text parts.1) (kind_named ds parts.0)

-- Returns the verdict of a text of `default_options` or an argument of the command line: a name, and a value after the first `=`.
unfoldable pub of_assignment : List Declaration → Origin → List ℕ → Verdict
of_assignment ds place text = of_parts ds place text (cut_first equals text)

-- An item of `default_options`: a text of its list, or an entry of its dictionary, whose name may have an `=` in it.
pub data Default : Type 0 where
  Assignment : (text : List ℕ) → Default
  Entry : (name value : List ℕ) → Default

-- Returns the verdict of an item of `default_options`.
unfoldable pub of_project_default : List Declaration → Default → Verdict
of_project_default ds (Assignment text) = of_assignment ds Project text
of_project_default ds (Entry name value) = of_named Project name (written.Text value) (kind_named ds name)

-- Returns the verdicts of arguments of the command line, the first of which has this number.
unfoldable pub of_words : List Declaration → ℕ → List (List ℕ) → List Verdict
of_words ds number [] = []
of_words ds number (word ∷ words) = of_assignment ds (CommandLine number) word ∷ of_words ds (number + 1) words

-- Returns which options a section of the machine file knows, if it gives options values: the built-in or the declared ones.
abbrev pub scope_of : List ℕ → Option OptionScope
scope_of section =
    if bytes_eq section (codes "built-in options") then Some BuiltIn
    else (if bytes_eq section (codes "project options") then Some OfProject
    else None)

-- Returns what the option with this name takes that a section knows.
abbrev pub kind_in_scope : OptionScope → List Declaration → List ℕ → Option Kind
kind_in_scope BuiltIn ds name = built_in_kind name
kind_in_scope OfProject ds name = declared_kind ds name

-- Returns the verdict of a key of the machine file, which must name an option that its section knows.
unfoldable pub of_entry : List Declaration → OptionScope → machine.Entry → Verdict
of_entry ds scope e = of_named (MachineFile e.line) e.key e.value (kind_in_scope scope ds e.key)

-- Returns the verdicts of the entries of a section, if it gives options values.
abbrev pub of_entries : List Declaration → List machine.Entry → Option OptionScope → List Verdict
of_entries ds entries None = []
of_entries ds entries (Some scope) = map (of_entry ds scope) entries

-- Returns the verdicts of a section of the machine file.
unfoldable pub of_section : List Declaration → machine.Section → List Verdict
of_section ds s = of_entries ds s.entries (scope_of s.name)

-- Defines the functions of the Meson manual's page "Reference manual", on evaluated arguments.
use Rattle.std.specs.Prelude.{Bool, false, not, ◌&&◌, Option, None, codes, if◌then◌else◌, [], ◌∷◌}
use Rattle.values.specs.Data.{Data}
use Rattle.arguments.specs.Arguments.{ArgumentsData}
use Rattle.arguments.specs.Disablers.{gives_disabler}
use Rattle.support.specs.declared.faults.refusal.Refusal.TheVariants as refusals
use Rattle.arguments.specs.declared.row.ArgumentKind.TheVariants.{Any, Boolean, Integer, Text}
use Rattle.arguments.specs.Row.{RowData}
use Rattle.arguments.specs.Rows.{any_values, some_texts, values}
use Rattle.configuration_calls.specs.ConfigureFile.{has_meson_format}
use Rattle.configuration_calls.specs.Rows.{other_format_row}
use Rattle.world.specs.Deed.{Deed, give, ◌>>=◌, need}
use Rattle.world.specs.Fit.{fit}
use Rattle.language_calls.specs.Disablers.{disabler_value, tell_disabler}
use Rattle.language_calls.specs.JoinPaths.{join_paths}
use Rattle.language_calls.specs.Messages.{message, warning, error, assert}
use Rattle.interp.specs.ProjectFunctions.{project_function, project_function_row}
use Rattle.project_calls.specs.Project.{project}
use Rattle.language_calls.specs.Range.{range}
use Rattle.project_calls.specs.Rows.{project_row}
use Rattle.language_calls.specs.Rows.{subdir_row}
use Rattle.language_calls.specs.Variables.{set_variable, get_variable, is_variable, unset_variable}
use Rattle.values.specs.declared.language_names.functions.Function.{Function}
use Rattle.values.specs.declared.language_names.functions.Function.TheVariants as functions
use Rattle.language_calls.specs.Turning.{makes_file}

-- Returns what arguments a function takes.
abbrev pub row_of : Function → RowData
row_of functions.Assert = values (Boolean ∷ Text ∷ []) 1
row_of functions.Disabler = values [] 0
row_of functions.Error = any_values
row_of functions.GetVariable = values (Text ∷ Any ∷ []) 1
row_of functions.IsDisabler = values (Any ∷ []) 1
row_of functions.IsVariable = values (Text ∷ []) 1
row_of functions.JoinPaths = some_texts
row_of functions.Message = any_values
row_of (functions.OfProject f) = project_function_row f
row_of functions.Project = project_row
row_of functions.Range = values (Integer ∷ Integer ∷ Integer ∷ []) 1
row_of functions.SetVariable = values (Text ∷ Any ∷ []) 2
row_of functions.Subdir = subdir_row
row_of functions.SubdirDone = values [] 0
row_of functions.UnsetVariable = values (Text ∷ []) 1
row_of functions.Warning = any_values

-- Runs a function on arguments that its row accepts. It may have no value.
abbrev pub does : Function → ArgumentsData → Deed (Option Data)
does functions.Assert a = assert a
does functions.Disabler a = disabler_value
does functions.Error a = error a
does functions.GetVariable a = get_variable a
does functions.IsDisabler a = tell_disabler a
does functions.IsVariable a = is_variable a
does functions.JoinPaths a = join_paths a
does functions.Message a = message a
does (functions.OfProject f) a = project_function f a
does functions.Project a = project a
does functions.Range a = range a
does functions.SetVariable a = set_variable a
-- Does nothing but enter the folder, which is defined elsewhere.
does functions.Subdir a = give None
-- Does nothing as a part of an expression. As a statement it ends the file.
does functions.SubdirDone a = give None
does functions.UnsetVariable a = unset_variable a
does functions.Warning a = warning a

-- Returns whether `configure_file` gets a format other than `'meson'`, which is left out.
abbrev pub has_other_format : Function → ArgumentsData → Bool
has_other_format f a = makes_file f && not (has_meson_format a)

-- Returns what a function takes if it gets these arguments.
abbrev pub row_for : Function → ArgumentsData → RowData
row_for f a = if has_other_format f a then other_format_row else row_of f

-- Returns whether `project` gets a disabler. It does not turn the call off, and `project` does not take it.
abbrev pub has_unwanted_disabler : Function → ArgumentsData → Bool
has_unwanted_disabler functions.Project a = gives_disabler a
has_unwanted_disabler f a = false

-- Refuses a disabler among the arguments of `project` (E9).
unfoldable pub without_disabler : Function → ArgumentsData → Deed (Unit {0})
without_disabler f a = need (not (has_unwanted_disabler f a)) refusals.Arguments (codes "arguments: takes no disabler")

-- Calls a function on its arguments, after checking them against its row. A disabler among the arguments of `project` is E9, even if its
-- row accepts it.
unfoldable pub call : Function → ArgumentsData → Deed (Option Data)
call f a = do
  _ ← fit (row_for f a) a
  _ ← without_disabler f a
  does f a

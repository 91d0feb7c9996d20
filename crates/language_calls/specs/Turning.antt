-- Defines what a disabler among the arguments does to a call.
use Rattle.std.specs.Prelude.{Bool, true, false, not, ◌&&◌}
use Rattle.arguments.specs.Arguments.{ArgumentsData}
use Rattle.arguments.specs.Disablers.{gives_disabler}
use Rattle.values.specs.declared.language_names.functions.Function.{Function}
use Rattle.values.specs.declared.language_names.functions.Function.TheVariants as functions
use Rattle.values.specs.declared.language_names.functions.ProjectFunction.TheVariants as of_project

-- Holds if a function takes a disabler like any other value.
abbrev pub takes_disablers : Function → Bool
takes_disablers functions.GetVariable = true
takes_disablers functions.IsDisabler = true
takes_disablers functions.IsVariable = true
takes_disablers functions.Project = true
takes_disablers functions.SetVariable = true
takes_disablers functions.UnsetVariable = true
takes_disablers f = false

-- Holds if a disabler among the arguments turns the call off. Such a call returns a disabler, does nothing and refuses nothing.
abbrev pub is_turned_off : Function → ArgumentsData → Bool
is_turned_off f a = not (takes_disablers f) && gives_disabler a

-- Holds if a function is `configure_file`.
abbrev pub makes_file : Function → Bool
makes_file (functions.OfProject of_project.ConfigureFile) = true
makes_file f = false

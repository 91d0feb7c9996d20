-- Defines the final values of the options of a project.
use Rattle.std.specs.Prelude.{ℕ, List, [], ◌∷◌, ◌++◌, map, fold, Option, Some, None, Result, Ok, Err}
use Rattle.std.specs.List.{flat_map}
use Rattle.machine_file.specs.Files as machine
use Rattle.options.specs.option_file.Declarations.{Declaration}
use Rattle.options.specs.Faults.{OptionFaultData}
use Rattle.option_values.specs.Settings.{Setting, settings_with, built_in_settings}
use Rattle.options.specs.Verdicts.{Verdict, Sets, Warns, Refuses, Default, of_declaration, of_project_default, of_section, of_words}
use Rattle.options.specs.FillIns.{filled_in}

-- The state after some values: the names that no option has, the options with their values, and the first fault.
pub record State : Type 0 where
  pub unknown : List (List ℕ)
  pub settings : List Setting
  pub fault : Option OptionFaultData

-- Returns what is known after one more verdict.
abbrev pub after_verdict : State → Verdict → State
after_verdict s (Sets setting) = record s { settings = settings_with setting s.settings }
after_verdict s (Warns name) = record s { unknown = s.unknown ++ name ∷ [] }
after_verdict s (Refuses fault) = record s { fault = Some fault }

-- Returns what is known after one more verdict, which changes nothing after a fault.
abbrev pub unless_fault : Option OptionFaultData → State → Verdict → State
unless_fault None s v = after_verdict s v
unless_fault (Some fault) s v = s

-- Adds one more verdict. After a fault, further verdicts change nothing.
unfoldable pub next : State → Verdict → State
next s v = unless_fault s.fault s v

-- Returns all verdicts in the order in which they are checked. The last one of an option holds. The places are the declared defaults,
-- `default_options`, the machine file in the order of its lines, and the words.
abbrev pub verdicts : List Declaration → List Default → List machine.Section → List (List ℕ) → List Verdict
verdicts ds defaults sections words =
    map of_declaration ds
    ++ (map (of_project_default ds) defaults ++ (flat_map (of_section ds) sections ++ of_words ds 1 words))

-- Returns the options that every project has, with their defaults.
unfoldable pub at_first : State
at_first = record { unknown = []; settings = built_in_settings; fault = None }

-- Returns the fault if there is one, and else the options after everything is filled in.
abbrev pub outcome_of : Option OptionFaultData → List Setting → Result (List Setting) OptionFaultData
outcome_of (Some fault) ss = Err fault
outcome_of None ss = Ok (filled_in ss)

-- The names of unknown options in `default_options`, in order and up to the first fault, and the options or this fault.
pub record Resolution : Type 0 where
  pub unknown : List (List ℕ)
  pub outcome : Result (List Setting) OptionFaultData

-- Returns the result of what is known after all values.
abbrev pub resolution_of : State → Resolution
resolution_of s = record { unknown = s.unknown; outcome = outcome_of s.fault s.settings }

-- Returns the options of a project with these declarations, this `default_options`, these sections of a machine file and these words.
unfoldable pub resolved_options : List Declaration → List Default → List machine.Section → List (List ℕ) → Resolution
resolved_options ds defaults sections words = resolution_of (fold next at_first (verdicts ds defaults sections words))

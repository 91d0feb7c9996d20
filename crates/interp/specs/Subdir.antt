-- Defines what a call of `subdir` does, up to the folder that it enters.
use Rattle.std.specs.Prelude.{ℕ, Bool, true, false, List, Option, Some, None, codes}
use Rattle.values.specs.Data.{Data}
use Rattle.arguments.specs.Arguments.{ArgumentsData}
use Rattle.arguments.specs.Dependencies.{are_found}
use Rattle.arguments.specs.Disablers.{gives_disabler}
use Rattle.arguments.specs.Given.{keyword, text_at}
use Rattle.arguments.specs.Misfits.{arguments_check}
use Rattle.interp.specs.Functions.{row_of}
use Rattle.values.specs.declared.language_names.functions.Function.{Function}
use Rattle.values.specs.declared.language_names.functions.Function.TheVariants as functions
use Rattle.world.specs.Plan.{Plan, ◌>>=◌, give, at}
use Rattle.interp.specs.declared.statement_calls.Action.{Action}
use Rattle.interp.specs.declared.statement_calls.Action.TheVariants.{Call, Enter, Leave}
use Rattle.interp.specs.declared.flow.Flow.{Flow}
use Rattle.interp.specs.declared.flow.Flow.TheVariants.{Next}
use Rattle.expressions.specs.Forms.{check_at_line}

-- The statement has ended, or the folder that a text names is entered.
pub data AfterCallData : Type 0 where
  Ends : Flow → AfterCallData
  Enters : List ℕ → AfterCallData

-- Returns what a function does as a statement: `subdir` enters a folder, `subdir_done` leaves the file, and others are called.
abbrev pub action_of : Function → Action
action_of functions.Subdir = Enter
action_of functions.SubdirDone = Leave
action_of f = Call

-- Returns whether all dependencies of `if_found` are found.
abbrev pub found_or : Option Data → Bool
found_or None = true
found_or (Some d) = are_found d

-- Returns whether the keyword `if_found` lets `subdir` enter its folder.
abbrev pub is_wanted : ArgumentsData → Bool
is_wanted a = found_or (keyword (codes "if_found") a)

-- Enters the folder of a call of `subdir`, or passes over it.
abbrev pub after_subdir : Bool → ArgumentsData → AfterCallData
after_subdir true a = Enters (text_at 0 a)
after_subdir false a = Ends Next

-- Does nothing if a disabler turns `subdir` off, and else enters its folder.
abbrev pub subdir_unless : Bool → ℕ → ArgumentsData → Plan AfterCallData
subdir_unless true line a = give (Ends Next)
subdir_unless false line a = do
  _ ← check_at_line line (arguments_check (row_of functions.Subdir) a)
  _ ← at line
  give (after_subdir (is_wanted a) a)

-- Runs `subdir`. A disabler among its arguments turns it off.
abbrev pub subdir_call : ℕ → ArgumentsData → Plan AfterCallData
subdir_call line a = subdir_unless (gives_disabler a) line a

-- Continues in this way. `into` is what the run does to enter the folder that a text names.
abbrev pub on_call_end : (List ℕ → Plan Flow) → AfterCallData → Plan Flow
on_call_end into (Ends flow) = give flow
on_call_end into (Enters text) = into text

-- Defines what a call does that is a statement.
use Rattle.std.specs.Prelude.{ℕ, Bool, true, false, List, string_bytes}
use Rattle.syntax.specs.ExpressionTree.{ArgumentTrees}
use Rattle.arguments.specs.Arguments.{ArgumentsData, no_arguments}
use Rattle.arguments.specs.Disablers.{gives_disabler}
use Rattle.arguments.specs.Misfits.{arguments_check}
use Rattle.interp.specs.Functions.{row_of}
use Rattle.values.specs.declared.language_names.functions.Function.{Function}
use Rattle.values.specs.declared.language_names.functions.Function.TheVariants as functions
use Rattle.world.specs.Plan.{Plan, ◌>>=◌, give}
use Rattle.interp.specs.declared.statement_calls.Action.{Action}
use Rattle.interp.specs.declared.statement_calls.Action.TheVariants.{Call, Enter, Leave}
use Rattle.interp.specs.declared.statement_calls.AfterCall.{AfterCall}
use Rattle.interp.specs.declared.statement_calls.AfterCall.TheVariants as ways
use Rattle.interp.specs.declared.flow.Flow.{Flow}
use Rattle.interp.specs.declared.flow.Flow.TheVariants.{Next, Finished}
use Rattle.interp.specs.Subdir.{AfterCallData, Ends, Enters, action_of, on_call_end, subdir_call}
use Rattle.expressions.specs.Forms.{check_at_line, function_at}
use Rattle.interp.specs.Expressions.{arguments_of, plan_of_call}

-- Returns the way in which a statement ends, without its place in memory.
abbrev pub after_call_view : AfterCall → AfterCallData
after_call_view (ways.Ends flow) = Ends flow
after_call_view (ways.Enters text) = Enters (string_bytes text)

-- Does nothing if a disabler turns `subdir_done` off, and else ends the file.
abbrev pub subdir_done_unless : Bool → ℕ → ArgumentsData → Plan Flow
subdir_done_unless true line a = give Next
subdir_done_unless false line a = do
  _ ← check_at_line line (arguments_check (row_of functions.SubdirDone) a)
  give Finished

-- Runs `subdir_done`. A disabler among its arguments turns it off.
abbrev pub subdir_done_call : ℕ → ArgumentsData → Plan Flow
subdir_done_call line a = subdir_done_unless (gives_disabler a) line a

-- Calls a function, and drops its value.
abbrev pub call_for_effect : ℕ → Function → ArgumentsData → Plan Flow
call_for_effect line f a = do
  _ ← plan_of_call line f a
  give Next

-- `into` is what the run does to enter the folder that a text names.
module _ (into : List ℕ → Plan Flow) where
  -- Runs a function as a statement, by what it does as one.
  abbrev pub call_by_action : Action → ℕ → Function → ArgumentsData → Plan Flow
  call_by_action Enter line f a = do
    way ← subdir_call line a
    on_call_end into way
  call_by_action Leave line f a = subdir_done_call line a
  call_by_action Call line f a = call_for_effect line f a

  -- Runs a function as a statement, on evaluated arguments.
  abbrev pub call_statement : ℕ → Function → ArgumentsData → Plan Flow
  call_statement line f a = call_by_action (action_of f) line f a

  -- Runs a call by its name.
  abbrev pub named_call : ℕ → List ℕ → ArgumentTrees → Plan Flow
  named_call line name es = do
    f ← function_at line name
    a ← arguments_of into no_arguments es
    call_statement line f a

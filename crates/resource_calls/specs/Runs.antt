-- Defines what a test runs, and with which environment variables.
use Rattle.std.specs.Prelude.{List, Option, Some, Ok}
use Rattle.arguments.specs.Arguments.{ArgumentsData}
use Rattle.arguments.specs.Given.{argument, text_at}
use Rattle.arguments.specs.Said.{Said, ◌>>=◌, found_value}
use Rattle.arguments.specs.declared.rule.Rule.{Rule}
use Rattle.arguments.specs.declared.rule.Rule.TheVariants as rules
use Rattle.values.specs.Data.{Data, object}
use Rattle.values.specs.declared.object.Object.{Object}
use Rattle.values.specs.declared.object.Object.TheVariants as objects
use Rattle.build.specs.edge.Texts.{Text}
use Rattle.resources.specs.Testing.{environment}
use Rattle.resource_calls.specs.TestCommands.{command_given}
use Rattle.world.specs.Here.{HereData}

-- The command of a test, and its environment variables.
pub record RunData : Type 0 where
  pub command : List Text
  -- Texts `NAME=VALUE`.
  pub environment : List Text

-- Returns the rule that something that cannot run breaks: a program was not found, and anything else is a library.
abbrev pub object_rule : Object → Rule
object_rule (objects.Program p) = rules.RunsProgram
object_rule _ = rules.RunsNoLibrary

-- Returns the rule that a program that cannot run breaks.
abbrev pub program_rule : Option Data → Rule
program_rule (Some (object o)) = object_rule o
program_rule _ = rules.RunsNoLibrary

-- Returns the command and the variables of a call, or its refusal. A program that cannot run breaks a rule, and the detail is the test's
-- name.
abbrev pub run_of : HereData → ArgumentsData → Said RunData
run_of here a = do
  command ← found_value (command_given here a) (program_rule (argument 1 a)) (text_at 0 a)
  variables ← environment a
  Ok (record { command = command; environment = variables })

-- Defines the view of what a test runs.
use Rattle.build.specs.edge.Texts.{texts}
use Rattle.resource_calls.specs.Runs.{RunData}
use Rattle.resource_calls.specs.declared.runs.Run.{Run}

-- Returns the plain data of what a test runs.
abbrev pub run_view : Run → RunData
run_view r = record { command = texts r.command.items; environment = texts r.environment.items }

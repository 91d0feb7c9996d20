-- Defines `test`, which declares a test of the project.
use Rattle.std.specs.Prelude.{ℤ, pos, false, Option, None, codes, Result, Ok, Err}
use Rattle.arguments.specs.Arguments.{ArgumentsData}
use Rattle.arguments.specs.Given.{flag, integer_of, text_at, texts}
use Rattle.values.specs.Data.{Data}
use Rattle.values.specs.declared.refusal.OperationRefusal.{OperationRefusal}
use Rattle.build.specs.project.World.{TestData}
use Rattle.resources.specs.Testing.{seconds_of}
use Rattle.world.specs.Declaring.{add_test}
use Rattle.world.specs.Deed.{Deed, give, read, ◌>>=◌, answer_or_refusal}
use Rattle.world.specs.Fit.{deed_of_result}
use Rattle.world.specs.Here.{here_of}
use Rattle.resource_calls.specs.Runs.{RunData, run_of}

-- Returns what runs, and with which variables. Refuses arguments that break a rule with E9.
unfoldable pub said_run : ArgumentsData → Deed RunData
said_run a = do
  facts ← read
  deed_of_result (run_of (here_of facts) a)

-- Returns the test with this timeout.
abbrev pub test_of : ArgumentsData → RunData → ℤ → TestData
test_of a run seconds = record {
  name = text_at 0 a;
  command = run.command;
  environment = run.environment;
  suites = texts (codes "suite") a;
  should_fail = flag (codes "should_fail") false a;
  timeout = seconds;
}

-- Returns the seconds of the keyword `timeout`, which are 30 by default, and E7 if they do not fit in 64 bits.
abbrev pub seconds_given : ArgumentsData → Result ℤ OperationRefusal
seconds_given a = seconds_of (integer_of (codes "timeout") (pos 30) a)

-- Returns the test, or the refusal of its timeout.
abbrev pub with_seconds : ArgumentsData → RunData → Result ℤ OperationRefusal → Result TestData OperationRefusal
with_seconds a run (Ok seconds) = Ok (test_of a run seconds)
with_seconds a run (Err refusal) = Err refusal

-- Returns the test that the arguments describe.
abbrev pub test_given : ArgumentsData → RunData → Result TestData OperationRefusal
test_given a run = with_seconds a run (seconds_given a)

-- Defines `test(name, program)`. Refuses with E9, and with E7 for the timeout.
unfoldable pub test : ArgumentsData → Deed (Option Data)
test a = do
  run ← said_run a
  t ← answer_or_refusal (test_given a run)
  _ ← add_test t
  give None

-- Defines the view of the values given to a call.
use Rattle.configuration_calls.specs.Given.{GivenData}
use Rattle.configuration_calls.specs.declared.configure_arguments.GivenValues.{GivenValues}

-- Returns the plain data of the values given to a call.
abbrev pub given_view : GivenValues → GivenData
given_view g = record { entries = g.values.entries; number = g.number }

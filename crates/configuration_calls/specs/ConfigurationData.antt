-- Defines `configuration_data`.
use Rattle.std.specs.Prelude.{Option, Some}
use Rattle.arguments.specs.Arguments.{ArgumentsData}
use Rattle.arguments.specs.Given.{argument}
use Rattle.values.specs.Data.{Data, object}
use Rattle.values.specs.declared.object.Object.TheVariants as objects
use Rattle.template.specs.Config.{Configuration}
use Rattle.world.specs.Configuring.{add_configuration}
use Rattle.world.specs.Deed.{Deed, give, ◌>>=◌}
use Rattle.world.specs.Fit.{deed_of_result}
use Rattle.configuration_calls.specs.Given.{data_given}

-- Returns the data that the arguments describe. Refuses with E9 a key that is no name, and a value that is no text, integer or boolean.
unfoldable pub said_data : ArgumentsData → Deed Configuration
said_data a = deed_of_result (data_given (argument 0 a))

-- Defines `configuration_data(dictionary)`: data with the values of the dictionary, which is optional.
unfoldable pub configuration_data : ArgumentsData → Deed (Option Data)
configuration_data a = do
  c ← said_data a
  number ← add_configuration c
  give (Some (object (objects.ConfigurationData number)))

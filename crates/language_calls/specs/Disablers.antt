-- Defines `disabler` and `is_disabler`.
use Rattle.std.specs.Prelude.{false, Option, Some, unwrap_or, option_map}
use Rattle.values.specs.Data.{Data, boolean, is_disabler}
use Rattle.operations.specs.operators.Operations.{disabler}
use Rattle.arguments.specs.Arguments.{ArgumentsData}
use Rattle.arguments.specs.Given.{argument}
use Rattle.world.specs.Deed.{Deed, give}

-- Returns a disabler object (`disabler`).
unfoldable pub disabler_value : Deed (Option Data)
disabler_value = give (Some disabler)

-- Returns whether the argument is a disabler (`is_disabler`). A list that contains a disabler is not one.
unfoldable pub tell_disabler : ArgumentsData → Deed (Option Data)
tell_disabler a = give (Some (boolean (unwrap_or (option_map is_disabler (argument 0 a)) false)))

-- Defines the keywords of a call, without their place in memory.
use Rattle.std.specs.Prelude.{Option}
use Rattle.std.specs.Option.{option_map}
use Rattle.option_values.specs.declared.kind.OptionKind.{OptionKind}
use Rattle.option_values.specs.Kinds.{Kind}
use Rattle.option_values.specs.View.{choices_in, kind_in}
use Rattle.options.specs.declared.option_file.declaration.DeclaredValue.{DeclaredValue}
use Rattle.options.specs.declared.option_file.keyword.Keywords.{Keywords}
use Rattle.options.specs.option_file.Given as given
use Rattle.options.specs.option_file.Keywords as plain
use Rattle.options.specs.option_file.View.{given_in}

-- Returns the keywords of a call as plain data. The bounds `min` and `max` are its `least` and `greatest`.
abbrev pub keywords_in : Keywords → plain.Keywords
keywords_in k = record {
  kind = k.kind;
  value = option_map given_in k.value;
  choices = choices_in k.choices;
  least = k.min;
  greatest = k.max;
}

-- Returns what an option takes, and its default.
abbrev pub asked_in : OptionKind × Option DeclaredValue → Kind × Option given.Given
asked_in a = (kind_in a.0, option_map given_in a.1)

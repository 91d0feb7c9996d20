-- Reads configuration data from arguments.
use Rattle.std.specs.Prelude.{ℕ, [], Option, Some, None, Ok, Err, codes}
use Rattle.arguments.specs.Arguments.{ArgumentsData}
use Rattle.arguments.specs.Given.{keyword}
use Rattle.arguments.specs.Refused.{breaks}
use Rattle.arguments.specs.Said.{Said, ◌>>=◌, found_value}
use Rattle.arguments.specs.declared.rule.Rule.TheVariants as rules
use Rattle.values.specs.Data.{Data, dictionary, object}
use Rattle.values.specs.declared.object.Object.TheVariants as objects
use Rattle.template.specs.Config.{Configuration, Entries}
use Rattle.world.specs.Configuring.{configuration_at, no_values}
use Rattle.world.specs.World.{Facts}
use Rattle.configuration_calls.specs.Contents.{data_with, entries_in}

-- Returns the number of the configuration data of a value.
abbrev pub number_in : Data → Option ℕ
number_in (object (objects.ConfigurationData number)) = Some number
number_in _ = None

-- Returns the entries of the data with a number.
abbrev pub entries_of : Facts → ℕ → Entries
entries_of facts number = (configuration_at number facts.configurations).entries

-- The values given to a call, and the number of the data that has them. A dictionary has no number.
pub record GivenData : Type 0 where
  pub entries : Entries
  pub number : Option ℕ

-- Returns the values of a dictionary.
abbrev pub dictionary_given : Data → Said GivenData
dictionary_given (dictionary es) = do
  entries ← entries_in es
  Ok (record { entries = entries; number = None })
dictionary_given _ = Err (breaks rules.IsValueName [])

-- Returns the values of the data with a number, and otherwise those of a dictionary.
abbrev pub given_as : Option ℕ → Facts → Data → Said GivenData
given_as (Some number) facts d = Ok (record { entries = entries_of facts number; number = Some number })
given_as None facts d = dictionary_given d

-- Returns the values of configuration data or of a dictionary.
abbrev pub given_by : Facts → Data → Said GivenData
given_by facts d = given_as (number_in d) facts d

-- Returns the values of the keyword `configuration`.
abbrev pub configuration_given : Facts → ArgumentsData → Said GivenData
configuration_given facts a = do
  d ← found_value (keyword (codes "configuration") a) rules.IsValueName []
  given_by facts d

-- ---- `configuration_data`

-- Returns the configuration data of a dictionary, and refuses any other value.
abbrev pub data_in : Data → Said Configuration
data_in (dictionary es) = data_with (entries_in es)
data_in _ = Err (breaks rules.IsValueName [])

-- Returns data with the values of a dictionary, and without values if there is none.
abbrev pub data_given : Option Data → Said Configuration
data_given None = Ok no_values
data_given (Some d) = data_in d

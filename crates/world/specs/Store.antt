-- Defines the view of a store, and the world that it keeps.
use Rattle.std.specs.Prelude.{ℕ, Bool, List, [], Option, Some, None, option_map, option_and_then, slice_index_or}
use Rattle.code.specs.Names.{number_in}
use Rattle.values.specs.Data.{Data}
use Rattle.values.specs.View.{data_of}
use Rattle.values.specs.declared.value.Value.{Value}
use Rattle.machine_file.specs.Files.{Section}
use Rattle.option_values.specs.Settings.{Setting}
use Rattle.option_values.specs.SettingsView.{options_in}
use Rattle.option_values.specs.declared.settings.Options.{Options}
use Rattle.build.specs.project.World.{WorldData}
use Rattle.template.specs.Config.{Configuration}
use Rattle.world.specs.Settings.{SettingsData}
use Rattle.world.specs.World.{Asked, World, Facts, with_facts}

-- The world with the table of names. The value of each variable is in the slot with the number of its name.
pub record Kept : Type 0 where
  pub file : List ℕ
  pub folder : List ℕ
  pub line : ℕ
  pub settings : SettingsData
  pub names : List (List ℕ)
  -- The values of the variables, each in the slot with the number of its name. A variable without a value has none.
  pub slots : List (Option Value)
  pub machine : List Section
  pub options : List Setting
  -- The configuration data, by number.
  pub configurations : List Configuration
  -- Whether `project` was called.
  pub is_begun : Bool
  pub project : WorldData
  -- The folders that were entered, in order.
  pub entered : List (List ℕ)
  -- The paths that were looked at, in order.
  pub looked : List (List ℕ)
  -- The questions that were asked of the machine file, in order.
  pub asked : List Asked

-- Returns the options, if they are already set.
abbrev pub options_of : Option Options → List Setting
options_of None = []
options_of (Some options) = options_in options

-- Returns the value in a slot.
abbrev pub slot_value : List (Option Value) → ℕ → Option Data
slot_value slots number = option_map data_of (slice_index_or slots number None)

-- Returns the variables by name.
abbrev pub kept_variables : List (List ℕ) → List (Option Value) → List ℕ → Option Data
kept_variables names slots name = option_and_then (slot_value slots) (number_in name names)

-- Returns the world of a store.
abbrev pub world_of : Kept → World
world_of k = record {
  facts = record {
    file = k.file;
    folder = k.folder;
    line = k.line;
    settings = k.settings;
    variables = kept_variables k.names k.slots;
    options = k.options;
    configurations = k.configurations;
    is_begun = k.is_begun;
    project = k.project;
  };
  machine = k.machine;
  entered = k.entered;
  looked = k.looked;
  asked = k.asked;
}

-- Changes the facts of a world.
abbrev pub world_after_change : (Facts → Facts) → World → World
world_after_change f w = with_facts w (f w.facts)

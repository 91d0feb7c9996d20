-- Defines deeds on configuration data. An object refers to data by number, and the data exists. A number without data counts as data
-- without values, which no change reaches.
use Rattle.std.specs.Prelude.{ℕ, Bool, true, not, List, [], ◌∷◌, ◌++◌, length, slice_index_or, slice_set, refl}
use Rattle.support.specs.declared.faults.refusal.Refusal.TheVariants as refusals
use Rattle.template.specs.Config.{Configuration, Content, Bytes, entries_with_others, double_quoted_text, unfrozen_configuration}
use Rattle.template.specs.Config.{with_value}
use Rattle.world.specs.World.{Facts, with_configurations}
use Rattle.world.specs.Deed.{Deed, give, read, change, need, ◌>>=◌}

-- Returns configuration data without values, which is not frozen.
abbrev pub no_values : Configuration
no_values = unfrozen_configuration []

-- Returns the data with a number.
abbrev pub configuration_at : ℕ → List Configuration → Configuration
configuration_at number cs = slice_index_or cs number no_values

-- Holds if an output was already made with the data.
abbrev pub is_frozen_at : ℕ → List Configuration → Bool
is_frozen_at number cs = (configuration_at number cs).frozen

-- Returns all configuration data, with `f` applied to the data with a number.
abbrev pub configurations_after_change : (Configuration → Configuration) → ℕ → List Configuration → List Configuration
configurations_after_change f number cs = slice_set cs number (f (configuration_at number cs))

-- ---- changes of one configuration data

-- Returns frozen data with the same values.
abbrev pub frozen_configuration : Configuration → Configuration
frozen_configuration c = record c { frozen = true }

-- Returns the data with a name set to a value.
abbrev pub with_content : List ℕ → Content → Configuration → Configuration
with_content name content c = record c { entries = with_value c.entries name content }

-- Returns the data with each name of other data set to its value there.
abbrev pub merged_with : Configuration → Configuration → Configuration
merged_with other c = record c { entries = entries_with_others c.entries other.entries }

-- ---- changes of all configuration data

-- Returns the facts with further configuration data.
abbrev pub with_more : Configuration → Facts → Facts
with_more c facts = with_configurations (facts.configurations ++ c ∷ []) facts

-- Returns the facts with `f` applied to the data with a number.
abbrev pub with_configured : (Configuration → Configuration) → ℕ → Facts → Facts
with_configured f number facts = with_configurations (configurations_after_change f number facts.configurations) facts

-- ---- deeds

-- Adds configuration data, and returns its number.
unfoldable pub add_configuration : Configuration → Deed ℕ
add_configuration c = do
  facts ← read
  _ ← change (with_more c) (λ facts. refl)
  give (length facts.configurations)

-- Adds a copy of the configuration data with a number, and returns the number of the copy.
unfoldable pub copy_configuration : ℕ → Deed ℕ
copy_configuration number = do
  facts ← read
  add_configuration (unfrozen_configuration (configuration_at number facts.configurations).entries)

-- Changes configuration data, and refuses the call if it is frozen (E20).
unfoldable pub configure : ℕ → (Configuration → Configuration) → Deed (Unit {0})
configure number f = do
  facts ← read
  _ ← need (not (is_frozen_at number facts.configurations)) refusals.Frozen []
  change (with_configured f number) (λ facts. refl)

-- Sets a name to a value.
unfoldable pub set_configured : ℕ → List ℕ → Content → Deed (Unit {0})
set_configured number name content = configure number (with_content name content)

-- Sets a name to a text in quotes.
unfoldable pub set_quoted : ℕ → List ℕ → List ℕ → Deed (Unit {0})
set_quoted number name text = configure number (with_content name (Bytes (double_quoted_text text)))

-- Sets each name of other data to its value there.
unfoldable pub merge_configured : ℕ → Configuration → Deed (Unit {0})
merge_configured number other = configure number (merged_with other)

-- Freezes the data: no later call may change it.
unfoldable pub freeze_configured : ℕ → Deed (Unit {0})
freeze_configured number = change (with_configured frozen_configuration number) (λ facts. refl)

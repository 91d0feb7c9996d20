-- Defines settings, and the reasons why there are none.
use Rattle.std.specs.Prelude.{◌≡◌, ℕ, Bool, true, false, List, length, Result, Ok, Err}
use Rattle.support.specs.paths.Below.{is_absolute, path_below}
use Rattle.support.specs.paths.BuildFolders.{names_build_folder, tidy_path}
use Rattle.support.specs.paths.Paths.{parts_of}
use Rattle.world.specs.Settings.{SettingsData}
use Rattle.world.specs.SettingsView.{settings_view}
use Rattle.world.specs.declared.settings.Settings.{Settings}
use Rattle.world.specs.declared.settings.SettingsFault.{SettingsFault}
use Rattle.world.specs.declared.settings.SettingsFault.TheVariants as faults

-- Returns the settings for a build directory below this source root. The depth is the number of parts of the build directory's path. The
-- build root is the source root joined with it, as the operator `/` does.
abbrev pub settings_of : List ℕ → List ℕ → List (List ℕ) → SettingsData
settings_of root folder words = record {
  words = words;
  depth = length (parts_of (tidy_path folder));
  source_root = root;
  build_root = path_below root (tidy_path folder);
}

-- Holds if the source root is absolute, the build directory is valid, and these are the settings.
pub record IsMade (root folder : List ℕ) (words : List (List ℕ)) (made : SettingsData) : Type 0 where
  pub absolute : is_absolute root ≡ true
  pub below : names_build_folder folder ≡ true
  pub settings : made ≡ settings_of root folder words

-- Holds if the source root is absolute, and the build directory is not valid.
pub record IsNoFolder (root folder : List ℕ) : Type 0 where
  pub absolute : is_absolute root ≡ true
  pub outside : names_build_folder folder ≡ false

-- Holds if these are the settings, or this is the text at fault: the source root is checked first.
abbrev pub MakesSettings : List ℕ → List ℕ → List (List ℕ) → Result Settings SettingsFault → Type 0
MakesSettings root folder words (Ok s) = IsMade root folder words (settings_view s)
MakesSettings root folder words (Err faults.Root) = is_absolute root ≡ false
MakesSettings root folder words (Err faults.Folder) = IsNoFolder root folder
MakesSettings root folder words (Err faults.Memory) = Unit {0}

-- Defines the settings that a caller passes, and why there are none.
use Rattle.std.specs.Prelude.{◌≡◌, ℕ, ◌&&◌, false, List, Result, Ok, Err}
use Rattle.std.specs.Str.{IsUtf8}
use Rattle.support.specs.paths.Below.{is_absolute}
use Rattle.support.specs.paths.BuildFolders.{names_build_folder}
use Rattle.world.specs.MakingSettings.{settings_of}
use Rattle.world.specs.SettingsView.{settings_view}
use Rattle.world.specs.declared.settings.Settings.{Settings}
use Rattle.byte_devices.specs.Texts.{SpellsTexts}
use Rattle.embedding.specs.Given.{GivenData}
use Rattle.embedding.specs.declared.input_slices.InputError.{InputError}
use Rattle.embedding.specs.declared.input_slices.InputError.TheVariants as refusals

-- Holds if the source root is no absolute path, or nothing can be built in the build directory.
abbrev pub AreNoSettings : GivenData → Type 0
AreNoSettings given = (is_absolute given.source_root && names_build_folder given.build_folder) ≡ false

-- Holds if the slices spell no texts.
abbrev pub AreNoTexts : GivenData → Type 0
AreNoTexts given = (options : List (List ℕ)) → SpellsTexts given.words options → IsUtf8 given.source_root → IsUtf8 given.build_folder → ⊥

-- Holds if the settings are those of the arguments, the source root and the build directory.
abbrev pub AreSettings : GivenData → Settings → Type 0
AreSettings given s =
    (options : List (List ℕ)) → SpellsTexts given.words options → settings_view s ≡ settings_of given.source_root given.build_folder options

-- Holds if these settings are made, or if the slices are refused so, or memory ran out.
abbrev pub MakesSettings : GivenData → Result Settings InputError → Type 0
MakesSettings given (Ok s) = AreSettings given s
MakesSettings given (Err refusals.Slices) = AreNoTexts given
MakesSettings given (Err refusals.Settings) = AreNoSettings given
MakesSettings given (Err refusals.Memory) = Unit {0}

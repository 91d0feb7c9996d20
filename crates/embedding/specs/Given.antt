-- Defines what a caller passes, and its meaning.
use Rattle.std.specs.Prelude.{ℕ, List}
use Rattle.std.specs.Str.{IsUtf8}
use Rattle.byte_devices.specs.Slices.{Spells}
use Rattle.byte_devices.specs.Texts.{SpellsTexts}
use Rattle.machine_file.specs.Answers.{IsSaid, MachineSaid}
use Rattle.world.specs.Deed.{Files}

-- The slices that a caller passes for a run.
pub record GivenData : Type 0 where
  -- The paths of the files, each ended by a zero byte, their sizes in bytes, and their contents, joined.
  pub paths : List ℕ
  pub sizes : List ℕ
  pub contents : List ℕ
  -- The option arguments, each `name=value` and ended by a zero byte.
  pub words : List ℕ
  -- The bytes of the machine file, or none if there is no machine file.
  pub machine : List ℕ
  -- The absolute path of the source directory, and the path of the build directory, relative to the source directory.
  pub source_root : List ℕ
  pub build_folder : List ℕ

-- The slices mean these files, these option arguments and this reading of a machine file.
pub record Means (given : GivenData) (files : Files) (options : List (List ℕ)) (said : MachineSaid) : Type 0 where
  pub tree : Spells given.paths given.sizes given.contents files
  pub are_options : SpellsTexts given.words options
  pub root : IsUtf8 given.source_root
  pub folder : IsUtf8 given.build_folder
  pub machine_file : IsSaid given.machine said

-- Defines what a user sets for a run.
use Rattle.std.specs.Prelude.{ℕ, List}

-- The option arguments in order, how many levels the build directory is below the source root, and the two roots.
pub record SettingsData : Type 0 where
  pub words : List (List ℕ)
  pub depth : ℕ
  pub source_root : List ℕ
  pub build_root : List ℕ

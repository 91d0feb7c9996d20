-- Describes the place of a call: the roots, the folder, and the targets declared before it.
use Rattle.std.specs.Prelude.{ℕ, List}
use Rattle.build.specs.edge.Texts.{Path}
use Rattle.build.specs.Libraries.{DeclaredTargetData, linked_of}
use Rattle.world.specs.World.{Facts}

-- The place of a call.
pub record HereData : Type 0 where
  -- Absolute paths.
  pub source_root : Path
  pub build_root : Path
  -- How many levels the build directory is below the source root.
  pub depth : ℕ
  -- The folder of the definition file, empty for the root.
  pub folder : Path
  -- The targets declared before the call, in order, with their libraries and paths.
  pub earlier : List DeclaredTargetData

-- Returns the place of a call in the present definition file.
abbrev pub here_of : Facts → HereData
here_of facts = record {
  source_root = facts.settings.source_root;
  build_root = facts.settings.build_root;
  depth = facts.settings.depth;
  folder = facts.folder;
  earlier = linked_of facts.project.targets;
}

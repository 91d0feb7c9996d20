-- Defines what Ninja makes if it is given no target.
use Rattle.std.specs.Prelude.{Bool, List, [], flat_map, if◌then◌else◌}
use Rattle.build.specs.edge.Texts.{Path}
use Rattle.build.specs.Data.{TargetData, Build, Custom}
use Rattle.build.specs.Files.{default_paths}
use Rattle.build.specs.project.World.{WorldData}

-- Returns whether the target is built by default.
abbrev pub is_default : TargetData → Bool
is_default (Build t) = t.is_default
is_default (Custom t) = t.is_default

-- Returns the paths by which `all` names a target that is built by default: its outputs and symbolic links.
abbrev pub defaults_of : TargetData → List Path
defaults_of t = if is_default t then default_paths t else []

-- Returns the paths that `all` names, in the order of declaration.
abbrev pub default_outputs : WorldData → List Path
default_outputs w = flat_map defaults_of w.targets

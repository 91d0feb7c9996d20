-- Defines targets with their libraries and paths, without their place in memory.
use Rattle.std.specs.Prelude.{List, map}
use Rattle.build.specs.Libraries.{DeclaredTargetData, linked_of}
use Rattle.build.specs.View.{target_view}
use Rattle.build.specs.declared.declared_target.DeclaredTarget.{DeclaredTarget}

-- Returns the targets of the code as plain data, with the libraries and paths that the definition gives them. The code does not store the
-- libraries.
abbrev pub declared_target_views : List DeclaredTarget → List DeclaredTargetData
declared_target_views ls = linked_of (map (λ l. target_view l.target) ls)

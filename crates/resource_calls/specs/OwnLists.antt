-- Defines the lists that a call of `declare_dependency` itself gives.
use Rattle.std.specs.Prelude.{ℕ, List, codes, Option, Some, None, Ok, option_and_then, if◌then◌else◌}
use Rattle.std.specs.List.{list_all}
use Rattle.arguments.specs.Arguments.{ArgumentsData}
use Rattle.arguments.specs.Leaves.{leaves_named}
use Rattle.arguments.specs.Said.{Said, ◌>>=◌, found_value}
use Rattle.arguments.specs.declared.rule.Rule.TheVariants as rules
use Rattle.values.specs.Data.{Data}
use Rattle.build.specs.edge.Texts.{Path}
use Rattle.sources.specs.Folders.{folders_of}
use Rattle.sources.specs.Libraries.{numbers_of}
use Rattle.sources.specs.Sources.{NamedData, sources_of}
use Rattle.build.specs.Libraries.{DeclaredTargetData, is_library_at}
use Rattle.world.specs.Here.{HereData}

-- Returns the numbers if each is that of a library.
abbrev pub if_libraries : List DeclaredTargetData → List ℕ → Option (List ℕ)
if_libraries earlier ns = if list_all (is_library_at earlier) ns then Some ns else None

-- Returns the target numbers of these values, and none if one is no library.
abbrev pub libraries_of : List DeclaredTargetData → List Data → Option (List ℕ)
libraries_of earlier ds = option_and_then (if_libraries earlier) (numbers_of ds)

-- The lists that a call itself gives.
pub record OwnData : Type 0 where
  pub folders : List Path
  pub libraries : List ℕ
  pub sources : List NamedData

-- Returns the lists that the call itself gives, or its refusal. Each path must be below the source root, and `link_with` takes only
-- libraries.
abbrev pub own_lists : HereData → ArgumentsData → Said OwnData
own_lists here a = do
  folders ← folders_of here.source_root here.folder (leaves_named (codes "include_directories") a)
  libraries ← found_value (libraries_of here.earlier (leaves_named (codes "link_with") a)) rules.TakesLibraries (codes "link_with")
  sources ← sources_of here.source_root here.folder (leaves_named (codes "sources") a)
  Ok (record { folders = folders; libraries = libraries; sources = sources })

-- Defines the invariant of a project.
use Rattle.std.specs.Prelude.{◌≡◌, true, List, [], ◌++◌, map, String}
use Rattle.std.specs.Global.{Global}
pub use Rattle.path_set.specs.Paths.{IsFront}
use Rattle.build.specs.edge.Texts.{Path, holds}
use Rattle.build.specs.edge.Holding.{are_writable}
use Rattle.build.specs.Data.{SurroundingsData, TargetData}
use Rattle.build.specs.Libraries.{DeclaredTargetData, declared_target, linked_of}
use Rattle.build.specs.target_edges.Edges.{all_edges, edges_of}
use Rattle.build.specs.project.Laws.{outputs_of, AtMostOnce, all_made, all_inside}
use Rattle.build.specs.project.World.{taken_of, known_of}
use Rattle.build.specs.project.Earlier.{refers_back, all_refer_back}

-- Holds if both lists have the same paths, in any order.
abbrev pub SamePaths : List Path → List Path → Type 0
SamePaths xs ys = (p : Path) → holds p xs ≡ holds p ys

-- Returns the targets without their libraries and paths, in the same order.
abbrev pub targets_in : List DeclaredTargetData → List TargetData
targets_in ls = map (λ l. l.target) ls

-- The targets are linked as defined. The set has exactly the taken paths, and none is taken twice. Each path that an edge needs exists
-- before it, no edge makes anything outside the build directory, Ninja can hold each edge, and each target refers only to earlier ones.
pub record IsWhole (s : SurroundingsData) (ls : List DeclaredTargetData) (outputs present kept : List Path) : Type 0 where
  pub libraries : ls ≡ linked_of (targets_in ls)
  pub paths : SamePaths kept (taken_of s (targets_in ls) outputs)
  pub once : AtMostOnce (taken_of s (targets_in ls) outputs)
  pub made : all_made (known_of s outputs present) (all_edges s (targets_in ls)) ≡ true
  pub inside : all_inside (outputs_of (all_edges s (targets_in ls))) ≡ true
  pub outputs_inside : all_inside outputs ≡ true
  pub writable : are_writable (all_edges s (targets_in ls)) ≡ true
  pub back : all_refer_back s outputs [] (targets_in ls) ≡ true

-- A target that fits after these, with its edges.
pub record IsNext (s : SurroundingsData) (ts : List TargetData) (outputs present : List Path) (l : DeclaredTargetData)
    (paths : List Path) : Type 0 where
  pub libraries : l ≡ declared_target (linked_of ts) l.target
  pub paths_are : paths ≡ outputs_of (edges_of s (linked_of ts) l)
  pub made : all_made (known_of s outputs present ++ outputs_of (all_edges s ts)) (edges_of s (linked_of ts) l) ≡ true
  pub inside : all_inside (outputs_of (edges_of s (linked_of ts) l)) ≡ true
  pub writable : are_writable (edges_of s (linked_of ts) l) ≡ true
  pub back : refers_back s outputs ts l.target ≡ true

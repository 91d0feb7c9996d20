-- Defines that a target refers only to earlier targets.
use Rattle.std.specs.Prelude.{ℕ, nat_lt, Bool, true, false, ◌&&◌, List, [], ◌∷◌, ◌++◌, length, slice_get, Option, Some, None}
use Rattle.std.specs.List.{list_all}
use Rattle.build.specs.edge.Texts.{Path, holds}
use Rattle.build.specs.Data.{SurroundingsData, TargetData, Build, Custom}
use Rattle.build.specs.Files.{is_library}
use Rattle.build.specs.Libraries.{library_numbers}
use Rattle.build.specs.project.World.{WorldData, made_of}
use Rattle.build.specs.project.Adding.{sources_of, is_made_source}

-- Returns whether the target is a static or a shared library.
abbrev pub is_library_target : TargetData → Bool
is_library_target (Build t) = is_library t.kind
is_library_target (Custom t) = false

-- Returns whether there is a target and it is a library.
abbrev pub is_library_if : Option TargetData → Bool
is_library_if None = false
is_library_if (Some t) = is_library_target t

-- Returns whether the number is that of an earlier library.
abbrev pub is_earlier_library : (earlier : List TargetData) → ℕ → Bool
is_earlier_library earlier n = nat_lt n (length earlier) && is_library_if (slice_get earlier n)

-- Returns whether a target refers only to earlier ones. Each number in its lists of libraries is that of an earlier library. Each path of
-- the build directory that its sources name is an output of an edge of an earlier target, or is made by `configure_file`.
abbrev pub refers_back : SurroundingsData → (outputs : List Path) → (earlier : List TargetData) → TargetData → Bool
refers_back s outputs earlier t =
    list_all (is_earlier_library earlier) (library_numbers t)
    && list_all (is_made_source (λ p. holds p (made_of s earlier outputs))) (sources_of t)

-- Returns whether each of the targets after some earlier ones refers only to earlier ones.
abbrev pub all_refer_back : SurroundingsData → (outputs : List Path) → (earlier targets : List TargetData) → Bool
all_refer_back s outputs earlier [] = true
all_refer_back s outputs earlier (t ∷ ts) = refers_back s outputs earlier t && all_refer_back s outputs (earlier ++ t ∷ []) ts

-- Returns whether each target of a project refers only to earlier ones.
abbrev pub refer_back : WorldData → Bool
refer_back w = all_refer_back w.surroundings w.outputs [] w.targets

-- Defines the libraries that a target links.
use Rattle.std.specs.Prelude.{◌≡◌, ℕ, Bool, true, false, ◌&&◌, if◌then◌else◌, Option, Some, None, List, [], ◌∷◌, ◌++◌, flat_map}
use Rattle.std.specs.Prelude.{slice_get, nat_eq, nat_lt}
use Rattle.std.specs.List.{list_any, list_all}
use Rattle.build.specs.edge.Texts.{Path}
use Rattle.build.specs.Data.{TargetData, Build, Custom, BuildData, ListsData}
use Rattle.build.specs.Sources.{list_with_dependencies}
use Rattle.build.specs.Files.{is_static, is_library, default_paths}

-- A target with its libraries, by their numbers, and the paths by which `all` names it.
pub record DeclaredTargetData : Type 0 where
  pub target : TargetData
  pub libraries : List ℕ
  pub paths : List Path

-- Puts the number first, unless the list has it.
abbrev pub before : ℕ → List ℕ → List ℕ
before n ns = if list_any (nat_eq n) ns then ns else n ∷ ns

-- Puts the numbers first, each unless the list has it.
abbrev pub before_all : List ℕ → List ℕ → List ℕ
before_all [] ms = ms
before_all (n ∷ ns) ms = before n (before_all ns ms)

-- Keeps the last of equal numbers.
abbrev pub last_kept : List ℕ → List ℕ
last_kept ns = before_all ns []

-- Returns whether the target is a static library. A custom target never is.
abbrev pub is_static_target : TargetData → Bool
is_static_target (Build t) = is_static t.kind
is_static_target (Custom t) = false

-- Returns the libraries that a static library adds.
abbrev pub libraries_if_static : Option DeclaredTargetData → List ℕ
libraries_if_static None = []
libraries_if_static (Some l) = if is_static_target l.target then l.libraries else []

-- Returns a library, followed by its own libraries if it is static.
abbrev pub with_its_own : List DeclaredTargetData → ℕ → List ℕ
with_its_own earlier n = n ∷ libraries_if_static (slice_get earlier n)

-- Returns the libraries of a build target, given the earlier targets.
abbrev pub libraries_of : List DeclaredTargetData → BuildData → List ℕ
libraries_of earlier t = last_kept (flat_map (with_its_own earlier) (list_with_dependencies (λ l. l.link_with) t))

-- Returns the libraries of a target. A custom target has none.
abbrev pub libraries_in : List DeclaredTargetData → TargetData → List ℕ
libraries_in earlier (Build t) = libraries_of earlier t
libraries_in earlier (Custom t) = []

-- Returns the libraries with which the target's file is linked. An archive links none.
abbrev pub linked_libraries : List DeclaredTargetData → TargetData → List ℕ
linked_libraries earlier t = if is_static_target t then [] else libraries_in earlier t

-- Returns the target with its libraries and paths.
abbrev pub declared_target : List DeclaredTargetData → TargetData → DeclaredTargetData
declared_target earlier t = record { target = t; libraries = libraries_in earlier t; paths = default_paths t }

-- Returns the targets with their libraries and paths, given the earlier ones.
abbrev pub linked_after : List DeclaredTargetData → List TargetData → List DeclaredTargetData
linked_after earlier [] = earlier
linked_after earlier (t ∷ ts) = linked_after (earlier ++ declared_target earlier t ∷ []) ts

-- Returns each target with its libraries and paths.
abbrev pub linked_of : List TargetData → List DeclaredTargetData
linked_of ts = linked_after [] ts

-- ---- the target with a number

-- Returns the target if it is an executable or a library, and none for a custom target.
abbrev pub build_of : TargetData → Option BuildData
build_of (Build t) = Some t
build_of (Custom t) = None

-- Returns the executable or library that a look-up found, and none if it found nothing or a custom target.
abbrev pub build_in : Option DeclaredTargetData → Option BuildData
build_in None = None
build_in (Some l) = build_of l.target

-- Returns the build target with a number.
abbrev pub build_at : List DeclaredTargetData → ℕ → Option BuildData
build_at earlier n = build_in (slice_get earlier n)

-- Returns whether there is a build target and it is a library.
abbrev pub is_library_in : Option BuildData → Bool
is_library_in None = false
is_library_in (Some t) = is_library t.kind

-- Returns whether the number is that of a library.
abbrev pub is_library_at : List DeclaredTargetData → ℕ → Bool
is_library_at earlier n = is_library_in (build_at earlier n)

-- Returns whether each number in `link_with` of these lists is that of an earlier library.
abbrev pub links_in : List DeclaredTargetData → ListsData → Bool
links_in earlier l = list_all (is_library_at earlier) l.link_with

-- Returns whether the target and its dependencies link only earlier libraries.
abbrev pub links_libraries : List DeclaredTargetData → BuildData → Bool
links_libraries earlier t = links_in earlier t.own && list_all (links_in earlier) t.dependencies

-- ---- only earlier ones

-- Returns the numbers in a target's lists of libraries, and in those of its dependencies.
abbrev pub library_numbers : TargetData → List ℕ
library_numbers (Build t) = list_with_dependencies (λ l. l.link_with) t
library_numbers (Custom t) = []

-- Holds if each target names only the numbers of earlier targets.
abbrev pub LinkBack : List TargetData → Type 0
LinkBack ts = (n : ℕ) (t : TargetData) → slice_get ts n ≡ Some t → list_all (λ m. nat_lt m n) (library_numbers t) ≡ true

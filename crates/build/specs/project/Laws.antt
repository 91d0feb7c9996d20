-- Defines laws of a list of edges: each path is made once and before it is needed, and no edge depends on itself.
use Rattle.std.specs.Prelude.{◌≡◌, ℕ, ◌+◌, ◌≤◌, Bool, true, not, ◌&&◌, List, [], ◌∷◌, ◌++◌, flat_map, slice_get, bytes_eq, Option, Some}
use Rattle.std.specs.Prelude.{None, if◌then◌else◌}
use Rattle.std.specs.List.{list_all}
pub use Rattle.path_set.specs.Paths.{first_taken}
use Rattle.build.specs.edge.Texts.{Path, holds}
use Rattle.build.specs.edge.Paths.{is_upward}
use Rattle.build.specs.edge.Data.{EdgeData}

-- Returns the outputs of the edges, in the order of the edges. A path may occur more than once.
abbrev pub outputs_of : List EdgeData → List Path
outputs_of edges = flat_map (λ e. e.outputs) edges

-- ---- once

-- Returns how often a path is in the list.
abbrev pub times : Path → List Path → ℕ
times p [] = 0
times p (x ∷ xs) = (if bytes_eq p x then 1 else 0) + times p xs

-- Holds if no path occurs twice.
abbrev pub AtMostOnce : List Path → Type 0
AtMostOnce paths = (p : Path) → times p paths ≤ 1

-- ---- earlier

-- Returns the paths that an edge needs.
abbrev pub needs : EdgeData → List Path
needs e = e.inputs ++ (e.implicit ++ e.order_only)

-- Returns whether each of the paths is known.
abbrev pub all_held : List Path → List Path → Bool
all_held known ps = list_all (λ p. holds p known) ps

-- Returns whether each path that an edge needs is known, or is an output of an earlier edge.
abbrev pub all_made : List Path → List EdgeData → Bool
all_made known [] = true
all_made known (e ∷ es) = all_held known (needs e) && all_made (known ++ e.outputs) es

-- ---- no cycle

-- Returns the outputs of an edge, or no paths if there is no edge.
abbrev pub outputs_if : Option EdgeData → List Path
outputs_if None = []
outputs_if (Some e) = e.outputs

-- Returns the paths that an edge needs, or no paths if there is no edge.
abbrev pub needs_if : Option EdgeData → List Path
needs_if None = []
needs_if (Some e) = needs e

-- The edge with the first number makes a path that the other needs.
pub record Feeds (es : List EdgeData) (j i : ℕ) : Type 0 where
  pub path : Path
  pub made : holds path (outputs_if (slice_get es j)) ≡ true
  pub needed : holds path (needs_if (slice_get es i)) ≡ true

-- An edge feeds another directly, or through others.
pub data Reaches (es : List EdgeData) : ℕ → ℕ → Type 0 where
  at_once : (j i : ℕ) → Feeds es j i → Reaches es j i
  through : (j k i : ℕ) → Feeds es j k → Reaches es k i → Reaches es j i

-- ---- inside

-- Returns whether none of the paths leads out of the build directory.
abbrev pub all_inside : List Path → Bool
all_inside ps = list_all (λ p. not (is_upward p)) ps

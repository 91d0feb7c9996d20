-- Defines laws of the edges of a Ninja file as they are read: each path is made once and before it is needed, and no edge depends on
-- itself.
use Rattle.std.specs.Prelude.{◌≡◌, ℕ, Bool, true, ◌&&◌, List, [], ◌∷◌, ◌++◌, slice_get, Option, Some, None}
use Rattle.build.specs.edge.Texts.{Path, holds}
use Rattle.build.specs.project.Laws.{all_held}
use Rattle.ninja.specs.Reading.{BuildEdge}

-- ---- once

-- Returns the paths that an edge makes.
abbrev pub made_by : BuildEdge → List Path
made_by e = e.outputs ++ e.implicit_outputs

-- Returns the paths that the edges make, in the order of the edges. A path may occur more than once.
abbrev pub made_by_all : List BuildEdge → List Path
made_by_all [] = []
made_by_all (e ∷ es) = made_by e ++ made_by_all es

-- ---- earlier

-- Returns the paths that an edge needs.
abbrev pub needed_by : BuildEdge → List Path
needed_by e = e.inputs ++ (e.implicit ++ e.order_only)

-- Returns whether each path that an edge needs is known, or is an output of an earlier edge.
abbrev pub are_made : (known : List Path) → List BuildEdge → Bool
are_made known [] = true
are_made known (e ∷ es) = all_held known (needed_by e) && are_made (known ++ made_by e) es

-- ---- no cycle

-- Returns the paths that an edge makes, or no paths if there is no edge.
abbrev pub made_by_if : Option BuildEdge → List Path
made_by_if None = []
made_by_if (Some e) = made_by e

-- Returns the paths that an edge needs, or no paths if there is no edge.
abbrev pub needed_by_if : Option BuildEdge → List Path
needed_by_if None = []
needed_by_if (Some e) = needed_by e

-- The edge with the first number makes a path that the other needs.
pub record Feeds (es : List BuildEdge) (j i : ℕ) : Type 0 where
  pub path : Path
  pub made : holds path (made_by_if (slice_get es j)) ≡ true
  pub needed : holds path (needed_by_if (slice_get es i)) ≡ true

-- An edge feeds another directly, or through others.
pub data Reaches (es : List BuildEdge) : ℕ → ℕ → Type 0 where
  at_once : (j i : ℕ) → Feeds es j i → Reaches es j i
  through : (j k i : ℕ) → Feeds es j k → Reaches es k i → Reaches es j i

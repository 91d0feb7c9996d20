-- Defines `join_paths`, which makes one path of many.
use Rattle.std.specs.Prelude.{ℕ, List, [], ◌∷◌, Option, Some}
use Rattle.values.specs.Data.{Data, text}
use Rattle.values.specs.Limits.{within}
use Rattle.support.specs.paths.Below.{path_below}
use Rattle.arguments.specs.Arguments.{ArgumentsData}
use Rattle.values.specs.Flat.{flat_all}
use Rattle.world.specs.Deed.{Deed, give, ◌>>=◌, answer_or_refusal}

-- Returns each path below the one before it, as the operator `/` joins them.
abbrev pub path_of : List ℕ → List (List ℕ) → List ℕ
path_of path [] = path
path_of path (t ∷ ts) = path_of (path_below path t) ts

-- Returns the texts joined into one path (`join_paths`). All texts before an absolute one are dropped.
unfoldable pub join_paths : ArgumentsData → Deed (Option Data)
join_paths a = do
  d ← answer_or_refusal (within (text (path_of [] (flat_all a.positional))))
  give (Some d)

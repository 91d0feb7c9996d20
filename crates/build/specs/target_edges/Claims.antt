-- Defines what a project needs to know of the edges of a target.
use Rattle.std.specs.Prelude.{◌≡◌, ◌++◌, List, flat_map}
use Rattle.build.specs.edge.Data.{EdgeData}
use Rattle.build.specs.edge.Holding.{are_writable}
use Rattle.build.specs.edge.Texts.{Path, texts}
use Rattle.build.specs.declared.target_edges.claims.Claims.{Claims}

-- Holds if the claims say correctly whether `build.ninja` can hold the edges, and list the paths that the edges make. The paths that `all`
-- names are apart from the others, and are these.
pub record AreClaims (claims : Claims) (edges : List EdgeData) (asked_for : List Path) : Type 0 where
  pub writable : claims.writable ≡ are_writable edges
  pub paths : texts claims.objects.items ++ texts claims.asked.items ≡ flat_map (λ e. e.outputs) edges
  pub asked : texts claims.asked.items ≡ asked_for

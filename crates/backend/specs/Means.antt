-- Defines what `build.ninja` of a project means.
use Rattle.std.specs.Prelude.{◌≡◌, ℕ, true, List, ◌∷◌, ◌++◌, Some, codes}
use Rattle.build.specs.edge.Texts.{Path}
use Rattle.ninja.specs.Reading.{BuildEdge, manifest_of}
use Rattle.ninja.specs.Meaning.{file_seen, EachRunsWords}
use Rattle.build.specs.project.Laws.{outputs_of, AtMostOnce, all_held}
use Rattle.build.specs.project.World.{WorldData, edges_in, known_in}
use Rattle.backend.specs.BuildFile.{build_file}
use Rattle.ninja.specs.Defaults.{default_outputs}
use Rattle.backend.specs.FileEdges.{made_by_all, are_made, Reaches}

-- Returns the edges of the file as they are read. The last is `all`.
abbrev pub edges_read : WorldData → List BuildEdge
edges_read w = (file_seen (edges_in w) (default_outputs w)).edges

-- Returns the paths that no edge makes: the file itself, the document, and the outputs of `configure_file`.
abbrev pub made_by_none : WorldData → List Path
made_by_none w = codes "build.ninja" ∷ codes "meson-info/introspect.json" ∷ w.outputs

-- The Ninja manual reads the text as exactly the six rules, the project's edges, the edge `all` and the default `all`. A shell reads each
-- command as its edge's words and redirection. The following holds of all these edges, including `all`:
-- - No path is an output of two edges, or of one edge and something that no edge makes.
-- - Each path that an edge needs is a file of the tree that was looked at, an output of `configure_file`, or an output of an earlier edge.
-- - `all` needs only outputs of the project's edges.
-- - No edge depends on itself.
pub record Means (w : WorldData) : Type 0 where
  pub read : manifest_of (build_file w) ≡ Some (file_seen (edges_in w) (default_outputs w))
  pub runs : EachRunsWords (file_seen (edges_in w) (default_outputs w)) (edges_in w)
  pub once : AtMostOnce (made_by_none w ++ made_by_all (edges_read w))
  pub made : are_made (known_in w) (edges_read w) ≡ true
  pub asked : all_held (outputs_of (edges_in w)) (default_outputs w) ≡ true
  pub no_circle : (i : ℕ) → ¬ Reaches (edges_read w) i i

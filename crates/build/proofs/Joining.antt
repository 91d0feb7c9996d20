-- The edges of a target's file, one after another.
use Rattle.std.proofs.Common.{◌≡◌, List, [], ◌∷◌, ◌++◌, map, ap, ◌∙◌}
use Rattle.std.proofs.lemmas.List.{map-append}
use Rattle.build.specs.edge.Data.{EdgeData}
use Rattle.build.specs.edge.View.{edge_view}
use Rattle.build.specs.declared.edge.edge.Edge.{Edge}

pub joined : (none pushed links all : List Edge) (file : Edge) (cs : List EdgeData) (b : EdgeData) → none ≡ [] → edge_view file ≡ b → map edge_view links ≡ cs
    → pushed ≡ none ++ file ∷ [] → all ≡ pushed ++ links → map edge_view all ≡ b ∷ cs
joined none pushed links all file cs b e f g p q =
    ap (map edge_view) q
    ∙ map-append edge_view pushed links
    ∙ ap (λ l. map edge_view l ++ map edge_view links) (p ∙ ap (λ l. l ++ file ∷ []) e)
    ∙ ap (λ x. x ∷ map edge_view links) f
    ∙ ap (λ l. b ∷ l) g

-- A target's edges are those of its parts.
use Rattle.std.proofs.Common.{◌≡◌, true, List, [], ◌∷◌, ◌++◌, map, codes, String, Global, refl, ap, ◌∙◌, append_assoc}
use Rattle.std.specs.Prelude.{flat_map}
use Rattle.build.specs.edge.Texts.{Path, Text, texts}
use Rattle.build.specs.edge.Paths.{object_path}
use Rattle.build.specs.edge.Data.{EdgeData}
use Rattle.build.specs.Sources.{InputData}
use Rattle.build.specs.target_edges.Edges.{compile_edge}
use Rattle.build.specs.target_edges.Parts.{front_words, last_words, joined_edge, has_first}

joined_one : (words : List Text) (generated : List Path) (file : Path) (i : InputData) → joined_edge (front_words words) generated file i ≡ compile_edge words generated file i
joined_one words generated file i =
    let object = object_path file i.name in
    ap (λ ws. record (compile_edge words generated file i) { words = ws }) (append_assoc words (codes "-MD" ∷ codes "-MQ" ∷ []) (last_words object (object ++ codes ".d") i.path))

pub joined_all : (words : List Text) (generated : List Path) (file : Path) (is : List InputData) → map (joined_edge (front_words words) generated file) is ≡ map (compile_edge words generated file) is
joined_all words generated file [] = refl
joined_all words generated file (i ∷ is) =
    ap (λ e. e ∷ map (joined_edge (front_words words) generated file) is) (joined_one words generated file i)
    ∙ ap (λ es. compile_edge words generated file i ∷ es) (joined_all words generated file is)

pub parts_are : (front words : List Text) (made generated : List Path) (name file : Path) (inputs is : List InputData) (rest es : List EdgeData)
    → front ≡ front_words words → made ≡ generated → name ≡ file → inputs ≡ is → rest ≡ es
    → map (joined_edge front made name) inputs ++ rest ≡ map (compile_edge words generated file) is ++ es
parts_are front words made generated name file inputs is rest es a b c d e =
    ap (λ x. map (joined_edge x made name) inputs ++ rest) a
    ∙ ap (λ x. map (joined_edge (front_words words) x name) inputs ++ rest) b
    ∙ ap (λ x. map (joined_edge (front_words words) generated x) inputs ++ rest) c
    ∙ ap (λ x. map (joined_edge (front_words words) generated file) x ++ rest) d
    ∙ ap (λ x. map (joined_edge (front_words words) generated file) is ++ x) e
    ∙ ap (λ x. x ++ es) (joined_all words generated file is)

pub front_first : {I : Type 0} (ws : List (String Global)) (words : List Text) (inputs : List I) → texts ws ≡ front_words words → has_first ws inputs ≡ true
front_first [] [] inputs e = absurd cc
front_first [] (w ∷ words) inputs e = absurd cc
front_first (w ∷ ws) words inputs e = refl

-- what the edges make: objects, and what the others make
pub outputs_are : (front : List Text) (generated : List Path) (file : Path) (is : List InputData) (rest : List EdgeData)
    → map (λ i. object_path file i.name) is ++ flat_map (λ e. e.outputs) rest ≡ flat_map (λ e. e.outputs) (map (joined_edge front generated file) is ++ rest)
outputs_are front generated file [] rest = refl
outputs_are front generated file (i ∷ is) rest = ap (λ os. object_path file i.name ∷ os) (outputs_are front generated file is rest)

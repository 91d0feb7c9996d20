-- The edges of a target that fits make nothing outside the build folder.
use Rattle.std.proofs.Common.{◌≡◌, Bool, true, false, List, [], ◌∷◌, map, codes, eqb, refl, ap, ◌∙◌}
use Rattle.std.specs.Prelude.{◌&&◌, ◌||◌, not, bytes_eq}
use Rattle.std.specs.List.{list_all}
use Rattle.std.proofs.lemmas.List.Folds.{list_all-map}
use Rattle.std.proofs.lemmas.Bool.{not_from_false, not-true, or_parts}
use Rattle.build.specs.edge.Texts.{Path, Text}
use Rattle.build.specs.edge.Paths.{is_upward, object_path}
use Rattle.build.specs.Data.{SurroundingsData, TargetData, Build, Custom}
use Rattle.build.specs.Sources.{InputData, compiled_inputs, has_foreign}
use Rattle.support.specs.paths.Paths.{path_in}
use Rattle.build.specs.Files.{file_path, file_name, link_names, link_paths, object_paths, output_paths}
use Rattle.build.specs.Libraries.{DeclaredTargetData, declared_target, links_libraries}
use Rattle.build.specs.target_edges.Edges.{edges_of}
use Rattle.build.specs.project.Laws.{outputs_of, all_inside}
use Rattle.support.specs.paths.Names.{has_slash, is_file_name}
use Rattle.build.specs.project.Adding.{is_folder, is_target_name, names_fit, has_c, optional_file_name, target_fits}
use Rattle.build.proofs.EdgeOrder.{split_and, both, list_all-weaker, list_all-joined}
use Rattle.build.proofs.NextMade.{outputs-build}

and_false : (b : Bool) → (b && false) ≡ false
and_false true = refl
and_false false = refl

two_false : (a b : Bool) (c : Bool) → c ≡ false → (a && (b && (c && true))) ≡ false
two_false a b c e = ap (λ x. a && (b && (x && true))) e ∙ ap (λ x. a && x) (and_false b) ∙ and_false a

one_false : (a c : Bool) → c ≡ false → (a && c) ≡ false
one_false a c e = ap (λ x. a && x) e ∙ and_false a

-- a name without `/` does not lead up
name_inside : (name : Text) → has_slash name ≡ false → is_upward name ≡ false
name_inside [] h = refl
name_inside (a ∷ []) h = one_false (eqb a 46) false refl
name_inside (a ∷ b ∷ []) h = one_false (eqb a 46) (eqb b 46 && false) (and_false (eqb b 46))
name_inside (a ∷ b ∷ c ∷ rest) h =
    let h1 = or_parts (eqb a 47) (has_slash (b ∷ c ∷ rest)) h in
    let h2 = or_parts (eqb b 47) (has_slash (c ∷ rest)) h1.1 in
    let h3 = or_parts (eqb c 47) (has_slash rest) h2.1 in
    two_false (eqb a 46) (eqb b 46) (eqb c 47) h3.0

-- a file of a folder of the tree does not either
pub path_inside : (folder : Path) (name : Text) → is_folder folder ≡ true → has_slash name ≡ false → is_upward (path_in folder name) ≡ false
path_inside [] name f h = name_inside name h
path_inside (a ∷ []) name f h = one_false (eqb a 46) false refl
path_inside (a ∷ b ∷ []) name f h = (or_parts (is_upward (a ∷ b ∷ [])) (bytes_eq (a ∷ b ∷ []) (codes "..")) (not-true _ f)).1
path_inside (a ∷ b ∷ c ∷ rest) name f h =
    (or_parts (is_upward (a ∷ b ∷ c ∷ rest)) (bytes_eq (a ∷ b ∷ c ∷ rest) (codes "..")) (not-true _ f)).0

-- nor does the object of a source of a target whose file does not
object_inside : (file source : Path) → is_upward file ≡ false → is_upward (object_path file source) ≡ false
object_inside [] source h = refl
object_inside (a ∷ []) source h = two_false (eqb a 46) (eqb 46 46) (eqb 112 47) refl
object_inside (a ∷ b ∷ []) source h = two_false (eqb a 46) (eqb b 46) (eqb 46 47) refl
object_inside (a ∷ b ∷ c ∷ rest) source h = h

no_slash : (name : Text) → is_file_name name ≡ true → has_slash name ≡ false
no_slash name e =
    let h = or_parts (bytes_eq name []) (has_slash name || (bytes_eq name (codes ".") || bytes_eq name (codes ".."))) (not-true _ e) in
    (or_parts (has_slash name) (bytes_eq name (codes ".") || bytes_eq name (codes "..")) h.1).0

pub named_inside : (folder : Path) (name : Text) → is_folder folder ≡ true → is_file_name name ≡ true → not (is_upward (path_in folder name)) ≡ true
named_inside folder name f e = not_from_false (is_upward (path_in folder name)) (path_inside folder name f (no_slash name e))

all_named : (folder : Path) (names : List Text) → is_folder folder ≡ true → list_all is_file_name names ≡ true → all_inside (map (path_in folder) names) ≡ true
all_named folder names f e =
    list_all-map (λ p. not (is_upward p)) (path_in folder) names
    ∙ list_all-weaker is_file_name (λ n. not (is_upward (path_in folder n))) (λ n g. named_inside folder n f g) names e

all_objects : (file : Path) (is : List InputData) → is_upward file ≡ false → all_inside (map (λ i. object_path file i.name) is) ≡ true
all_objects file [] h = refl
all_objects file (i ∷ is) h =
    both (not (is_upward (object_path file i.name))) (all_inside (map (λ k. object_path file k.name) is))
    (not_from_false (is_upward (object_path file i.name)) (object_inside file i.name h))
    (all_objects file is h)

pub next_inside : (s : SurroundingsData) (earlier : List DeclaredTargetData) (t : TargetData) → target_fits earlier t ≡ true → all_inside (outputs_of (edges_of s earlier (declared_target earlier t))) ≡ true
next_inside s earlier (Custom t) e =
    let h = split_and (is_folder t.folder) (list_all is_file_name t.outputs && optional_file_name t.depfile) e in
    let g = split_and (list_all is_file_name t.outputs) (optional_file_name t.depfile) h.1 in
    list_all-joined (λ p. not (is_upward p)) (output_paths t) [] (all_named t.folder t.outputs h.0 g.0) refl
next_inside s earlier (Build t) e =
    let h = split_and (is_folder t.folder) (names_fit t && (not (has_foreign t) && (has_c t && links_libraries earlier t))) e in
    let g = split_and (names_fit t) (not (has_foreign t) && (has_c t && links_libraries earlier t)) h.1 in
    let b = split_and (is_target_name t.name) (is_file_name (file_name t) && list_all is_file_name (link_names t)) g.0 in
    let d = split_and (is_file_name (file_name t)) (list_all is_file_name (link_names t)) b.1 in
    let file = path_inside t.folder (file_name t) h.0 (no_slash (file_name t) d.0) in
    ap all_inside (outputs-build s earlier (declared_target earlier (Build t)).libraries t)
    ∙ list_all-joined (λ p. not (is_upward p)) (object_paths s.facts.depth t) (file_path t ∷ link_paths t)
    (all_objects (file_path t) (compiled_inputs s.facts.depth t) file)
    (both (not (is_upward (file_path t))) (all_inside (link_paths t))
    (not_from_false (is_upward (file_path t)) file) (all_named t.folder (link_names t) h.0 d.1))

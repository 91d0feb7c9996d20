-- What is asked of a custom target is what Ninja can hold of its edge.
use Rattle.std.proofs.Common.{◌≡◌, ℕ, zero, suc, ◌-◌, Bool, true, false, List, [], ◌∷◌, ◌++◌, codes, Option, Some, None, option_map, refl}
use Rattle.std.proofs.Common.{ap, ◌∙◌}
use Rattle.std.specs.Prelude.{◌&&◌, flat_map, if◌then◌else◌}
use Rattle.std.specs.List.{list_all}
use Rattle.std.proofs.lemmas.List.Folds.{list_all-append}
use Rattle.std.proofs.lemmas.Bool.{and_parts}
use Rattle.build.specs.edge.Texts.{Path, Text}
use Rattle.build.specs.edge.Paths.{way_up, source_path}
use Rattle.build.specs.edge.Holding.{is_path, path_held, value_byte_held, value_held, value_held_if, is_some_list, is_writable}
use Rattle.build.specs.edge.Holding.{are_writable}
use Rattle.build.proofs.Held.{path_as_value}
use Rattle.support.specs.paths.Paths.{path_in}
use Rattle.build.specs.Data.{SourceData, Tree, Built, Made, CustomData}
use Rattle.build.specs.Files.{output_paths}
use Rattle.build.specs.Sources.{source_paths}
use Rattle.build.specs.target_edges.Edges.{first_of, and_path, custom_edge}
use Rattle.build.specs.target_edges.Parts.{source_held, depfile_held, custom_held}
use Rattle.build.proofs.Holding.{and_true}

-- ---- sources

way_held : (n : ℕ) (path : Path) → path_held (way_up n ++ (codes "../" ++ path)) ≡ path_held path
way_held zero path = refl
way_held (suc n) path = way_held n path

way_is_path : (n : ℕ) (path : Path) → is_path (way_up n ++ (codes "../" ++ path)) ≡ path_held path
way_is_path zero path = refl
way_is_path (suc n) path = way_held n path

one_held : (depth : ℕ) (s : SourceData) → list_all is_path (source_paths depth s) ≡ source_held s
one_held depth (Tree path) = and_true (is_path (source_path depth path)) ∙ way_is_path (depth - 1) path
one_held depth (Built path) = and_true (is_path path)
one_held depth (Made paths) = refl

sources_held : (depth : ℕ) (ss : List SourceData) → list_all is_path (flat_map (source_paths depth) ss) ≡ list_all source_held ss
sources_held depth [] = refl
sources_held depth (s ∷ ss) =
    list_all-append is_path (source_paths depth s) (flat_map (source_paths depth) ss)
    ∙ ap (λ b. b && list_all is_path (flat_map (source_paths depth) ss)) (one_held depth s)
    ∙ ap (λ b. source_held s && b) (sources_held depth ss)

-- ---- outputs

redirect_held : (captures : Bool) (outputs : List Path) → list_all is_path outputs ≡ true → value_held_if (if captures then first_of outputs else None) ≡ true
redirect_held false outputs h = refl
redirect_held true [] h = refl
redirect_held true (p ∷ ps) h = path_as_value p (and_parts (is_path p) (list_all is_path ps) h).0

names_held : (outputs : List Path) → list_all is_path outputs ≡ true → value_held (flat_map and_path outputs) ≡ true
names_held [] h = refl
names_held (p ∷ ps) h =
    let k = and_parts (is_path p) (list_all is_path ps) h in
    list_all-append value_byte_held p (flat_map and_path ps) ∙ rw (path_as_value p k.0, names_held ps k.1) refl

description_held : (outputs : List Path) → list_all is_path outputs ≡ true → value_held (codes "Generating" ++ flat_map and_path outputs) ≡ true
description_held outputs h = names_held outputs h

-- ---- the depfile

depfile_is : (folder : Path) (depfile : Option Text) → value_held_if (option_map (path_in folder) depfile) ≡ depfile_held folder depfile
depfile_is folder None = refl
depfile_is [] (Some name) = refl
depfile_is (b ∷ bs) (Some name) = list_all-append value_byte_held (b ∷ bs) (codes "/" ++ name)

-- ---- the edge

shape : (so po pi pn sw vw r d f : Bool) → (po ≡ true → r ≡ true) → (po ≡ true → d ≡ true)
    → ((so && (po && (pi && (pn && true)))) && (sw && (vw && (r && (d && f))))) ≡ (so && (po && (pi && (pn && (sw && (vw && f))))))
shape false po pi pn sw vw r d f h k = refl
shape true false pi pn sw vw r d f h k = refl
shape true true false pn sw vw r d f h k = refl
shape true true true false sw vw r d f h k = refl
shape true true true true sw vw r d f h k = rw (h refl, k refl) refl

pub custom_are_held : (depth : ℕ) (t : CustomData) → are_writable (custom_edge depth t ∷ []) ≡ custom_held t (output_paths t)
custom_are_held depth t =
    let os = output_paths t in
    let e = custom_edge depth t in
    let words = λ (b : Bool). is_some_list t.words && (list_all value_held t.words && b) in
    and_true (is_writable e)
    ∙ shape (is_some_list os) (list_all is_path os) (list_all is_path e.inputs) (list_all is_path e.implicit) (is_some_list t.words) (list_all value_held t.words)
    (value_held_if e.redirect) (value_held e.description) (value_held_if e.depfile) (redirect_held t.captures os) (description_held os)
    ∙ ap (λ b. is_some_list os && (list_all is_path os && (b && (list_all is_path e.implicit && words (value_held_if e.depfile))))) (sources_held depth t.inputs)
    ∙ ap (λ b. is_some_list os && (list_all is_path os && (list_all source_held t.inputs && (b && words (value_held_if e.depfile))))) (sources_held depth t.needs)
    ∙ ap (λ b. is_some_list os && (list_all is_path os && (list_all source_held t.inputs && (list_all source_held t.needs && words b)))) (depfile_is t.folder t.depfile)

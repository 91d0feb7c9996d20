-- What is made by default: each is a path that Ninja can hold.
use Rattle.std.proofs.Common.{◌≡◌, ℕ, Bool, true, false, List, [], ◌∷◌, ◌++◌, map, refl, sym, ap, ◌∙◌, inl, inr}
use Rattle.std.specs.Prelude.{◌&&◌, if◌then◌else◌}
use Rattle.std.specs.List.{flat_map, list_all}
use Rattle.std.proofs.lemmas.Bool.{and_parts, cases_Bool}
use Rattle.std.proofs.lemmas.List.Folds.{flat_map-map, list_all-append}
use Rattle.build.specs.edge.Texts.{Path, Text}
use Rattle.build.specs.edge.Data.{EdgeData}
use Rattle.build.specs.edge.Holding.{is_path, is_some_list, is_writable, are_writable, paths_writable, values_writable}
use Rattle.build.specs.Data.{SurroundingsData, BuildData, TargetData, Build, Custom}
use Rattle.build.specs.Files.{default_paths, file_name, file_path, is_static, link_paths, object_paths}
use Rattle.build.specs.Libraries.{DeclaredTargetData, declared_target, linked_of, libraries_in}
use Rattle.build.specs.DeclaredTargetViews.{declared_target_views}
use Rattle.build.specs.View.{target_view}
use Rattle.build.specs.declared.declared_target.DeclaredTarget.{DeclaredTarget}
use Rattle.build.proofs.LinkedLists.{kept_targets}
use Rattle.build.specs.target_edges.Edges.{symlink_edge, file_edge, link_edges, compile_edges, custom_edge, edges_of, edges_after, all_edges}
use Rattle.ninja.specs.Defaults.{defaults_of, is_default}

-- ---- each is a path

outputs_are_paths : (e : EdgeData) → is_writable e ≡ true → list_all is_path e.outputs ≡ true
outputs_are_paths e h =
    let paths = (and_parts (paths_writable e) (values_writable e) h).0 in
    let rest = list_all is_path e.inputs && (list_all is_path e.implicit && list_all is_path e.order_only) in
    (and_parts (list_all is_path e.outputs) rest (and_parts (is_some_list e.outputs) (list_all is_path e.outputs && rest) paths).1).0

and-true : (b : Bool) → (b && true) ≡ true → b ≡ true
and-true true h = refl
and-true false h = h

both : (a b : Bool) → a ≡ true → b ≡ true → (a && b) ≡ true
both a b h k = rw (h, k) refl

one_path : (e : EdgeData) (p : Path) → e.outputs ≡ p ∷ [] → is_writable e ≡ true → is_path p ≡ true
one_path e p is h = and-true (is_path p) (ap (list_all is_path) (sym is) ∙ outputs_are_paths e h)

links_are_paths : (file : Path) (name : Text) (links : List Path) → are_writable (map (symlink_edge file name) links) ≡ true → list_all is_path links ≡ true
links_are_paths file name [] h = refl
links_are_paths file name (l ∷ ls) h =
    let k = and_parts (is_writable (symlink_edge file name l)) (are_writable (map (symlink_edge file name) ls)) h in
    both (is_path l) (list_all is_path ls) (one_path (symlink_edge file name l) l refl k.0) (links_are_paths file name ls k.1)

file_output : (s : SurroundingsData) (earlier : List DeclaredTargetData) (ns : List ℕ) (t : BuildData) (file : Path) (objects : List Path) → (file_edge s earlier ns t file objects).outputs ≡ file ∷ []
file_output s earlier ns t file objects = elim (cases_Bool (is_static t.kind)) [ inl e ↦ rw e refl | inr e ↦ rw e refl ]

build_defaults : (s : SurroundingsData) (earlier : List DeclaredTargetData) (ns : List ℕ) (t : BuildData)
    → are_writable (compile_edges s t ++ (file_edge s earlier ns t (file_path t) (object_paths s.facts.depth t) ∷ link_edges t)) ≡ true → list_all is_path (file_path t ∷ link_paths t) ≡ true
build_defaults s earlier ns t h =
    let file = file_edge s earlier ns t (file_path t) (object_paths s.facts.depth t) in
    let k = and_parts (are_writable (compile_edges s t)) (are_writable (file ∷ link_edges t)) (sym (list_all-append is_writable (compile_edges s t) (file ∷ link_edges t)) ∙ h) in
    let l = and_parts (is_writable file) (are_writable (link_edges t)) k.1 in
    both (is_path (file_path t)) (list_all is_path (link_paths t)) (one_path file (file_path t) (file_output s earlier ns t (file_path t) (object_paths s.facts.depth t)) l.0)
    (links_are_paths (file_path t) (file_name t) (link_paths t) l.1)

target_defaults : (s : SurroundingsData) (earlier : List DeclaredTargetData) (t : TargetData) → are_writable (edges_of s earlier (declared_target earlier t)) ≡ true → list_all is_path (default_paths t) ≡ true
target_defaults s earlier (Build t) h = build_defaults s earlier (libraries_in earlier (Build t)) t h
target_defaults s earlier (Custom t) h = outputs_are_paths (custom_edge s.facts.depth t) (and-true (is_writable (custom_edge s.facts.depth t)) h)

default_or_none : (b : Bool) (paths : List Path) → list_all is_path paths ≡ true → list_all is_path (if b then paths else []) ≡ true
default_or_none true paths h = h
default_or_none false paths h = refl

defaults_after : (s : SurroundingsData) (earlier : List DeclaredTargetData) (ts : List TargetData) → are_writable (edges_after s earlier ts) ≡ true → list_all is_path (flat_map defaults_of ts) ≡ true
defaults_after s earlier [] h = refl
defaults_after s earlier (t ∷ ts) h =
    let own = edges_of s earlier (declared_target earlier t) in
    let rest = edges_after s (earlier ++ declared_target earlier t ∷ []) ts in
    let k = and_parts (are_writable own) (are_writable rest) (sym (list_all-append is_writable own rest) ∙ h) in
    list_all-append is_path (defaults_of t) (flat_map defaults_of ts)
    ∙ both (list_all is_path (defaults_of t)) (list_all is_path (flat_map defaults_of ts)) (default_or_none (is_default t) (default_paths t) (target_defaults s earlier t k.0))
    (defaults_after s (earlier ++ declared_target earlier t ∷ []) ts k.1)

-- where the edges can be held, so can what `all` names
pub defaults_are_paths : (s : SurroundingsData) (ts : List TargetData) → are_writable (all_edges s ts) ≡ true → list_all is_path (flat_map defaults_of ts) ≡ true
defaults_are_paths s ts h = defaults_after s [] ts h

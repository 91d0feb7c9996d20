-- What is asked of a target's parts is what Ninja can hold of its edges.
use Rattle.std.proofs.Common.{◌≡◌, Bool, true, false, List, [], ◌∷◌, ◌++◌, map, codes, string_bytes, refl, sym, ap, ◌∙◌}
use Rattle.std.specs.Prelude.{◌&&◌, ◌||◌}
use Rattle.std.specs.List.{list_all}
use Rattle.std.proofs.lemmas.List.Folds.{list_all-append}
use Rattle.build.specs.edge.Texts.{Path, Text}
use Rattle.build.specs.edge.Paths.{object_path}
use Rattle.build.specs.edge.Parts.{edge_of_parts}
use Rattle.build.specs.edge.Holding.{is_path, value_byte_held, value_held, is_some_list, is_writable}
use Rattle.build.proofs.Held.{path_as_value}
use Rattle.build.specs.Inputs.{input_view}
use Rattle.build.specs.declared.sources.Input.{Input}
use Rattle.build.specs.target_edges.Parts.{last_words, compile_shared, compile_own, joined_edge, is_none, shared_held}

pub some_behind : (ws : List Text) (v : Text) (vs : List Text) → is_some_list (ws ++ v ∷ vs) ≡ true
some_behind [] v vs = refl
some_behind (w ∷ ws) v vs = refl

pub and_true : (b : Bool) → (b && true) ≡ b
and_true true = refl
and_true false = refl

depfile_held : (object : Path) → value_held (object ++ codes ".d") ≡ value_held object
depfile_held object = list_all-append value_byte_held object (codes ".d") ∙ and_true (value_held object)

shape : (po ps g f vo vs : Bool) → (po ≡ true → vo ≡ true) → (ps ≡ true → vs ≡ true)
    → (((po && true) && ((ps && true) && g)) && ((f && (vo && (vo && (vo && (vs && true))))) && (vo && vo))) ≡ ((g && f) && (po && ps))
shape true true true true vo vs h k = rw (h refl, k refl) refl
shape true true true false vo vs h k = refl
shape true true false f vo vs h k = refl
shape true false true true vo vs h k = refl
shape true false true false vo vs h k = refl
shape true false false f vo vs h k = refl
shape false ps true true vo vs h k = refl
shape false ps true false vo vs h k = refl
shape false ps false f vo vs h k = refl

compile_held : (front : List Text) (generated : List Path) (object source : Path)
    → is_writable (edge_of_parts (compile_shared front generated) (compile_own object source)) ≡ (shared_held front generated && (is_path object && is_path source))
compile_held front generated object source =
    let last = last_words object (object ++ codes ".d") source in
    let paths = (is_path object && true) && ((is_path source && true) && list_all is_path generated) in
    let rest = value_held object && value_held (object ++ codes ".d") in
    ap (λ b. paths && (b && (list_all value_held (front ++ last) && rest))) (some_behind front object (codes "-MF" ∷ (object ++ codes ".d") ∷ codes "-o" ∷ object ∷ codes "-c" ∷ source ∷ []))
    ∙ ap (λ b. paths && (b && rest)) (list_all-append value_held front last)
    ∙ ap (λ v. paths && ((list_all value_held front && (value_held object && (v && (value_held object && (value_held source && true))))) && (value_held object && v))) (depfile_held object)
    ∙ shape (is_path object) (is_path source) (list_all is_path generated) (list_all value_held front) (value_held object) (value_held source) (path_as_value object) (path_as_value source)

regroup : (s a b n os ss : Bool) → (n ≡ true → os ≡ true) → (n ≡ true → ss ≡ true) → ((s && (a && b)) && (n || (s && (os && ss)))) ≡ (s && ((a && os) && (b && ss)))
regroup false a b n os ss h k = refl
regroup true false b n os ss h k = refl
regroup true true false n true ss h k = refl
regroup true true false n false ss h k = refl
regroup true true true true os ss h k = rw (h refl, k refl) refl
regroup true true true false os ss h k = refl

none_each : {X : Type 0} (p : X → Bool) (xs : List X) → is_none xs ≡ true → list_all p xs ≡ true
none_each p [] h = refl
none_each p (x ∷ xs) h = absurd cc

each_held : (front : List Text) (generated : List Path) (file : Path) (xs : List Input)
    → (is_none xs || (shared_held front generated && (list_all is_path (map (λ i. object_path file i.name) (map input_view xs)) && list_all (λ i. is_path (string_bytes i.path)) xs)))
    ≡ list_all is_writable (map (joined_edge front generated file) (map input_view xs))
each_held front generated file [] = refl
each_held front generated file (x ∷ xs) =
    let object = object_path file (string_bytes x.name) in
    let source = string_bytes x.path in
    let shared = shared_held front generated in
    let objects = list_all is_path (map (λ i. object_path file i.name) (map input_view xs)) in
    let sources = list_all (λ (i : Input). is_path (string_bytes i.path)) xs in
    sym (ap (λ w. w && list_all is_writable (map (joined_edge front generated file) (map input_view xs))) (compile_held front generated object source)
    ∙ ap (λ r. (shared && (is_path object && is_path source)) && r) (sym (each_held front generated file xs))
    ∙ regroup shared (is_path object) (is_path source) (is_none xs) objects sources (all_none file xs) (none_each (λ (i : Input). is_path (string_bytes i.path)) xs))
  where
    all_none : (file : Path) (xs : List Input) → is_none xs ≡ true → list_all is_path (map (λ i. object_path file i.name) (map input_view xs)) ≡ true
    all_none file [] h = refl
    all_none file (x ∷ xs) h = absurd cc

pub compiles_held : (front : List Text) (generated : List Path) (file : Path) (xs : List Input) (objects : List Path) → objects ≡ map (λ i. object_path file i.name) (map input_view xs)
    → (is_none xs || (shared_held front generated && (list_all is_path objects && list_all (λ i. is_path (string_bytes i.path)) xs)))
    ≡ list_all is_writable (map (joined_edge front generated file) (map input_view xs))
compiles_held front generated file xs objects e =
    ap (λ os. is_none xs || (shared_held front generated && (list_all is_path os && list_all (λ (i : Input). is_path (string_bytes i.path)) xs))) e
    ∙ each_held front generated file xs

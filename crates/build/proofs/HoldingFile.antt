-- What is asked of a target's file, and of all that a build target makes, is what Ninja can hold of the edges.
use Rattle.std.proofs.Common.{◌≡◌, ℕ, Bool, true, false, List, [], ◌∷◌, ◌++◌, map, codes, string_bytes, refl, sym, ap, ◌∙◌, append_assoc}
use Rattle.std.specs.Prelude.{◌&&◌, ◌||◌, flat_map, if◌then◌else◌}
use Rattle.std.specs.List.{list_all}
use Rattle.std.proofs.lemmas.List.Folds.{list_all-append}
use Rattle.std.proofs.lemmas.Bool.{and_parts}
use Rattle.build.specs.edge.Data.{EdgeData}
use Rattle.build.specs.edge.Texts.{Path, Text}
use Rattle.build.specs.edge.Paths.{object_path}
use Rattle.build.specs.edge.Holding.{is_path, value_held, is_some_list, is_writable, are_writable}
use Rattle.build.proofs.Held.{path_as_value}
use Rattle.build.specs.Data.{SurroundingsData, BuildData, Build}
use Rattle.build.specs.Files.{default_paths, file_name, file_path, is_static, link_paths}
use Rattle.build.specs.Inputs.{input_view}
use Rattle.build.specs.Libraries.{DeclaredTargetData}
use Rattle.build.specs.Sources.{InputData, compiled_inputs, generated_paths}
use Rattle.build.specs.declared.sources.Input.{Input}
use Rattle.build.specs.target_edges.Edges.{archive_edge, link_edge, symlink_edge, file_edge, link_edges, compile_edges, build_edges}
use Rattle.build.specs.target_edges.Parts.{front_words, joined_edge, is_none, compiles_held, archive_held, link_held}
use Rattle.build.specs.target_edges.Words.{compile_words, library_files, library_words, link_words, shared_words}
use Rattle.build.proofs.Holding.{and_true, some_behind, compiles_held as each_compile_held}
use Rattle.build.proofs.HoldingWords.{shared_are}
use Rattle.build.proofs.Sharing.{joined_all, outputs_are}

paths_as_values : (ps : List Path) → list_all is_path ps ≡ true → list_all value_held ps ≡ true
paths_as_values [] h = refl
paths_as_values (p ∷ ps) h =
    let k = and_parts (is_path p) (list_all is_path ps) h in
    rw (path_as_value p k.0, paths_as_values ps k.1) refl

archive_shape : (pf po a vf vo : Bool) → (pf ≡ true → vf ≡ true) → (po ≡ true → vo ≡ true)
    → (((pf && true) && (po && true)) && ((a && (vf && vo)) && (vf && true))) ≡ (pf && (po && a))
archive_shape false po a vf vo h k = refl
archive_shape true false a vf vo h k = refl
archive_shape true true true vf vo h k = rw (h refl, k refl) refl
archive_shape true true false vf vo h k = refl

pub archive_is : (archiver : List Text) (file : Path) (objects : List Path) → archive_held archiver file objects ≡ is_writable (archive_edge archiver file objects)
archive_is archiver file objects =
    let paths = (is_path file && true) && (list_all is_path objects && true) in
    let described = value_held file && true in
    sym (ap (λ b. paths && (b && (list_all value_held (archiver ++ codes "csr" ∷ file ∷ objects) && described))) (some_behind archiver (codes "csr") (file ∷ objects))
    ∙ ap (λ b. paths && (b && described)) (list_all-append value_held archiver (codes "csr" ∷ file ∷ objects))
    ∙ archive_shape (is_path file) (list_all is_path objects) (list_all value_held archiver) (value_held file) (list_all value_held objects) (path_as_value file) (paths_as_values objects))

link_shape : (pf po pl c s vf vo b : Bool) → (pf ≡ true → vf ≡ true) → (po ≡ true → vo ≡ true)
    → (((pf && true) && (po && (pl && true))) && ((c && (s && (vf && (vo && b)))) && (vf && true))) ≡ (pf && (po && (pl && (c && (s && b)))))
link_shape false po pl c s vf vo b h k = refl
link_shape true false pl c s vf vo b h k = refl
link_shape true true false c s vf vo b h k = refl
link_shape true true true c s vf vo b h k = rw (h refl, k refl) (and_true (c && (s && b)))

link_words_held : (compiler shared : List Text) (file : Path) (objects : List Path) (behind : List Text)
    → list_all value_held (compiler ++ (shared ++ (codes "-o" ∷ file ∷ (objects ++ behind))))
    ≡ (list_all value_held compiler && (list_all value_held shared && (value_held file && (list_all value_held objects && list_all value_held behind))))
link_words_held compiler shared file objects behind =
    list_all-append value_held compiler (shared ++ (codes "-o" ∷ file ∷ (objects ++ behind)))
    ∙ ap (λ b. list_all value_held compiler && b)
    (list_all-append value_held shared (codes "-o" ∷ file ∷ (objects ++ behind))
    ∙ ap (λ b. list_all value_held shared && (value_held file && b)) (list_all-append value_held objects behind))

some_before : (xs ys : List Text) → is_some_list ys ≡ true → is_some_list (xs ++ ys) ≡ true
some_before [] ys h = h
some_before (x ∷ xs) ys h = refl

pub link_is : (s : SurroundingsData) (earlier : List DeclaredTargetData) (ns : List ℕ) (t : BuildData) (file : Path) (objects : List Path)
    → link_held s.facts.compiler (shared_words t.kind t ++ library_words s earlier ns t) file objects (library_files earlier ns)
    ≡ is_writable (link_edge (link_words s earlier ns t file objects) file objects (library_files earlier ns))
link_is s earlier ns t file objects =
    let compiler = s.facts.compiler in
    let shared = shared_words t.kind t in
    let behind = library_words s earlier ns t in
    let libraries = library_files earlier ns in
    let all = compiler ++ (shared ++ (codes "-o" ∷ file ∷ (objects ++ behind))) in
    let paths = (is_path file && true) && (list_all is_path objects && (list_all is_path libraries && true)) in
    let described = value_held file && true in
    sym (ap (λ b. paths && (b && (list_all value_held all && described)))
    (some_before compiler (shared ++ (codes "-o" ∷ file ∷ (objects ++ behind))) (some_behind shared (codes "-o") (file ∷ (objects ++ behind))))
    ∙ ap (λ b. paths && (b && described)) (link_words_held compiler shared file objects behind)
    ∙ link_shape (is_path file) (list_all is_path objects) (list_all is_path libraries) (list_all value_held compiler) (list_all value_held shared) (value_held file)
    (list_all value_held objects) (list_all value_held behind) (path_as_value file) (paths_as_values objects)
    ∙ ap (λ b. is_path file && (list_all is_path objects && (list_all is_path libraries && (list_all value_held compiler && b))))
    (sym (list_all-append value_held shared behind)))

-- the files of the libraries are words that need not be asked for: they are paths
words_shape : (pf po pl c s vl b : Bool) → (pl ≡ true → vl ≡ true)
    → (pf && (po && (pl && (c && (s && b))))) ≡ (pf && (po && (pl && (c && (s && (vl && b))))))
words_shape false po pl c s vl b h = refl
words_shape true false pl c s vl b h = refl
words_shape true true false c s vl b h = refl
words_shape true true true c s vl b h = rw (h refl) refl

pub without_libraries : (compiler shared behind : List Text) (file : Path) (objects libraries : List Path)
    → (is_path file && (list_all is_path objects && (list_all is_path libraries && (list_all value_held compiler && list_all value_held (shared ++ behind)))))
    ≡ link_held compiler (shared ++ (libraries ++ behind)) file objects libraries
without_libraries compiler shared behind file objects libraries =
    let asked = λ (b : Bool). is_path file && (list_all is_path objects && (list_all is_path libraries && (list_all value_held compiler && b))) in
    ap asked (list_all-append value_held shared behind)
    ∙ words_shape (is_path file) (list_all is_path objects) (list_all is_path libraries) (list_all value_held compiler) (list_all value_held shared)
    (list_all value_held libraries) (list_all value_held behind) (paths_as_values libraries)
    ∙ sym (ap asked (list_all-append value_held shared (libraries ++ behind) ∙ ap (λ b. list_all value_held shared && b) (list_all-append value_held libraries behind)))

-- ---- all edges of a build target

abbrev pub compiles_asked : SurroundingsData → BuildData → List Path → List Input → Bool
compiles_asked s t objects xs =
    is_none xs || (compiles_held s t && (list_all is_path objects && list_all (λ (i : Input). is_path (string_bytes i.path)) xs))

pub build_held : (s : SurroundingsData) (earlier : List DeclaredTargetData) (ns : List ℕ) (t : BuildData) (xs : List Input) (file : Path) (objects : List Path) (rest : List EdgeData)
    → map input_view xs ≡ compiled_inputs s.facts.depth t → file ≡ file_path t → objects ≡ map (λ i. object_path file i.name) (map input_view xs) → rest ≡ link_edges t
    → (compiles_asked s t objects xs && (is_writable (file_edge s earlier ns t file objects) && are_writable rest)) ≡ are_writable (build_edges s earlier ns t)
build_held s earlier ns t xs file objects rest inputs is made links =
    let front = front_words (compile_words s t) in
    let edge = λ (f : Path). joined_edge front (generated_paths t) f in
    let one = λ (f : Path) (os : List Path). file_edge s earlier ns t f os in
    let names = λ (f : Path) (is : List InputData). map (λ (i : InputData). object_path f i.name) is in
    let own = list_all is_path objects && list_all (λ (i : Input). is_path (string_bytes i.path)) xs in
    ap (λ b. (is_none xs || (b && own)) && (is_writable (one file objects) && are_writable rest)) (sym (shared_are s t))
    ∙ ap (λ b. b && (is_writable (one file objects) && are_writable rest)) (each_compile_held front (generated_paths t) file xs objects made)
    ∙ ap (λ os. list_all is_writable (map (edge file) (map input_view xs)) && (is_writable (one file os) && are_writable rest)) made
    ∙ ap (λ is. list_all is_writable (map (edge file) is) && (is_writable (one file (names file is)) && are_writable rest)) inputs
    ∙ ap (λ f. list_all is_writable (map (edge f) (compiled_inputs s.facts.depth t)) && (is_writable (one f (names f (compiled_inputs s.facts.depth t))) && are_writable rest)) is
    ∙ ap (λ es. list_all is_writable (map (edge (file_path t)) (compiled_inputs s.facts.depth t)) && (is_writable (one (file_path t) (names (file_path t) (compiled_inputs s.facts.depth t))) && are_writable es)) links
    ∙ ap (λ es. list_all is_writable es && are_writable (one (file_path t) (names (file_path t) (compiled_inputs s.facts.depth t)) ∷ link_edges t)) (joined_all (compile_words s t) (generated_paths t) (file_path t) (compiled_inputs s.facts.depth t))
    ∙ sym (list_all-append is_writable (compile_edges s t) (one (file_path t) (names (file_path t) (compiled_inputs s.facts.depth t)) ∷ link_edges t))

file_alone : (b : Bool) (archive link : EdgeData) (file : Path) → archive.outputs ≡ file ∷ [] → link.outputs ≡ file ∷ [] → (if b then archive else link).outputs ≡ file ∷ []
file_alone true archive link file e f = e
file_alone false archive link file e f = f

pub build_outputs : (s : SurroundingsData) (earlier : List DeclaredTargetData) (ns : List ℕ) (t : BuildData) (xs : List Input) (file : Path) (objects : List Path) (rest : List EdgeData)
    → map input_view xs ≡ compiled_inputs s.facts.depth t → file ≡ file_path t → objects ≡ map (λ i. object_path file i.name) (map input_view xs) → rest ≡ link_edges t
    → (objects ++ file ∷ []) ++ flat_map (λ e. e.outputs) rest ≡ flat_map (λ e. e.outputs) (build_edges s earlier ns t)
build_outputs s earlier ns t xs file objects rest inputs is made links =
    let outputs = λ (es : List EdgeData). flat_map (λ (e : EdgeData). e.outputs) es in
    let names = λ (f : Path) (is : List InputData). map (λ (i : InputData). object_path f i.name) is in
    let os = names (file_path t) (compiled_inputs s.facts.depth t) in
    let one = file_edge s earlier ns t (file_path t) os in
    append_assoc objects (file ∷ []) (outputs rest)
    ∙ ap (λ o. o ++ (file ∷ outputs rest)) made
    ∙ ap (λ is. names file is ++ (file ∷ outputs rest)) inputs
    ∙ ap (λ f. names f (compiled_inputs s.facts.depth t) ++ (f ∷ outputs rest)) is
    ∙ ap (λ es. os ++ (file_path t ∷ outputs es)) links
    ∙ ap (λ fs. os ++ (fs ++ outputs (link_edges t))) (sym (file_alone (is_static t.kind) (archive_edge s.facts.archiver (file_path t) os)
    (link_edge (link_words s earlier ns t (file_path t) os) (file_path t) os (library_files earlier ns)) (file_path t) refl refl))
    ∙ outputs_are (front_words (compile_words s t)) (generated_paths t) (file_path t) (compiled_inputs s.facts.depth t) (one ∷ link_edges t)
    ∙ ap (λ es. outputs (es ++ (one ∷ link_edges t))) (joined_all (compile_words s t) (generated_paths t) (file_path t) (compiled_inputs s.facts.depth t))

-- ---- what a build target is asked for

links_made : (file : Path) (name : Text) (links : List Path) → flat_map (λ (e : EdgeData). e.outputs) (map (symlink_edge file name) links) ≡ links
links_made file name [] = refl
links_made file name (l ∷ ls) = ap (λ r. l ∷ r) (links_made file name ls)

pub links_asked : (t : BuildData) (file : Path) → file ≡ file_path t → file ∷ flat_map (λ (e : EdgeData). e.outputs) (link_edges t) ≡ default_paths (Build t)
links_asked t file is =
    ap (λ f. f ∷ flat_map (λ (e : EdgeData). e.outputs) (link_edges t)) is ∙ ap (λ ls. file_path t ∷ ls) (links_made (file_path t) (file_name t) (link_paths t))

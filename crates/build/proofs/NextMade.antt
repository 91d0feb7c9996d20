-- The edges of a target that fits need only what is there or made before.
use Rattle.std.proofs.Common.{◌≡◌, ℕ, zero, suc, Bool, true, false, List, [], ◌∷◌, ◌++◌, map, refl, sym, ap, ◌∙◌, append-nil, append_assoc}
use Rattle.std.proofs.Common.{bytes_eq}
use Rattle.std.specs.Prelude.{◌&&◌, flat_map, Some, if◌then◌else◌}
use Rattle.std.specs.List.{list_all}
use Rattle.std.proofs.lemmas.List.Folds.{list_all-map}
use Rattle.std.proofs.lemmas.List.Concat.{flat_map-append}
use Rattle.std.proofs.lemmas.Slice.Eq.{bytes_eq-Decides}
use Rattle.build.specs.edge.Texts.{Path, Text, holds}
use Rattle.build.specs.edge.Paths.{source_path, object_path}
use Rattle.build.specs.edge.Data.{EdgeData}
use Rattle.build.specs.Data.{SurroundingsData, SourceData, Tree, Built, Made, BuildData, CustomData, TargetData, Build, Custom}
use Rattle.build.specs.Sources.{InputData, all_sources, is_c, own_input, inputs_in, c_input, c_inputs_in, put_input, put_inputs, compiled_inputs}
use Rattle.build.specs.Sources.{if_not_c, generated_in, generated_paths, source_paths}
use Rattle.build.specs.Files.{is_static, file_path, file_name, link_paths, object_paths}
use Rattle.build.specs.Libraries.{DeclaredTargetData, declared_target, linked_after, linked_of, build_in}
use Rattle.build.specs.target_edges.Words.{compile_words, file_in, library_file, library_files, link_words}
use Rattle.build.specs.target_edges.Edges.{compile_edge, compile_edges, archive_edge, link_edge, file_edge, symlink_edge, link_edges, custom_edge}
use Rattle.build.specs.target_edges.Edges.{build_edges, target_edges, edges_of, edges_after, all_edges}
use Rattle.build.specs.project.Laws.{outputs_of, needs, all_held, all_made}
use Rattle.build.specs.project.World.{known_of, made_of}
use Rattle.build.specs.project.Adding.{sources_of, is_made_source, is_present}
use Rattle.build.proofs.EdgeOrder.{split_and, both, or_left, or_right, or_cases, list_all-weaker, list_all-and, list_all-flat_map}
use Rattle.build.proofs.EdgeOrder.{list_all-each, list_all-parts, list_all-joined, list_all-put_all_new, holds_append, holds_left}
use Rattle.build.proofs.EdgeOrder.{holds_right, held_more, held_self, made_append}

-- ---- sources

holds_map : (f : Path → Path) (p : Path) (xs : List Path) → holds p xs ≡ true → holds (f p) (map f xs) ≡ true
holds_map f p [] e = absurd cc
holds_map f p (x ∷ xs) e =
    or_cases (bytes_eq p x) (holds p xs) e
    (λ same. or_left (bytes_eq (f p) (f x)) (holds (f p) (map f xs)) ((bytes_eq-Decides (f p) (f x)).1 (ap f ((bytes_eq-Decides p x).0 same))))
    (λ later. or_right (bytes_eq (f p) (f x)) (holds (f p) (map f xs)) (holds_map f p xs later))

module _ (s : SurroundingsData) (ts : List TargetData) (outputs present : List Path) where
  abbrev known : List Path
  known = known_of s outputs present ++ outputs_of (all_edges s ts)

  abbrev is_made : Path → Bool
  is_made p = holds p (made_of s ts outputs)

  made_known : (p : Path) → is_made p ≡ true → holds p known ≡ true
  made_known p e =
      or_cases (holds p (outputs_of (all_edges s ts))) (holds p outputs) (sym (holds_append p (outputs_of (all_edges s ts)) outputs) ∙ e)
      (λ a. holds_right p (known_of s outputs present) (outputs_of (all_edges s ts)) a)
      (λ b. holds_left p (known_of s outputs present) (outputs_of (all_edges s ts)) (holds_right p (map (source_path s.facts.depth) present) outputs b))

  source_known : (x : SourceData) → (is_made_source is_made x && is_present present x) ≡ true → all_held known (source_paths s.facts.depth x) ≡ true
  source_known (Tree path) e =
      both (holds (source_path s.facts.depth path) known) true
      (holds_left (source_path s.facts.depth path) (known_of s outputs present) (outputs_of (all_edges s ts))
      (holds_left (source_path s.facts.depth path) (map (source_path s.facts.depth) present) outputs (holds_map (source_path s.facts.depth) path present e)))
      refl
  source_known (Built path) e = both (holds path known) true (made_known path (split_and (is_made path) true e).0) refl
  source_known (Made paths) e = list_all-weaker is_made (λ p. holds p known) made_known paths (split_and (list_all is_made paths) true e).0

  pub sources_known : (xs : List SourceData) → list_all (is_made_source is_made) xs ≡ true → list_all (is_present present) xs ≡ true → all_held known (flat_map (source_paths s.facts.depth) xs) ≡ true
  sources_known xs e f =
      list_all-flat_map (λ p. holds p known) (λ x. is_made_source is_made x && is_present present x) (source_paths s.facts.depth) source_known xs
      (list_all-and (is_made_source is_made) (is_present present) xs e f)

-- ---- what is compiled, and what is only made before

abbrev all_paths : (Path → Bool) → List InputData → Bool
all_paths q is = list_all (λ i. q i.path) is

all_put_input : (q : Path → Bool) (kept : List InputData) (i : InputData) → all_paths q kept ≡ true → q i.path ≡ true → all_paths q (put_input kept i) ≡ true
all_put_input q kept i e f = by (holds i.path (map (λ (k : InputData). k.path) kept))
  where
    by : (b : Bool) → all_paths q (if b then kept else kept ++ i ∷ []) ≡ true
    by true = e
    by false = list_all-joined (λ (k : InputData). q k.path) kept (i ∷ []) e (both (q i.path) true f refl)

all_put_inputs : (q : Path → Bool) (kept is : List InputData) → all_paths q kept ≡ true → all_paths q is ≡ true → all_paths q (put_inputs kept is) ≡ true
all_put_inputs q kept [] e f = e
all_put_inputs q kept (i ∷ is) e f = let s = split_and (q i.path) (all_paths q is) f in all_put_inputs q (put_input kept i) is (all_put_input q kept i e s.0) s.1

all_c_input : (q : Path → Bool) (i : InputData) → q i.path ≡ true → all_paths q (c_input i) ≡ true
all_c_input q i e = by (is_c i.name)
  where
    by : (b : Bool) → all_paths q (if b then i ∷ [] else []) ≡ true
    by true = both (q i.path) true e refl
    by false = refl

all_c_inputs : (q : Path → Bool) (is : List InputData) → all_paths q is ≡ true → all_paths q (flat_map c_input is) ≡ true
all_c_inputs q is e = list_all-flat_map (λ (i : InputData). q i.path) (λ (i : InputData). q i.path) c_input (all_c_input q) is e

all_inputs_in : (q : Path → Bool) (depth : ℕ) (x : SourceData) → list_all q (source_paths depth x) ≡ true → all_paths q (inputs_in depth x) ≡ true
all_inputs_in q depth (Tree path) e = e
all_inputs_in q depth (Built path) e = e
all_inputs_in q depth (Made paths) e = list_all-map (λ (i : InputData). q i.path) own_input paths ∙ e

pub all_compiled : (q : Path → Bool) (depth : ℕ) (t : BuildData) → list_all q (flat_map (source_paths depth) (all_sources t)) ≡ true → all_paths q (compiled_inputs depth t) ≡ true
all_compiled q depth t e = all_put_inputs q [] (flat_map (c_inputs_in depth) (all_sources t)) refl (over (all_sources t) e)
  where
    over : (xs : List SourceData) → list_all q (flat_map (source_paths depth) xs) ≡ true → all_paths q (flat_map (c_inputs_in depth) xs) ≡ true
    over [] e = refl
    over (x ∷ xs) e =
        let s = list_all-parts q (source_paths depth x) (flat_map (source_paths depth) xs) e in
        list_all-joined (λ (i : InputData). q i.path) (c_inputs_in depth x) (flat_map (c_inputs_in depth) xs)
        (all_c_inputs q (inputs_in depth x) (all_inputs_in q depth x s.0))
        (over xs s.1)

all_if_not_c : (q : Path → Bool) (p : Path) → q p ≡ true → list_all q (if_not_c p) ≡ true
all_if_not_c q p e = by (is_c p)
  where
    by : (b : Bool) → list_all q (if b then [] else p ∷ []) ≡ true
    by true = refl
    by false = both (q p) true e refl

all_generated_in : (q : Path → Bool) (depth : ℕ) (x : SourceData) → list_all q (source_paths depth x) ≡ true → list_all q (generated_in x) ≡ true
all_generated_in q depth (Tree path) e = refl
all_generated_in q depth (Built path) e = refl
all_generated_in q depth (Made paths) e = list_all-flat_map q q if_not_c (all_if_not_c q) paths e

pub all_generated : (q : Path → Bool) (depth : ℕ) (t : BuildData) → list_all q (flat_map (source_paths depth) (all_sources t)) ≡ true → list_all q (generated_paths t) ≡ true
all_generated q depth t e = list_all-put_all_new q [] (flat_map generated_in (all_sources t)) refl (over (all_sources t) e)
  where
    over : (xs : List SourceData) → list_all q (flat_map (source_paths depth) xs) ≡ true → list_all q (flat_map generated_in xs) ≡ true
    over [] e = refl
    over (x ∷ xs) e =
        let s = list_all-parts q (source_paths depth x) (flat_map (source_paths depth) xs) e in
        list_all-joined q (generated_in x) (flat_map generated_in xs) (all_generated_in q depth x s.0) (over xs s.1)

-- ---- edges

abbrev objects_at : Path → List InputData → List Path
objects_at file is = map (λ i. object_path file i.name) is

pub outputs-compile : (words : List Text) (gen : List Path) (file : Path) (is : List InputData) → outputs_of (map (compile_edge words gen file) is) ≡ objects_at file is
outputs-compile words gen file [] = refl
outputs-compile words gen file (i ∷ is) = ap (λ l. object_path file i.name ∷ l) (outputs-compile words gen file is)

pub outputs-links : (file : Path) (name : Text) (links : List Path) → outputs_of (map (symlink_edge file name) links) ≡ links
outputs-links file name [] = refl
outputs-links file name (l ∷ ls) = ap (λ ps. l ∷ ps) (outputs-links file name ls)

pub output-file : (s : SurroundingsData) (earlier : List DeclaredTargetData) (ns : List ℕ) (t : BuildData) (file : Path) (objects : List Path) → (file_edge s earlier ns t file objects).outputs ≡ file ∷ []
output-file s earlier ns t file objects = by (is_static t.kind)
  where
    by : (b : Bool) → (if b then archive_edge s.facts.archiver file objects else link_edge (link_words s earlier ns t file objects) file objects (library_files earlier ns)).outputs ≡ file ∷ []
    by true = refl
    by false = refl

pub outputs-build : (s : SurroundingsData) (earlier : List DeclaredTargetData) (ns : List ℕ) (t : BuildData)
    → outputs_of (build_edges s earlier ns t) ≡ object_paths s.facts.depth t ++ (file_path t ∷ link_paths t)
outputs-build s earlier ns t =
    let fe = file_edge s earlier ns t (file_path t) (object_paths s.facts.depth t) in
    flat_map-append (λ (e : EdgeData). e.outputs) (compile_edges s t) (fe ∷ link_edges t)
    ∙ ap (λ ps. ps ++ (fe.outputs ++ outputs_of (link_edges t))) (outputs-compile (compile_words s t) (generated_paths t) (file_path t) (compiled_inputs s.facts.depth t))
    ∙ ap (λ ps. object_paths s.facts.depth t ++ (ps ++ outputs_of (link_edges t))) (output-file s earlier ns t (file_path t) (object_paths s.facts.depth t))
    ∙ ap (λ ps. object_paths s.facts.depth t ++ (file_path t ∷ ps)) (outputs-links (file_path t) (file_name t) (link_paths t))

made_compile : (words : List Text) (gen : List Path) (file : Path) (is : List InputData) (known : List Path) → all_paths (λ p. holds p known) is ≡ true → all_held known gen ≡ true
    → all_made known (map (compile_edge words gen file) is) ≡ true
made_compile words gen file [] known e g = refl
made_compile words gen file (i ∷ is) known e g =
    let h = split_and (holds i.path known) (all_paths (λ p. holds p known) is) e in
    let more = known ++ object_path file i.name ∷ [] in
    both (all_held known (i.path ∷ gen)) (all_made more (map (compile_edge words gen file) is))
    (both (holds i.path known) (all_held known gen) h.0 g)
    (made_compile words gen file is more
    (list_all-weaker (λ (k : InputData). holds k.path known) (λ (k : InputData). holds k.path more) (λ k a. holds_left k.path known (object_path file i.name ∷ []) a) is h.1)
    (held_more known (object_path file i.name ∷ []) gen g))

made_links : (file : Path) (name : Text) (links known : List Path) → holds file known ≡ true → all_made known (map (symlink_edge file name) links) ≡ true
made_links file name [] known e = refl
made_links file name (l ∷ ls) known e =
    both (all_held known (file ∷ [])) (all_made (known ++ l ∷ []) (map (symlink_edge file name) ls))
    (both (holds file known) true e refl)
    (made_links file name ls (known ++ l ∷ []) (holds_left file known (l ∷ []) e))

made_file : (s : SurroundingsData) (earlier : List DeclaredTargetData) (ns : List ℕ) (t : BuildData) (file : Path) (objects known : List Path)
    → all_held known objects ≡ true → all_held known (library_files earlier ns) ≡ true → all_held known (needs (file_edge s earlier ns t file objects)) ≡ true
made_file s earlier ns t file objects known a b = by (is_static t.kind)
  where
    by : (c : Bool) → all_held known (needs (if c then archive_edge s.facts.archiver file objects else link_edge (link_words s earlier ns t file objects) file objects (library_files earlier ns))) ≡ true
    by true = list_all-joined (λ p. holds p known) objects [] a refl
    by false = list_all-joined (λ p. holds p known) objects (library_files earlier ns ++ []) a (list_all-joined (λ p. holds p known) (library_files earlier ns) [] b refl)

pub made_build : (s : SurroundingsData) (earlier : List DeclaredTargetData) (ns : List ℕ) (t : BuildData) (known : List Path)
    → all_held known (flat_map (source_paths s.facts.depth) (all_sources t)) ≡ true
    → ((n : ℕ) → all_held known (library_file earlier n) ≡ true)
    → all_made known (build_edges s earlier ns t) ≡ true
made_build s earlier ns t known srcs libs =
    let depth = s.facts.depth in
    let compiles = compile_edges s t in
    let file = file_path t in
    let objects = object_paths depth t in
    let fe = file_edge s earlier ns t file objects in
    let with_objects = known ++ outputs_of compiles in
    let is : outputs_of compiles ≡ objects = outputs-compile (compile_words s t) (generated_paths t) file (compiled_inputs depth t) in
    made_append known compiles (fe ∷ link_edges t)
    ∙ both (all_made known compiles) (all_made with_objects (fe ∷ link_edges t))
    (made_compile (compile_words s t) (generated_paths t) file (compiled_inputs depth t) known (all_compiled (λ p. holds p known) depth t srcs) (all_generated (λ p. holds p known) depth t srcs))
    (both (all_held with_objects (needs fe)) (all_made (with_objects ++ fe.outputs) (link_edges t))
    (made_file s earlier ns t file objects with_objects
    (ap (λ ps. all_held (known ++ ps) objects) is ∙ held_self known objects)
    (held_more known (outputs_of compiles) (library_files earlier ns) (list_all-each (λ p. holds p known) (library_file earlier) libs ns)))
    (made_links file (file_name t) (link_paths t) (with_objects ++ fe.outputs)
    (holds_right file with_objects fe.outputs
    (ap (holds file) (output-file s earlier ns t file objects) ∙ or_left (bytes_eq file file) false ((bytes_eq-Decides file file).1 refl)))))

pub made_custom : (depth : ℕ) (t : CustomData) (known : List Path) → all_held known (flat_map (source_paths depth) (t.inputs ++ t.needs)) ≡ true → all_made known (custom_edge depth t ∷ []) ≡ true
made_custom depth t known e =
    let q = λ (p : Path). holds p known in
    let ins = flat_map (source_paths depth) t.inputs in
    let more = flat_map (source_paths depth) t.needs in
    let h = list_all-parts q ins more (ap (list_all q) (sym (flat_map-append (source_paths depth) t.inputs t.needs)) ∙ e) in
    both (all_held known (ins ++ (more ++ []))) true (list_all-joined q ins (more ++ []) h.0 (list_all-joined q more [] h.1 refl)) refl

-- ---- libraries

-- the file of the target at a number is known
abbrev FilesKnown : List Path → List DeclaredTargetData → Type 0
FilesKnown known ls = (n : ℕ) → all_held known (library_file ls n) ≡ true

files_push : (known more : List Path) (ls : List DeclaredTargetData) (l : DeclaredTargetData) → FilesKnown known ls → all_held (known ++ more) (file_in (build_in (Some l))) ≡ true → FilesKnown (known ++ more) (ls ++ l ∷ [])
files_push known more ls l e f n = over ls (λ m. held_more known more (library_file ls m) (e m)) n
  where
    over : (xs : List DeclaredTargetData) → FilesKnown (known ++ more) xs → FilesKnown (known ++ more) (xs ++ l ∷ [])
    over [] g zero = f
    over [] g (suc m) = refl
    over (x ∷ xs) g zero = g 0
    over (x ∷ xs) g (suc m) = over xs (λ k. g (suc k)) m

own_file : (s : SurroundingsData) (earlier : List DeclaredTargetData) (l : DeclaredTargetData) (known : List Path) → all_held (known ++ outputs_of (edges_of s earlier l)) (file_in (build_in (Some l))) ≡ true
own_file s earlier l known = by l.target
  where
    by : (t : TargetData) → all_held (known ++ outputs_of (target_edges s earlier l.libraries t)) (file_in (build_in (Some (record { target = t; libraries = l.libraries; paths = l.paths })))) ≡ true
    by (Custom t) = refl
    by (Build t) =
        both (holds (file_path t) (known ++ outputs_of (build_edges s earlier l.libraries t))) true
        (ap (λ ps. holds (file_path t) (known ++ ps)) (outputs-build s earlier l.libraries t)
        ∙ holds_right (file_path t) known (object_paths s.facts.depth t ++ (file_path t ∷ link_paths t))
        (holds_right (file_path t) (object_paths s.facts.depth t) (file_path t ∷ link_paths t)
        (or_left (bytes_eq (file_path t) (file_path t)) (holds (file_path t) (link_paths t)) ((bytes_eq-Decides (file_path t) (file_path t)).1 refl))))
        refl

files_after : (s : SurroundingsData) (earlier : List DeclaredTargetData) (ts : List TargetData) (known : List Path) → FilesKnown known earlier
    → FilesKnown (known ++ outputs_of (edges_after s earlier ts)) (linked_after earlier ts)
files_after s earlier [] known e n = ap (λ k. all_held k (library_file earlier n)) (append-nil known) ∙ e n
files_after s earlier (t ∷ ts) known e n =
    let l = declared_target earlier t in
    let es = edges_of s earlier l in
    let rest = edges_after s (earlier ++ l ∷ []) ts in
    ap (λ ps. all_held ps (library_file (linked_after (earlier ++ l ∷ []) ts) n))
    (ap (λ ps. known ++ ps) (flat_map-append (λ (x : EdgeData). x.outputs) es rest) ∙ sym (append_assoc known (outputs_of es) (outputs_of rest)))
    ∙ files_after s (earlier ++ l ∷ []) ts (known ++ outputs_of es) (files_push known (outputs_of es) earlier l e (own_file s earlier l known)) n

pub files_known : (s : SurroundingsData) (ts : List TargetData) (known : List Path) → FilesKnown (known ++ outputs_of (all_edges s ts)) (linked_of ts)
files_known s ts known = files_after s [] ts known (λ n. none n)
  where
    none : (n : ℕ) → all_held known (library_file [] n) ≡ true
    none zero = refl
    none (suc n) = refl

-- ---- all of them

pub next_made : (s : SurroundingsData) (ts : List TargetData) (outputs present : List Path) (t : TargetData)
    → list_all (is_made_source (λ p. holds p (made_of s ts outputs))) (sources_of t) ≡ true → list_all (is_present present) (sources_of t) ≡ true
    → all_made (known_of s outputs present ++ outputs_of (all_edges s ts)) (edges_of s (linked_of ts) (declared_target (linked_of ts) t)) ≡ true
next_made s ts outputs present (Build t) e f =
    made_build s (linked_of ts) (declared_target (linked_of ts) (Build t)).libraries t (known_of s outputs present ++ outputs_of (all_edges s ts))
    (sources_known s ts outputs present (all_sources t) e f)
    (files_known s ts (known_of s outputs present))
next_made s ts outputs present (Custom t) e f =
    made_custom s.facts.depth t (known_of s outputs present ++ outputs_of (all_edges s ts)) (sources_known s ts outputs present (t.inputs ++ t.needs) e f)

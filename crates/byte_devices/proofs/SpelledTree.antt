-- A tree that is read file by file.
use Rattle.std.proofs.Common.{◌≡◌, ℕ, ◌+◌, ◌-◌, ◌<◌, ◌≤◌, List, [], ◌∷◌, ◌++◌, map, take, drop, get_or, length, None, true, refl, sym, ap, subst, ◌∙◌, arith}
use Rattle.std.proofs.Common.{append_assoc, append-nil, length-append, is_some}
use Rattle.std.specs.List.{flat_map}
use Rattle.std.proofs.lemmas.Grind.{flat_map-append}
use Rattle.std.proofs.lemmas.List.{drop-drop, drop_all, drop_more, length-drop, take_rest, take_at, take_all, take_more, take-append-drop, append_cancel_left, map-append}
use Rattle.ports.specs.Tree.{file_at}
use Rattle.byte_devices.specs.Slices.{AreNamed, HasNoFirst, IsFirst, Spells}
use Rattle.byte_devices.specs.Texts.{BeginsWith, null_terminated_text}
use Rattle.byte_devices.proofs.Named.{AreNamed-push, none_before, text_in}
use Rattle.byte_devices.proofs.Zeros.{cut_same}

abbrev pub Files : Type 0
Files = List (List ℕ × List ℕ)

abbrev pub path_bytes : List ℕ × List ℕ → List ℕ
path_bytes file = null_terminated_text file.0

abbrev pub size_of : List ℕ × List ℕ → ℕ
size_of file = length file.1

abbrev pub bytes_of : List ℕ × List ℕ → List ℕ
bytes_of file = file.1

-- these files were read, up to these places
pub record ReadUpTo (paths sizes contents : List ℕ) (i path_at byte_at : ℕ) (done : Files) : Type 0 where
  pub read_paths : paths ≡ flat_map path_bytes done ++ drop path_at paths
  pub read_sizes : take i sizes ≡ map size_of done
  pub read_contents : contents ≡ flat_map bytes_of done ++ drop byte_at contents
  pub good : AreNamed done
  pub paths_within : path_at ≤ length paths
  pub contents_within : byte_at ≤ length contents

pub none_read : (paths sizes contents : List ℕ) (done : Files) → done ≡ [] → ReadUpTo paths sizes contents 0 0 0 done
none_read paths sizes contents done e =
    subst (λ d. ReadUpTo paths sizes contents 0 0 0 d) (sym e)
    (record { read_paths = refl; read_sizes = refl; read_contents = refl; good = tt; paths_within = omega arith; contents_within = omega arith })

-- one item more of what was read
pushed : {X : Type 0} (f : X → List ℕ) (all : List ℕ) (at n : ℕ) (done : List X) (x : X) → all ≡ flat_map f done ++ drop at all
    → drop at all ≡ f x ++ drop (at + n) all → all ≡ flat_map f (done ++ x ∷ []) ++ drop (at + n) all
pushed f all at n done x r h =
    r ∙ ap (λ s. flat_map f done ++ s) h ∙ sym (append_assoc (flat_map f done) (f x) (drop (at + n) all))
    ∙ ap (λ s. s ++ drop (at + n) all) (ap (λ s. flat_map f done ++ s) (sym (append-nil (f x))) ∙ sym (flat_map-append f done (x ∷ [])))

pub one_read : (paths sizes contents : List ℕ) (i path_at byte_at : ℕ) (done new : Files) (size : ℕ) (path bytes : List ℕ)
    → ReadUpTo paths sizes contents i path_at byte_at done → i < length sizes → size ≡ get_or sizes i 0
    → IsFirst (take (length paths - path_at) (drop path_at paths)) size (take (length contents - byte_at) (drop byte_at contents)) path bytes
    → file_at done path ≡ None → new ≡ done ++ (path, bytes) ∷ []
    → ReadUpTo paths sizes contents (i + 1) (path_at + (length path + 1)) (byte_at + length bytes) new
one_read paths sizes contents i path_at byte_at done new size path bytes r less at_i first fresh is =
    let begins = subst (λ s. BeginsWith s path) (take_rest paths path_at) first.path_first in
    let cut = subst (λ s. s ≡ bytes ++ drop size s) (take_rest contents byte_at) first.bytes_first in
    let path_rest : drop path_at paths ≡ null_terminated_text path ++ drop (path_at + (length path + 1)) paths =
    begins.parts ∙ ap (λ s. path ++ 0 ∷ s) (drop-drop (length path + 1) path_at paths) ∙ sym (append_assoc path (0 ∷ []) _) in
    let byte_rest : drop byte_at contents ≡ bytes ++ drop (byte_at + length bytes) contents =
    cut ∙ ap (λ n. bytes ++ drop n (drop byte_at contents)) (sym first.long) ∙ ap (λ s. bytes ++ s) (drop-drop (length bytes) byte_at contents) in
    subst (λ d. ReadUpTo paths sizes contents (i + 1) (path_at + (length path + 1)) (byte_at + length bytes) d) (sym is) (record {
      read_paths = pushed path_bytes paths path_at (length path + 1) done (path, bytes) r.read_paths path_rest;
      read_sizes =
          take_more sizes i 0 less ∙ ap (λ s. s ++ get_or sizes i 0 ∷ []) r.read_sizes ∙ ap (λ n. map size_of done ++ n ∷ []) (sym at_i ∙ sym first.long)
          ∙ sym (map-append size_of done ((path, bytes) ∷ []));
      read_contents = pushed bytes_of contents byte_at (length bytes) done (path, bytes) r.read_contents byte_rest;
      good = AreNamed-push done path bytes r.good begins.is_text fresh;
      paths_within = omega (arith, r.paths_within, ap length path_rest, length-drop path_at paths, length-append (null_terminated_text path) (drop (path_at + (length path + 1)) paths), length-append path (0 ∷ []));
      contents_within = omega (arith, r.contents_within, ap length byte_rest, length-drop byte_at contents, length-append bytes (drop (byte_at + length bytes) contents));
    })

-- what is left of the files, once these are read
record Left (done files : Files) (paths sizes contents : List ℕ) : Type 0 where
  more : Files
  is : files ≡ done ++ more
  left_paths : paths ≡ flat_map path_bytes more
  left_sizes : sizes ≡ map size_of more
  left_contents : contents ≡ flat_map bytes_of more

tree_left : (done files : Files) (paths sizes contents : List ℕ) → AreNamed done → AreNamed files → flat_map path_bytes done ++ paths ≡ flat_map path_bytes files
    → map size_of done ++ sizes ≡ map size_of files → flat_map bytes_of done ++ contents ≡ flat_map bytes_of files → Left done files paths sizes contents
tree_left [] files paths sizes contents d f p s c = record { more = files; is = refl; left_paths = p; left_sizes = s; left_contents = c }
tree_left (x ∷ done) [] paths sizes contents d f p s c = absurd (cc)
tree_left (x ∷ done) (y ∷ files) paths sizes contents d f p s c =
    let here : x.0 ++ 0 ∷ (flat_map path_bytes done ++ paths) ≡ y.0 ++ 0 ∷ flat_map path_bytes files =
    sym (append_assoc x.0 (0 ∷ []) (flat_map path_bytes done ++ paths)) ∙ sym (append_assoc (null_terminated_text x.0) (flat_map path_bytes done) paths) ∙ p
    ∙ append_assoc y.0 (0 ∷ []) (flat_map path_bytes files) in
    let cut = cut_same x.0 y.0 _ _ d.0 f.0 here in
    let long : length x.1 ≡ length y.1 = cc in
    let sizes_left : map size_of done ++ sizes ≡ map size_of files = cc in
    let content : x.1 ++ (flat_map bytes_of done ++ contents) ≡ y.1 ++ flat_map bytes_of files = sym (append_assoc x.1 (flat_map bytes_of done) contents) ∙ c in
    let same : x.1 ≡ y.1 = sym (take_at x.1 _ (length x.1) refl) ∙ ap (take (length x.1)) content ∙ take_at y.1 _ (length x.1) (sym long) in
    let bytes_left : flat_map bytes_of done ++ contents ≡ flat_map bytes_of files = append_cancel_left y.1 _ _ (ap (λ s. s ++ (flat_map bytes_of done ++ contents)) (sym same) ∙ content) in
    let rest = tree_left done files paths sizes contents d.2 f.2 cut.1 sizes_left bytes_left in
    record {
      more = rest.more;
      is = λ j. (sym cut.0 j, sym same j) ∷ rest.is j;
      left_paths = rest.left_paths;
      left_sizes = rest.left_sizes;
      left_contents = rest.left_contents;
    }

-- the slices spell these files, of which some are read
left_of : (paths sizes contents : List ℕ) (i path_at byte_at : ℕ) (done files : Files) → ReadUpTo paths sizes contents i path_at byte_at done
    → Spells paths sizes contents files → Left done files (drop path_at paths) (drop i sizes) (drop byte_at contents)
left_of paths sizes contents i path_at byte_at done files r s =
    tree_left done files _ _ _ r.good s.named (sym r.read_paths ∙ s.are_paths)
    (ap (λ x. x ++ drop i sizes) (sym r.read_sizes) ∙ take-append-drop i sizes ∙ s.are_sizes) (sym r.read_contents ∙ s.are_contents)

-- the next of the files
record Next (done files : Files) (paths : List ℕ) (size : ℕ) (contents : List ℕ) : Type 0 where
  path : List ℕ
  bytes : List ℕ
  after : Files
  is : files ≡ done ++ (path, bytes) ∷ after
  next_path : paths ≡ null_terminated_text path ++ flat_map path_bytes after
  next_size : length bytes ≡ size
  next_bytes : contents ≡ bytes ++ flat_map bytes_of after

next_of : (done files : Files) (paths sizes contents : List ℕ) (size : ℕ) (rest : List ℕ) → Left done files paths sizes contents → sizes ≡ size ∷ rest
    → Next done files paths size contents
next_of done files paths sizes contents size rest l e = by l.more l.is l.left_paths l.left_sizes l.left_contents
  where
    by : (more : Files) → files ≡ done ++ more → paths ≡ flat_map path_bytes more → sizes ≡ map size_of more → contents ≡ flat_map bytes_of more
        → Next done files paths size contents
    by [] is p s c = absurd (cc)
    by (f ∷ more) is p s c = record { path = f.0; bytes = f.1; after = more; is = is; next_path = p; next_size = cc; next_bytes = c }

next_at : (paths sizes contents : List ℕ) (i path_at byte_at : ℕ) (done files : Files) (size : ℕ) → ReadUpTo paths sizes contents i path_at byte_at done
    → i < length sizes → size ≡ get_or sizes i 0 → Spells paths sizes contents files → Next done files (drop path_at paths) size (drop byte_at contents)
next_at paths sizes contents i path_at byte_at done files size r less at_i s =
    next_of done files _ _ _ size (drop (i + 1) sizes) (left_of paths sizes contents i path_at byte_at done files r s)
    (drop_more sizes i 0 less ∙ ap (λ n. n ∷ drop (i + 1) sizes) (sym at_i))

-- where no file is next, the slices spell no tree
pub no_next : (paths sizes contents : List ℕ) (i path_at byte_at : ℕ) (done : Files) (size : ℕ) → ReadUpTo paths sizes contents i path_at byte_at done
    → i < length sizes → size ≡ get_or sizes i 0
    → HasNoFirst (take (length paths - path_at) (drop path_at paths)) size (take (length contents - byte_at) (drop byte_at contents))
    → (files : Files) → Spells paths sizes contents files → ⊥
no_next paths sizes contents i path_at byte_at done size r less at_i none files s =
    let n = next_at paths sizes contents i path_at byte_at done files size r less at_i s in
    let named = subst AreNamed n.is s.named in
    none n.path n.bytes (flat_map path_bytes n.after) (flat_map bytes_of n.after) (text_in done n.after n.path n.bytes named)
    (take_rest paths path_at ∙ n.next_path) n.next_size (take_rest contents byte_at ∙ n.next_bytes)

-- where the next path was read before, too
pub read_before : (paths sizes contents : List ℕ) (i path_at byte_at : ℕ) (done : Files) (size : ℕ) (path bytes : List ℕ)
    → ReadUpTo paths sizes contents i path_at byte_at done → i < length sizes → size ≡ get_or sizes i 0
    → IsFirst (take (length paths - path_at) (drop path_at paths)) size (take (length contents - byte_at) (drop byte_at contents)) path bytes
    → is_some (file_at done path) ≡ true → (files : Files) → Spells paths sizes contents files → ⊥
read_before paths sizes contents i path_at byte_at done size path bytes r less at_i first there files s =
    let n = next_at paths sizes contents i path_at byte_at done files size r less at_i s in
    let named = subst AreNamed n.is s.named in
    let begins = subst (λ b. BeginsWith b path) (take_rest paths path_at) first.path_first in
    let same = cut_same path n.path _ _ begins.is_text (text_in done n.after n.path n.bytes named)
    (sym begins.parts ∙ n.next_path ∙ append_assoc n.path (0 ∷ []) (flat_map path_bytes n.after)) in
    let none : file_at done path ≡ None = ap (file_at done) same.0 ∙ none_before done n.after n.path n.bytes named in
    let is : is_some (file_at done path) ≡ is_some {T = List ℕ} None = ap is_some none in
    cc

-- at the end all are read
pub all_read : (paths sizes contents : List ℕ) (i path_at byte_at : ℕ) (done : Files) → ReadUpTo paths sizes contents i path_at byte_at done
    → length sizes ≤ i → length paths ≤ path_at → length contents ≤ byte_at → Spells paths sizes contents done
all_read paths sizes contents i path_at byte_at done r si pi ci = record {
  are_paths = r.read_paths ∙ ap (λ s. flat_map path_bytes done ++ s) (drop_all path_at paths pi) ∙ append-nil (flat_map path_bytes done);
  are_sizes = sym (take_all i sizes si) ∙ r.read_sizes;
  are_contents = r.read_contents ∙ ap (λ s. flat_map bytes_of done ++ s) (drop_all byte_at contents ci) ∙ append-nil (flat_map bytes_of done);
  named = r.good;
}

-- where something is left at the end, the slices spell no tree
pub some_left : (paths sizes contents : List ℕ) (i path_at byte_at : ℕ) (done : Files) → ReadUpTo paths sizes contents i path_at byte_at done
    → length sizes ≤ i → (length paths ≤ path_at → length contents ≤ byte_at → ⊥) → (files : Files) → Spells paths sizes contents files → ⊥
some_left paths sizes contents i path_at byte_at done r si more files s = by l.more l.left_paths l.left_sizes l.left_contents
  where
    l : Left done files (drop path_at paths) (drop i sizes) (drop byte_at contents)
    l = left_of paths sizes contents i path_at byte_at done files r s

    by : (rest : Files) → drop path_at paths ≡ flat_map path_bytes rest → drop i sizes ≡ map size_of rest → drop byte_at contents ≡ flat_map bytes_of rest → ⊥
    by [] p z c = more (omega (arith, ap length p, length-drop path_at paths)) (omega (arith, ap length c, length-drop byte_at contents))
    by (f ∷ rest) p z c = let none = drop_all i sizes si in cc

-- slices spell one tree at most
pub Spells-same : (paths sizes contents : List ℕ) (files others : Files) → Spells paths sizes contents files → Spells paths sizes contents others → others ≡ files
Spells-same paths sizes contents files others s t = by l.more l.is l.left_sizes
  where
    l : Left files others [] [] []
    l = tree_left files others [] [] [] s.named t.named (append-nil _ ∙ sym s.are_paths ∙ t.are_paths) (append-nil _ ∙ sym s.are_sizes ∙ t.are_sizes)
        (append-nil _ ∙ sym s.are_contents ∙ t.are_contents)

    by : (more : Files) → others ≡ files ++ more → [] ≡ map size_of more → others ≡ files
    by [] is z = is ∙ append-nil files
    by (f ∷ more) is z = absurd (cc)

-- Files as the entries of a map.
use Rattle.std.proofs.Common.{◌≡◌, ℕ, Bool, true, false, List, [], ◌∷◌, ◌++◌, Option, Some, String, Vec, string_bytes, refl, sym, ap, ◌∙◌}
use Rattle.std.proofs.Common.{cond, append_assoc, ◌||◌, if◌then◌else◌}
use Rattle.std.specs.declared.alloc.Global.{Global}
use Rattle.std.specs.Option.{option_map}
use Rattle.std.specs.Str.{bytes_eq}
use Rattle.std.specs.String.{string_eq}
use Rattle.std.specs.Map.{lookup}
use Rattle.std.specs.List.{list_any}
use Rattle.std.proofs.lemmas.List.Folds.{list_any-append}
use Rattle.std.proofs.lemmas.List.{map-append}
use Rattle.std.proofs.lemmas.Slice.Eq.{bytes_eq-Decides}
use Rattle.std.proofs.lemmas.Bool.{false≢true}
use Rattle.support.specs.Maps.{insert_entry}
use Rattle.ports.specs.Tree.{file_at}
use Rattle.support.specs.Sets.{insert_key}
use Rattle.ports.specs.memory.MemTree.{contents, is_one_of}

same_test : (a b : Bool) → (a ≡ true → b ≡ true) → (b ≡ true → a ≡ true) → a ≡ b
same_test true true f g = refl
same_test true false f g = sym (f refl)
same_test false true f g = g refl
same_test false false f g = refl

bytes_eq-swap : (a b : List ℕ) → bytes_eq a b ≡ bytes_eq b a
bytes_eq-swap a b =
    same_test _ _ (λ h. (bytes_eq-Decides b a).1 (sym ((bytes_eq-Decides a b).0 h)))
    (λ h. (bytes_eq-Decides a b).1 (sym ((bytes_eq-Decides b a).0 h)))

chosen : {A B : Type 0} (f : A → B) (a b : Bool) (x : A) (r : Option A) (s : Option B) → a ≡ b → option_map f r ≡ s
    → option_map f (cond a (Some x) r) ≡ cond b (Some (f x)) s
chosen f true true x r s e h = refl
chosen f true false x r s e h = absurd (false≢true (sym e))
chosen f false true x r s e h = absurd (false≢true e)
chosen f false false x r s e h = h

-- what a look-up by a path finds
pub file_at-lookup : (path : List ℕ) (files : List (String Global × Vec ℕ Global))
    → option_map (λ v. v.items) (lookup (λ k. bytes_eq path (string_bytes k)) files) ≡ file_at (contents files) path
file_at-lookup path [] = refl
file_at-lookup path (file ∷ files) =
    chosen (λ v. v.items) _ _ file.1 _ _ (bytes_eq-swap path (string_bytes file.0)) (file_at-lookup path files)

-- behind the same files, lists with the same files
file_at-behind : (path : List ℕ) (files a b : List (List ℕ × List ℕ)) → file_at a path ≡ file_at b path
    → file_at (files ++ a) path ≡ file_at (files ++ b) path
file_at-behind path [] a b h = h
file_at-behind path (file ∷ files) a b h = ap (λ r. if bytes_eq file.0 path then Some file.1 else r) (file_at-behind path files a b h)

swapped : {A : Type 0} (a b : Bool) (x y r : A) → (a ≡ true → b ≡ true → x ≡ y) → cond a x (cond b y r) ≡ cond b y (cond a x r)
swapped true true x y r h = h refl refl
swapped true false x y r h = refl
swapped false true x y r h = refl
swapped false false x y r h = refl

covered : {A : Type 0} (a b : Bool) (x y r : A) → a ≡ b → cond a x r ≡ cond b x (cond a y r)
covered true true x y r e = refl
covered true false x y r e = absurd (false≢true (sym e))
covered false true x y r e = absurd (false≢true e)
covered false false x y r e = refl

-- a file that is put into a map stands before those that were there
file_at-insert : (path : List ℕ) (files : List (String Global × Vec ℕ Global)) (name : String Global) (bytes : Vec ℕ Global)
    → file_at (contents (insert_entry string_eq files name bytes)) path ≡ file_at ((string_bytes name, bytes.items) ∷ contents files) path
file_at-insert path [] name bytes = refl
file_at-insert path (file ∷ files) name bytes =
    elim (string_eq name file.0) as (λ s. string_eq name file.0 ≡ s
    → file_at (contents (cond s ((file.0, bytes) ∷ files) (file ∷ insert_entry string_eq files name bytes))) path ≡ file_at
    ((string_bytes name, bytes.items) ∷ contents (file ∷ files)) path) [
      | true ↦ λ e. covered _ _ _ _ _ (ap (λ n. bytes_eq n path) (sym ((bytes_eq-Decides (string_bytes name) (string_bytes file.0)).0 e)))
      | false ↦ λ e.
          ap (λ r. if bytes_eq (string_bytes file.0) path then Some file.1.items else r) (file_at-insert path files name bytes)
          ∙ swapped _ _ _ _ _ (λ h k. absurd (false≢true (sym e ∙ (bytes_eq-Decides (string_bytes name) (string_bytes file.0)).1
          ((bytes_eq-Decides (string_bytes name) path).0 k ∙ sym ((bytes_eq-Decides (string_bytes file.0) path).0 h)))))
    ] refl

-- the last of the files that are left goes into the map
pub file_at-moved : (path : List ℕ) (left less : List (String Global × Vec ℕ Global)) (name : String Global) (bytes : Vec ℕ Global)
    (files more : List (String Global × Vec ℕ Global))
    → left ≡ less ++ (name, bytes) ∷ [] → more ≡ insert_entry string_eq files name bytes
    → file_at (contents less ++ contents more) path ≡ file_at (contents left ++ contents files) path
file_at-moved path left less name bytes files more l m =
    ap (λ r. file_at (contents less ++ contents r) path) m
    ∙ file_at-behind path (contents less) _ _ (file_at-insert path files name bytes)
    ∙ ap (λ r. file_at r path) (sym (append_assoc (contents less) ((string_bytes name, bytes.items) ∷ []) (contents files)))
    ∙ ap (λ r. file_at (r ++ contents files) path) (sym (map-append _ less ((name, bytes) ∷ [])) ∙ sym (ap contents l))

-- a path that stands among others already answers as one of them does
covers : (path : List ℕ) (name : String Global) (known : List (String Global)) → list_any (string_eq name) known ≡ true
    → is_one_of known path ≡ (is_one_of known path || (bytes_eq path (string_bytes name) || false))
covers path name known there = by (bytes_eq path (string_bytes name)) refl (is_one_of known path) refl
  where
    by : (same : Bool) → bytes_eq path (string_bytes name) ≡ same → (b : Bool) → is_one_of known path ≡ b → b ≡ (b || (same || false))
    by same s true e = refl
    by true s false e = absurd (false≢true (sym e ∙ ap (is_one_of known) ((bytes_eq-Decides path (string_bytes name)).0 s) ∙ there))
    by false s false e = refl

-- a path more in the set of the paths that are known
pub known_more : (path : List ℕ) (known more : List (String Global)) (name : String Global) (names : List (String Global))
    → more ≡ insert_key string_eq known name → is_one_of known path ≡ is_one_of names path
    → is_one_of more path ≡ is_one_of (names ++ name ∷ []) path
known_more path known more name names is before =
    ap (λ ks. is_one_of ks path) is ∙ put (list_any (string_eq name) known) refl
    ∙ ap (λ r. r || (bytes_eq path (string_bytes name) || false)) before
    ∙ sym (list_any-append (λ p. bytes_eq path (string_bytes p)) names (name ∷ []))
  where
    put : (there : Bool) → list_any (string_eq name) known ≡ there
        → is_one_of (if there then known else known ++ name ∷ []) path
        ≡ (is_one_of known path || (bytes_eq path (string_bytes name) || false))
    put true e = covers path name known e
    put false e = list_any-append (λ p. bytes_eq path (string_bytes p)) known (name ∷ [])

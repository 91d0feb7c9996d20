-- Files by their paths: what a table finds, and paths of which no two are the same.
use Rattle.std.proofs.Common.{◌≡◌, ℕ, Bool, true, false, List, [], ◌∷◌, ◌++◌, Option, Some, None, Bor, refl, sym, ap, subst, ◌∙◌, cond, is_some, if◌then◌else◌}
use Rattle.std.specs.Option.{option_map}
use Rattle.std.specs.Str.{bytes_eq}
use Rattle.std.specs.Map.{lookup}
use Rattle.std.proofs.lemmas.Slice.Eq.{bytes_eq-Decides}
use Rattle.std.proofs.lemmas.Bool.{false≢true}
use Rattle.indexmap.specs.IndexMap.{insert_entry}
use Rattle.ports.specs.Tree.{file_at}
use Rattle.byte_devices.specs.Slices.{AreNamed}
use Rattle.byte_devices.specs.SlicesView.{files_of}
use Rattle.byte_devices.specs.Texts.{IsText}

same_test : (a b : Bool) → (a ≡ true → b ≡ true) → (b ≡ true → a ≡ true) → a ≡ b
same_test true true f g = refl
same_test true false f g = sym (f refl)
same_test false true f g = g refl
same_test false false f g = refl

bytes_eq-swap : (a b : List ℕ) → bytes_eq a b ≡ bytes_eq b a
bytes_eq-swap a b =
    same_test _ _ (λ h. (bytes_eq-Decides b a).1 (sym ((bytes_eq-Decides a b).0 h)))
    (λ h. (bytes_eq-Decides a b).1 (sym ((bytes_eq-Decides b a).0 h)))

chosen : {A B : Type 0} (f : A → B) (a b : Bool) (x : A) (r : Option A) (s : Option B) → a ≡ b → option_map f r ≡ s
    → option_map f (cond a (Some x) r) ≡ cond b (Some (f x)) s
chosen f true true x r s e h = refl
chosen f true false x r s e h = absurd (false≢true (sym e))
chosen f false true x r s e h = absurd (false≢true e)
chosen f false false x r s e h = h

-- what a look-up by a path finds
pub file_at-lookup : (path : List ℕ) (files : List (Bor (List ℕ) × Bor (List ℕ)))
    → option_map (λ v. v.now) (lookup (λ k. bytes_eq path k.now) files) ≡ file_at (files_of files) path
file_at-lookup path [] = refl
file_at-lookup path (file ∷ files) =
    chosen (λ v. v.now) _ _ file.1 _ _ (bytes_eq-swap path file.0.now) (file_at-lookup path files)

is_some-map : {A B : Type 0} (f : A → B) (r : Option A) → is_some (option_map f r) ≡ is_some r
is_some-map f (Some x) = refl
is_some-map f None = refl

pub is_some-lookup : (path : List ℕ) (files : List (Bor (List ℕ) × Bor (List ℕ)))
    → is_some (lookup (λ k. bytes_eq path k.now) files) ≡ is_some (file_at (files_of files) path)
is_some-lookup path files = sym (is_some-map (λ v. v.now) (lookup (λ k. bytes_eq path k.now) files)) ∙ ap is_some (file_at-lookup path files)

-- the first of these files has another path
first_differs : (d : List ℕ) (bytes : List ℕ) (files : List (List ℕ × List ℕ)) (path : List ℕ) → file_at ((d, bytes) ∷ files) path ≡ None
    → (bytes_eq d path ≡ false) × (file_at files path ≡ None)
first_differs d bytes files path h = by (bytes_eq d path) refl
  where
    by : (z : Bool) → bytes_eq d path ≡ z → (bytes_eq d path ≡ false) × (file_at files path ≡ None)
    by true e = let found : file_at ((d, bytes) ∷ files) path ≡ Some bytes = ap (λ z. if z then Some bytes else file_at files path) e in absurd (cc)
    by false e = (e, sym (ap (λ z. if z then Some bytes else file_at files path) e) ∙ h)

-- a new file has no path of those before it
pub insert_last : (files : List (Bor (List ℕ) × Bor (List ℕ))) (path bytes : Bor (List ℕ)) → file_at (files_of files) path.now ≡ None
    → files_of (insert_entry (λ a b. bytes_eq a.now b.now) files path bytes) ≡ files_of files ++ (path.now, bytes.now) ∷ []
insert_last [] path bytes h = refl
insert_last (file ∷ files) path bytes h =
    let other = first_differs file.0.now file.1.now (files_of files) path.now h in
    ap (λ z. files_of (if z then (file.0, bytes) ∷ files else file ∷ insert_entry (λ a b. bytes_eq a.now b.now) files path bytes))
    (bytes_eq-swap path.now file.0.now ∙ other.0)
    ∙ ap (λ fs. (file.0.now, file.1.now) ∷ fs) (insert_last files path bytes other.1)

file_at-behind : (files more : List (List ℕ × List ℕ)) (path : List ℕ) → file_at files path ≡ None → file_at (files ++ more) path ≡ file_at more path
file_at-behind [] more path h = refl
file_at-behind (file ∷ files) more path h =
    let other = first_differs file.0 file.1 files path h in
    ap (λ z. if z then Some file.1 else file_at (files ++ more) path) other.0 ∙ file_at-behind files more path other.1

pub AreNamed-push : (files : List (List ℕ × List ℕ)) (path bytes : List ℕ) → AreNamed files → IsText path → file_at files path ≡ None
    → AreNamed (files ++ (path, bytes) ∷ [])
AreNamed-push [] path bytes n t h = (t, refl, tt)
AreNamed-push (file ∷ files) path bytes n t h =
    let other = first_differs file.0 file.1 files path h in (
      n.0,
      file_at-behind files ((path, bytes) ∷ []) file.0 n.1 ∙ ap (λ z. if z then Some bytes else None) (bytes_eq-swap path file.0 ∙ other.0),
      AreNamed-push files path bytes n.2 t other.1,
    )

found_in : (files more : List (List ℕ × List ℕ)) (path bytes : List ℕ) → file_at (files ++ (path, bytes) ∷ more) path ≡ None → ⊥
found_in [] more path bytes h = false≢true (sym (first_differs path bytes more path h).0 ∙ (bytes_eq-Decides path path).1 refl)
found_in (file ∷ files) more path bytes h = found_in files more path bytes (first_differs file.0 file.1 (files ++ (path, bytes) ∷ more) path h).1

-- no earlier file has the path of a later one
pub none_before : (files more : List (List ℕ × List ℕ)) (path bytes : List ℕ) → AreNamed (files ++ (path, bytes) ∷ more) → file_at files path ≡ None
none_before [] more path bytes n = refl
none_before (file ∷ files) more path bytes n = by (bytes_eq file.0 path) refl (none_before files more path bytes n.2)
  where
    by : (z : Bool) → bytes_eq file.0 path ≡ z → file_at files path ≡ None → (if bytes_eq file.0 path then Some file.1 else file_at files path) ≡ None
    by true e rest =
        absurd (found_in files more path bytes (subst (λ p. file_at (files ++ (path, bytes) ∷ more) p ≡ None) ((bytes_eq-Decides file.0 path).0 e) n.1))
    by false e rest = ap (λ z. if z then Some file.1 else file_at files path) e ∙ rest

pub text_in : (files more : List (List ℕ × List ℕ)) (path bytes : List ℕ) → AreNamed (files ++ (path, bytes) ∷ more) → IsText path
text_in [] more path bytes n = n.0
text_in (file ∷ files) more path bytes n = text_in files more path bytes n.2

pub absent : {A : Type 0} (o : Option A) → is_some o ≡ false → o ≡ None
absent None h = refl
absent (Some x) h = absurd (false≢true (sym h))

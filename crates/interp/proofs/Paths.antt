-- The definition files of folders.
use Rattle.std.proofs.Common.{◌≡◌, ℕ, Bool, true, false, List, [], ◌∷◌, ◌++◌, length, length-append, drop, ◌-◌, refl, sym, ap, ◌∙◌, arith}
use Rattle.std.specs.Prelude.{◌||◌, codes, bytes_eq}
use Rattle.std.specs.List.{list_any}
use Rattle.std.proofs.Math.Seq.{drop-append_seam}
use Rattle.std.proofs.lemmas.Bool.{false≢true}
use Rattle.std.proofs.lemmas.Slice.Eq.{bytes_eq-Decides}
use Rattle.interp.specs.Cost.{is_definition_file}
use Rattle.world.specs.Costs.{definition_file, is_opened}

-- a list and what stands behind it
front_same : (a b c : List ℕ) → length a ≡ length b → a ++ c ≡ b ++ c → a ≡ b
front_same [] [] c l e = refl
front_same [] (y ∷ b) c l e = absurd (omega arith)
front_same (x ∷ a) [] c l e = absurd (omega arith)
front_same (x ∷ a) (y ∷ b) c l e =
    let h : x ∷ (a ++ c) ≡ y ∷ (b ++ c) = e in
    let same : x ≡ y = cc in
    let rest : a ++ c ≡ b ++ c = cc in
    let ends : a ≡ b = front_same a b c (omega (arith, l)) rest in
    ap (λ z. z ∷ a) same ∙ ap (λ zs. y ∷ zs) ends

same_length : (a b c : List ℕ) → a ++ c ≡ b ++ c → length a ≡ length b
same_length a b c e = omega (arith, ap length e, length-append a c, length-append b c)

front_as : (a b c : List ℕ) → a ++ c ≡ b ++ c → a ≡ b
front_as a b c e = front_same a b c (same_length a b c e) e

-- folders of one definition file are one
pub same_folder : (a b : List ℕ) → definition_file a ≡ definition_file b → a ≡ b
same_folder [] [] e = refl
same_folder [] (y ∷ b) e = absurd (omega (arith, ap length e, length-append b (codes "/" ++ codes "meson.build")))
same_folder (x ∷ a) [] e = absurd (omega (arith, ap length e, length-append a (codes "/" ++ codes "meson.build")))
same_folder (x ∷ a) (y ∷ b) e = front_as (x ∷ a) (y ∷ b) (codes "/" ++ codes "meson.build") e

test_as : (a b : List ℕ) (x y : Bool) → bytes_eq (definition_file a) (definition_file b) ≡ x → bytes_eq b a ≡ y → x ≡ y
test_as a b true true p q = refl
test_as a b true false p q = absurd (false≢true (sym q ∙ (bytes_eq-Decides b a).1 (sym (same_folder a b ((bytes_eq-Decides (definition_file a) (definition_file b)).0 p)))))
test_as a b false true p q = absurd (false≢true (sym p ∙ (bytes_eq-Decides (definition_file a) (definition_file b)).1 (ap definition_file (sym ((bytes_eq-Decides b a).0 q)))))
test_as a b false false p q = refl

-- a folder that was not entered has a file that was not opened
pub not_opened : (folders : List (List ℕ)) (folder : List ℕ) → is_opened folders (definition_file folder) ≡ list_any (bytes_eq folder) folders
not_opened [] folder = refl
not_opened (f ∷ fs) folder =
    ap (λ b. b || is_opened fs (definition_file folder)) (test_as f folder (bytes_eq (definition_file f) (definition_file folder)) (bytes_eq folder f) refl refl)
    ∙ ap (λ b. bytes_eq folder f || b) (not_opened fs folder)

any_true : (b : Bool) → (b || true) ≡ true
any_true true = refl
any_true false = refl

ends_so : (folder : List ℕ) → is_definition_file (folder ++ (codes "/" ++ codes "meson.build")) ≡ true
ends_so folder =
    let needle : List ℕ = codes "/" ++ codes "meson.build" in
    let size : length (folder ++ needle) - 12 ≡ length folder = omega (arith, length-append folder needle) in
    let rest : drop (length (folder ++ needle) - 12) (folder ++ needle) ≡ needle = ap (λ n. drop n (folder ++ needle)) size ∙ drop-append_seam folder needle in
    ap (λ l. bytes_eq (folder ++ needle) (codes "meson.build") || bytes_eq l (codes "/meson.build")) rest ∙ any_true (bytes_eq (folder ++ needle) (codes "meson.build"))

-- it is one
pub is_definition : (folder : List ℕ) → is_definition_file (definition_file folder) ≡ true
is_definition [] = refl
is_definition (x ∷ xs) = ends_so (x ∷ xs)

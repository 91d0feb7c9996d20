-- The test of equality answers exactly whether two values are equal.
use Rattle.std.proofs.Common.{◌≡◌, ℕ, ℤ, Bool, true, false, List, [], ◌∷◌, bytes_eq, refl, sym, ap, ◌∙◌, eq-eqb}
use Rattle.std.specs.Prelude.{◌&&◌, ◌==◌, ◌↔◌, IsTrue}
use Rattle.std.specs.Ordering.{int_eq}
use Rattle.std.proofs.lemmas.Bool.{eqb-true, and_from, and_parts}
use Rattle.std.proofs.lemmas.Bool.Decides.{Decides-int_eq}
use Rattle.std.specs.Cmp.Lexicographic.{bytes_decides}
use Rattle.values.specs.declared.object.Object.{Object}
use Rattle.values.specs.declared.object.Object.TheVariants as TheObject
use Rattle.values.specs.declared.object.Feature.{Feature}
use Rattle.values.specs.declared.object.Feature.TheVariants as TheFeature
use Rattle.values.specs.declared.object.Program.{Program}
use Rattle.values.specs.declared.object.Program.TheVariants as TheProgram
use Rattle.values.specs.declared.object.Source.{Source}
use Rattle.values.specs.declared.object.Source.TheVariants as TheSource
use Rattle.values.specs.declared.object.Dependency.{Dependency}
use Rattle.values.specs.Data.{Data, boolean, integer, text, list, dictionary, object, Items, no_items, item, Entries, no_entries, entry}
use Rattle.values.specs.Same.{same_boolean, same_texts, same_feature, same_program, same_source, same_sources, same_dependency, same_object}
use Rattle.values.specs.Same.{same, same_items, same_entries}

same_boolean-is : (a b : Bool) → same_boolean a b ≡ true → a ≡ b
same_boolean-is true true h = refl
same_boolean-is true false h = absurd cc
same_boolean-is false true h = absurd cc
same_boolean-is false false h = refl

bytes_eq-is : (xs ys : List ℕ) → bytes_eq xs ys ≡ true → xs ≡ ys
bytes_eq-is xs ys h = (bytes_decides xs ys).0 h

bytes_eq-self : (xs : List ℕ) → bytes_eq xs xs ≡ true
bytes_eq-self xs = (bytes_decides xs xs).1 refl

eq-self : (n : ℕ) → (n == n) ≡ true
eq-self n = eq-eqb n n refl

int_eq-is : (y z : ℤ) → int_eq y z ≡ true → y ≡ z
int_eq-is y z h = (Decides-int_eq y z).0 h

int_eq-self : (z : ℤ) → int_eq z z ≡ true
int_eq-self z = (Decides-int_eq z z).1 refl

same_boolean-self : (a : Bool) → same_boolean a a ≡ true
same_boolean-self true = refl
same_boolean-self false = refl

same_texts-is : (xs ys : List (List ℕ)) → same_texts xs ys ≡ true → xs ≡ ys
same_texts-is [] [] h = refl
same_texts-is [] (y ∷ ys) h = absurd cc
same_texts-is (x ∷ xs) [] h = absurd cc
same_texts-is (x ∷ xs) (y ∷ ys) h =
    let k = and_parts (bytes_eq x y) (same_texts xs ys) h in
    let e = bytes_eq-is x y k.0 in
    let f = same_texts-is xs ys k.1 in
    cc

same_texts-self : (xs : List (List ℕ)) → same_texts xs xs ≡ true
same_texts-self [] = refl
same_texts-self (x ∷ xs) = and_from (bytes_eq x x) (same_texts xs xs) (bytes_eq-self x) (same_texts-self xs)

same_feature-is : (f g : Feature) → same_feature f g ≡ true → f ≡ g
same_feature-is TheFeature.Enabled TheFeature.Enabled h = refl
same_feature-is TheFeature.Disabled TheFeature.Disabled h = refl
same_feature-is TheFeature.Auto TheFeature.Auto h = refl
same_feature-is _ _ h = absurd cc

same_feature-self : (f : Feature) → same_feature f f ≡ true
same_feature-self TheFeature.Enabled = refl
same_feature-self TheFeature.Disabled = refl
same_feature-self TheFeature.Auto = refl

same_program-is : (p q : Program) → same_program p q ≡ true → p ≡ q
same_program-is TheProgram.NotFound TheProgram.NotFound h = refl
same_program-is (TheProgram.Words v) (TheProgram.Words w) h = ap TheProgram.Words (same_texts-is v w h)
same_program-is (TheProgram.File p) (TheProgram.File q) h = ap TheProgram.File (bytes_eq-is p q h)
same_program-is _ _ h = absurd cc

same_program-self : (p : Program) → same_program p p ≡ true
same_program-self TheProgram.NotFound = refl
same_program-self (TheProgram.Words w) = same_texts-self w
same_program-self (TheProgram.File p) = bytes_eq-self p

same_numbers-is : (m i n j : ℕ) → ((m == n) && (i == j)) ≡ true → (m ≡ n) × (i ≡ j)
same_numbers-is m i n j h = (eqb-true m n (and_parts (m == n) (i == j) h).0, eqb-true i j (and_parts (m == n) (i == j) h).1)

same_file-is : (p q : List ℕ) (b c : Bool) → (bytes_eq p q && same_boolean b c) ≡ true → (p ≡ q) × (b ≡ c)
same_file-is p q b c h =
    let k = and_parts (bytes_eq p q) (same_boolean b c) h in (bytes_eq-is p q k.0, same_boolean-is b c k.1)

same_source-is : (x y : Source) → same_source x y ≡ true → x ≡ y
same_source-is (TheSource.File p b) (TheSource.File q c) h = let e = same_file-is p q b c h in cc
same_source-is (TheSource.CustomTarget m i) (TheSource.CustomTarget n j) h = let e = same_numbers-is m i n j h in cc
same_source-is (TheSource.CustomOutput m i) (TheSource.CustomOutput n j) h = let e = same_numbers-is m i n j h in cc
same_source-is _ _ h = absurd cc

same_source-self : (x : Source) → same_source x x ≡ true
same_source-self (TheSource.File p b) = and_from (bytes_eq p p) (same_boolean b b) (bytes_eq-self p) (same_boolean-self b)
same_source-self (TheSource.CustomTarget m i) = and_from (m == m) (i == i) (eq-self m) (eq-self i)
same_source-self (TheSource.CustomOutput m i) = and_from (m == m) (i == i) (eq-self m) (eq-self i)

same_sources-is : (xs ys : List Source) → same_sources xs ys ≡ true → xs ≡ ys
same_sources-is [] [] h = refl
same_sources-is [] (y ∷ ys) h = absurd cc
same_sources-is (x ∷ xs) [] h = absurd cc
same_sources-is (x ∷ xs) (y ∷ ys) h =
    let k = and_parts (same_source x y) (same_sources xs ys) h in
    let e = same_source-is x y k.0 in
    let f = same_sources-is xs ys k.1 in
    cc

same_sources-self : (xs : List Source) → same_sources xs xs ≡ true
same_sources-self [] = refl
same_sources-self (x ∷ xs) = and_from (same_source x x) (same_sources xs xs) (same_source-self x) (same_sources-self xs)

abbrev made_dependency : Bool → List ℕ → List ℕ → List (List ℕ) → List (List ℕ) → List (List ℕ) → List ℕ → List Source → Dependency
made_dependency a b c d e f g h = record { is_found = a; name = b; version = c; include_directories = d; compile_args = e; link_args = f; link_with = g; sources = h }

same_dependency_from : (m n : Dependency) → m.is_found ≡ n.is_found → m.name ≡ n.name → m.version ≡ n.version → m.include_directories ≡ n.include_directories → m.compile_args ≡ n.compile_args → m.link_args ≡ n.link_args → m.link_with ≡ n.link_with → m.sources ≡ n.sources → m ≡ n
same_dependency_from m n a b c d e f g h =
    (let f0 = λ (x : Bool). made_dependency x m.name m.version m.include_directories m.compile_args m.link_args m.link_with m.sources in ap f0 a)
    ∙ (let f1 = λ (x : List ℕ). made_dependency n.is_found x m.version m.include_directories m.compile_args m.link_args m.link_with m.sources in ap f1 b)
    ∙ (let f2 = λ (x : List ℕ). made_dependency n.is_found n.name x m.include_directories m.compile_args m.link_args m.link_with m.sources in ap f2 c)
    ∙ (let f3 = λ (x : List (List ℕ)). made_dependency n.is_found n.name n.version x m.compile_args m.link_args m.link_with m.sources in ap f3 d)
    ∙ (let f4 = λ (x : List (List ℕ)). made_dependency n.is_found n.name n.version n.include_directories x m.link_args m.link_with m.sources in ap f4 e)
    ∙ (let f5 = λ (x : List (List ℕ)). made_dependency n.is_found n.name n.version n.include_directories n.compile_args x m.link_with m.sources in ap f5 f)
    ∙ (let f6 = λ (x : List ℕ). made_dependency n.is_found n.name n.version n.include_directories n.compile_args n.link_args x m.sources in ap f6 g)
    ∙ (let f7 = λ (x : List Source). made_dependency n.is_found n.name n.version n.include_directories n.compile_args n.link_args n.link_with x in ap f7 h)

same_dependency-is : (d e : Dependency) → same_dependency d e ≡ true → d ≡ e
same_dependency-is d e h =
    let k0 = and_parts (same_boolean d.is_found e.is_found) _ h in
    let k1 = and_parts (bytes_eq d.name e.name) _ k0.1 in
    let k2 = and_parts (bytes_eq d.version e.version) _ k1.1 in
    let k3 = and_parts (same_texts d.include_directories e.include_directories) _ k2.1 in
    let k4 = and_parts (same_texts d.compile_args e.compile_args) _ k3.1 in
    let k5 = and_parts (same_texts d.link_args e.link_args) _ k4.1 in
    let k6 = and_parts (bytes_eq d.link_with e.link_with) _ k5.1 in
    let e0 = same_boolean-is d.is_found e.is_found k0.0 in
    let e1 = bytes_eq-is d.name e.name k1.0 in
    let e2 = bytes_eq-is d.version e.version k2.0 in
    let e3 = same_texts-is d.include_directories e.include_directories k3.0 in
    let e4 = same_texts-is d.compile_args e.compile_args k4.0 in
    let e5 = same_texts-is d.link_args e.link_args k5.0 in
    let e6 = bytes_eq-is d.link_with e.link_with k6.0 in
    let e7 = same_sources-is d.sources e.sources k6.1 in
    same_dependency_from d e e0 e1 e2 e3 e4 e5 e6 e7

same_dependency-self : (d : Dependency) → same_dependency d d ≡ true
same_dependency-self d =
    and_from (same_boolean d.is_found d.is_found) _ (same_boolean-self d.is_found)
    (and_from (bytes_eq d.name d.name) _ (bytes_eq-self d.name)
    (and_from (bytes_eq d.version d.version) _ (bytes_eq-self d.version)
    (and_from (same_texts d.include_directories d.include_directories) _ (same_texts-self d.include_directories)
    (and_from (same_texts d.compile_args d.compile_args) _ (same_texts-self d.compile_args)
    (and_from (same_texts d.link_args d.link_args) _ (same_texts-self d.link_args)
    (and_from (bytes_eq d.link_with d.link_with) _ (bytes_eq-self d.link_with) (same_sources-self d.sources)))))))

pub same_object-is : (o p : Object) → same_object o p ≡ true → o ≡ p
same_object-is (TheObject.Feature f) (TheObject.Feature g) h = ap TheObject.Feature (same_feature-is f g h)
same_object-is (TheObject.Dependency d) (TheObject.Dependency e) h = ap TheObject.Dependency (same_dependency-is d e h)
same_object-is (TheObject.Program p) (TheObject.Program q) h = ap TheObject.Program (same_program-is p q h)
same_object-is (TheObject.BuildTarget m) (TheObject.BuildTarget n) h = ap TheObject.BuildTarget (eqb-true m n h)
same_object-is (TheObject.CustomTarget m i) (TheObject.CustomTarget n j) h = let e = same_numbers-is m i n j h in cc
same_object-is (TheObject.CustomOutput m i) (TheObject.CustomOutput n j) h = let e = same_numbers-is m i n j h in cc
same_object-is (TheObject.File p b) (TheObject.File q c) h = let e = same_file-is p q b c h in cc
same_object-is (TheObject.IncludeDirectories v) (TheObject.IncludeDirectories w) h = ap TheObject.IncludeDirectories (same_texts-is v w h)
same_object-is TheObject.Machine TheObject.Machine h = refl
same_object-is TheObject.Meson TheObject.Meson h = refl
same_object-is TheObject.Compiler TheObject.Compiler h = refl
same_object-is (TheObject.ConfigurationData m) (TheObject.ConfigurationData n) h = ap TheObject.ConfigurationData (eqb-true m n h)
same_object-is TheObject.Disabler TheObject.Disabler h = refl
same_object-is _ _ h = absurd cc

pub same_object-self : (o : Object) → same_object o o ≡ true
same_object-self (TheObject.Feature f) = same_feature-self f
same_object-self (TheObject.Dependency d) = same_dependency-self d
same_object-self (TheObject.Program p) = same_program-self p
same_object-self (TheObject.BuildTarget m) = eq-self m
same_object-self (TheObject.CustomTarget m i) = and_from (m == m) (i == i) (eq-self m) (eq-self i)
same_object-self (TheObject.CustomOutput m i) = and_from (m == m) (i == i) (eq-self m) (eq-self i)
same_object-self (TheObject.File p b) = and_from (bytes_eq p p) (same_boolean b b) (bytes_eq-self p) (same_boolean-self b)
same_object-self (TheObject.IncludeDirectories v) = same_texts-self v
same_object-self TheObject.Machine = refl
same_object-self TheObject.Meson = refl
same_object-self TheObject.Compiler = refl
same_object-self (TheObject.ConfigurationData m) = eq-self m
same_object-self TheObject.Disabler = refl

mutual
  pub same-is : (d e : Data) → same d e ≡ true → d ≡ e
  same-is (boolean b) (boolean c) h = ap boolean (same_boolean-is b c h)
  same-is (integer y) (integer z) h = ap integer (int_eq-is y z h)
  same-is (text s) (text t) h = ap text (bytes_eq-is s t h)
  same-is (list xs) (list ys) h = ap list (same_items-is xs ys h)
  same-is (dictionary es) (dictionary fs) h = ap dictionary (same_entries-is es fs h)
  same-is (object o) (object p) h = ap object (same_object-is o p h)
  same-is _ _ h = absurd cc

  pub same_items-is : (xs ys : Items) → same_items xs ys ≡ true → xs ≡ ys
  same_items-is no_items no_items h = refl
  same_items-is (item x xs) (item y ys) h =
      let e = same-is x y (and_parts (same x y) (same_items xs ys) h).0 in
      let f = same_items-is xs ys (and_parts (same x y) (same_items xs ys) h).1 in
      cc
  same_items-is _ _ h = absurd cc

  pub same_entries-is : (es fs : Entries) → same_entries es fs ≡ true → es ≡ fs
  same_entries-is no_entries no_entries h = refl
  same_entries-is (entry k d es) (entry l e fs) h =
      let rest = (and_parts (bytes_eq k l) (same d e && same_entries es fs) h).1 in
      let a = bytes_eq-is k l (and_parts (bytes_eq k l) (same d e && same_entries es fs) h).0 in
      let b = same-is d e (and_parts (same d e) (same_entries es fs) rest).0 in
      let c = same_entries-is es fs (and_parts (same d e) (same_entries es fs) rest).1 in
      cc
  same_entries-is _ _ h = absurd cc

mutual
  pub same-self : (d : Data) → same d d ≡ true
  same-self (boolean b) = same_boolean-self b
  same-self (integer z) = int_eq-self z
  same-self (text t) = bytes_eq-self t
  same-self (list xs) = same_items-self xs
  same-self (dictionary es) = same_entries-self es
  same-self (object o) = same_object-self o

  pub same_items-self : (xs : Items) → same_items xs xs ≡ true
  same_items-self no_items = refl
  same_items-self (item x xs) = and_from (same x x) (same_items xs xs) (same-self x) (same_items-self xs)

  pub same_entries-self : (es : Entries) → same_entries es es ≡ true
  same_entries-self no_entries = refl
  same_entries-self (entry k d es) =
      and_from (bytes_eq k k) (same d d && same_entries es es) (bytes_eq-self k)
      (and_from (same d d) (same_entries es es) (same-self d) (same_entries-self es))

test_is : (a b : Bool) → (a ≡ true → b ≡ true) → (b ≡ true → a ≡ true) → a ≡ b
test_is true b f g = sym (f refl)
test_is false true f g = g refl
test_is false false f g = refl

-- an answer that is true just where two values are equal is the test's
pub same_from_iff : (d e : Data) (r : Bool) → ((IsTrue r) ↔ (d ≡ e)) → r ≡ same d e
same_from_iff d e r iff = test_is r (same d e) (λ h. ap (same d) (sym (iff.0 h)) ∙ same-self d) (λ h. iff.1 (same-is d e h))

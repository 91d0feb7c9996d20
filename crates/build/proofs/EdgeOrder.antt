-- Paths that are known, and edges whose needs are known.
use Rattle.std.proofs.Common.{◌≡◌, Bool, true, false, List, [], ◌∷◌, ◌++◌, refl, sym, ap, ◌∙◌, append-nil, append_assoc, bytes_eq}
use Rattle.std.specs.Prelude.{◌&&◌, ◌||◌, flat_map, if◌then◌else◌}
use Rattle.std.specs.List.{list_all}
use Rattle.std.proofs.lemmas.List.Folds.{list_any-append, list_all-append}
use Rattle.std.proofs.lemmas.Slice.Eq.{bytes_eq-Decides}
use Rattle.build.specs.edge.Texts.{Path, holds, put_new, put_all_new}
use Rattle.build.specs.edge.Data.{EdgeData}
use Rattle.build.specs.project.Laws.{outputs_of, needs, all_held, all_made}

pub split_and : (a b : Bool) → (a && b) ≡ true → (a ≡ true) × (b ≡ true)
split_and true b e = (refl, e)
split_and false b e = absurd cc

pub both : (a b : Bool) → a ≡ true → b ≡ true → (a && b) ≡ true
both a b e f = ap (λ c. c && b) e ∙ f

pub or_left : (a b : Bool) → a ≡ true → (a || b) ≡ true
or_left a b e = ap (λ c. c || b) e

pub or_right : (a b : Bool) → b ≡ true → (a || b) ≡ true
or_right true b e = refl
or_right false b e = e

pub or_cases : (a b : Bool) → (a || b) ≡ true → {P : Type 0} → (a ≡ true → P) → (b ≡ true → P) → P
or_cases true b e f g = f refl
or_cases false b e f g = g e

pub list_all-weaker : {X : Type 0} (p q : X → Bool) → ((x : X) → p x ≡ true → q x ≡ true) → (xs : List X) → list_all p xs ≡ true → list_all q xs ≡ true
list_all-weaker p q w [] e = refl
list_all-weaker p q w (x ∷ xs) e = let s = split_and (p x) (list_all p xs) e in both (q x) (list_all q xs) (w x s.0) (list_all-weaker p q w xs s.1)

pub list_all-and : {X : Type 0} (p q : X → Bool) (xs : List X) → list_all p xs ≡ true → list_all q xs ≡ true → list_all (λ x. p x && q x) xs ≡ true
list_all-and p q [] e f = refl
list_all-and p q (x ∷ xs) e f =
    let s = split_and (p x) (list_all p xs) e in let t = split_and (q x) (list_all q xs) f in
    both (p x && q x) (list_all (λ y. p y && q y) xs) (both (p x) (q x) s.0 t.0) (list_all-and p q xs s.1 t.1)

pub list_all-flat_map : {X A : Type 0} (p : A → Bool) (q : X → Bool) (f : X → List A) → ((x : X) → q x ≡ true → list_all p (f x) ≡ true) → (xs : List X) → list_all q xs ≡ true
    → list_all p (flat_map f xs) ≡ true
list_all-flat_map p q f w [] e = refl
list_all-flat_map p q f w (x ∷ xs) e =
    let s = split_and (q x) (list_all q xs) e in
    list_all-append p (f x) (flat_map f xs) ∙ both (list_all p (f x)) (list_all p (flat_map f xs)) (w x s.0) (list_all-flat_map p q f w xs s.1)

pub list_all-each : {X A : Type 0} (p : A → Bool) (f : X → List A) → ((x : X) → list_all p (f x) ≡ true) → (xs : List X) → list_all p (flat_map f xs) ≡ true
list_all-each p f w [] = refl
list_all-each p f w (x ∷ xs) = list_all-append p (f x) (flat_map f xs) ∙ both (list_all p (f x)) (list_all p (flat_map f xs)) (w x) (list_all-each p f w xs)

pub list_all-parts : {X : Type 0} (p : X → Bool) (xs ys : List X) → list_all p (xs ++ ys) ≡ true → (list_all p xs ≡ true) × (list_all p ys ≡ true)
list_all-parts p xs ys e = split_and (list_all p xs) (list_all p ys) (sym (list_all-append p xs ys) ∙ e)

pub list_all-joined : {X : Type 0} (p : X → Bool) (xs ys : List X) → list_all p xs ≡ true → list_all p ys ≡ true → list_all p (xs ++ ys) ≡ true
list_all-joined p xs ys e f = list_all-append p xs ys ∙ both (list_all p xs) (list_all p ys) e f

-- what all texts of a list meet, those that are kept of it meet
list_all-put_new : (p : Path → Bool) (kept : List Path) (t : Path) → list_all p kept ≡ true → p t ≡ true → list_all p (put_new kept t) ≡ true
list_all-put_new p kept t e f = by (holds t kept)
  where
    by : (b : Bool) → list_all p (if b then kept else kept ++ t ∷ []) ≡ true
    by true = e
    by false = list_all-joined p kept (t ∷ []) e (both (p t) true f refl)

pub list_all-put_all_new : (p : Path → Bool) (kept ts : List Path) → list_all p kept ≡ true → list_all p ts ≡ true → list_all p (put_all_new kept ts) ≡ true
list_all-put_all_new p kept [] e f = e
list_all-put_all_new p kept (t ∷ ts) e f = let s = split_and (p t) (list_all p ts) f in list_all-put_all_new p (put_new kept t) ts (list_all-put_new p kept t e s.0) s.1

-- ---- paths that are known

pub holds_append : (p : Path) (xs ys : List Path) → holds p (xs ++ ys) ≡ (holds p xs || holds p ys)
holds_append p xs ys = list_any-append (bytes_eq p) xs ys

pub holds_left : (p : Path) (xs ys : List Path) → holds p xs ≡ true → holds p (xs ++ ys) ≡ true
holds_left p xs ys e = holds_append p xs ys ∙ or_left (holds p xs) (holds p ys) e

pub holds_right : (p : Path) (xs ys : List Path) → holds p ys ≡ true → holds p (xs ++ ys) ≡ true
holds_right p xs ys e = holds_append p xs ys ∙ or_right (holds p xs) (holds p ys) e

pub held_more : (known more ps : List Path) → all_held known ps ≡ true → all_held (known ++ more) ps ≡ true
held_more known more ps e = list_all-weaker (λ p. holds p known) (λ p. holds p (known ++ more)) (λ p h. holds_left p known more h) ps e

or_true : (b : Bool) → (b || true) ≡ true
or_true true = refl
or_true false = refl

append_one : (xs : List Path) (x : Path) (ys : List Path) → (xs ++ x ∷ []) ++ ys ≡ xs ++ x ∷ ys
append_one xs x ys = append_assoc xs (x ∷ []) ys

pub held_self : (front ps : List Path) → all_held (front ++ ps) ps ≡ true
held_self front [] = refl
held_self front (p ∷ ps) =
    both (holds p (front ++ p ∷ ps)) (all_held (front ++ p ∷ ps) ps)
    (list_any-append (bytes_eq p) front (p ∷ ps)
    ∙ ap (λ b. holds p front || (b || holds p ps)) ((bytes_eq-Decides p p).1 refl)
    ∙ or_true (holds p front))
    (ap (λ k. all_held k ps) (sym (append_one front p ps)) ∙ held_self (front ++ p ∷ []) ps)

and_assoc : (a b c : Bool) → (a && (b && c)) ≡ ((a && b) && c)
and_assoc true b c = refl
and_assoc false b c = refl

pub made_append : (known : List Path) (es fs : List EdgeData) → all_made known (es ++ fs) ≡ (all_made known es && all_made (known ++ outputs_of es) fs)
made_append known [] fs = ap (λ k. all_made k fs) (sym (append-nil known))
made_append known (e ∷ es) fs =
    ap (λ b. all_held known (needs e) && b) (made_append (known ++ e.outputs) es fs)
    ∙ and_assoc (all_held known (needs e)) (all_made (known ++ e.outputs) es) (all_made ((known ++ e.outputs) ++ outputs_of es) fs)
    ∙ ap (λ k. (all_held known (needs e) && all_made (known ++ e.outputs) es) && all_made k fs) (append_assoc known e.outputs (outputs_of es))

-- what is known may grow
pub made_grown : (xs ys : List Path) → ((p : Path) → holds p xs ≡ true → holds p ys ≡ true) → (es : List EdgeData) → all_made xs es ≡ true → all_made ys es ≡ true
made_grown xs ys w [] m = refl
made_grown xs ys w (e ∷ es) m =
    let s = split_and (all_held xs (needs e)) (all_made (xs ++ e.outputs) es) m in
    both (all_held ys (needs e)) (all_made (ys ++ e.outputs) es)
    (list_all-weaker (λ p. holds p xs) (λ p. holds p ys) w (needs e) s.0)
    (made_grown (xs ++ e.outputs) (ys ++ e.outputs)
    (λ p h. or_cases (holds p xs) (holds p e.outputs) (sym (holds_append p xs e.outputs) ∙ h)
    (λ a. holds_left p ys e.outputs (w p a))
    (λ b. holds_right p ys e.outputs b))
    es s.1)

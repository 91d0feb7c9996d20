-- What options take, by their names.
use Rattle.std.proofs.Common.{◌≡◌, ℕ, Bool, true, false, List, [], ◌∷◌, ◌++◌, map, Option, Some, None, refl, sym, ap, ◌∙◌}
use Rattle.std.proofs.Common.{is_some}
use Rattle.std.specs.Prelude.{◌||◌, not, bytes_eq, if◌then◌else◌}
use Rattle.std.specs.List.{list_any}
use Rattle.std.specs.Option.{option_map}
use Rattle.std.proofs.lemmas.Slice.Eq.{bytes_eq-Decides}
use Rattle.option_values.specs.BuiltIns.{BuiltIn, NamedKind, built_ins, built_in_kinds, built_in_kind, is_built_in, kind_among}
use Rattle.option_values.specs.Kinds.{Kind}
use Rattle.option_values.specs.Values.{Value}
use Rattle.options.specs.option_file.Declarations.{Declaration}
use Rattle.options.specs.option_file.Lookups.{is_used, is_new, are_new_after, are_new, option_named}
use Rattle.options.specs.Laws.{fits_known, built_in_names, declared_names}
use Rattle.options.specs.Verdicts.{declared_kind, kind_named, or_declared}
use Rattle.options.proofs.Bools.{first, second}

pub same_name : (a b : List ℕ) → bytes_eq a b ≡ true → a ≡ b
same_name a b e = (bytes_eq-Decides a b).0 e

pub is_itself : (a : List ℕ) → bytes_eq a a ≡ true
is_itself a = (bytes_eq-Decides a a).1 refl

-- ---- built-in ones

-- one of these names is this
abbrev pub is_named : List ℕ → List (List ℕ) → Bool
is_named name names = list_any (bytes_eq name) names

found_where_named : (name : List ℕ) (bs : List BuiltIn)
    → is_some (kind_among (map (λ (b : BuiltIn). let k : NamedKind = record { name = b.name; kind = b.kind } in k) bs) name)
    ≡ list_any (λ (b : BuiltIn). bytes_eq name b.name) bs
found_where_named name [] = refl
found_where_named name (b ∷ bs) = step (bytes_eq name b.name) b.kind _ _ (found_where_named name bs)
  where
    step : (t : Bool) (k : Kind) (o : Option Kind) (r : Bool) → is_some o ≡ r → is_some (if t then Some k else o) ≡ (t || r)
    step true k o r e = refl
    step false k o r e = e

built_in_found : (name : List ℕ) → is_some (built_in_kind name) ≡ is_built_in name
unfolding built_in_kind is_built_in built_in_kinds
built_in_found name = found_where_named name built_ins

any_name : (name : List ℕ) (bs : List BuiltIn) → list_any (λ (b : BuiltIn). bytes_eq name b.name) bs
    ≡ is_named name (map (λ (b : BuiltIn). b.name) bs)
any_name name [] = refl
any_name name (b ∷ bs) = ap (λ (x : Bool). bytes_eq name b.name || x) (any_name name bs)

built_in_named : (name : List ℕ) → is_built_in name ≡ is_named name built_in_names
unfolding is_built_in
built_in_named name = any_name name built_ins

none_of : {A : Type 0} (o : Option A) → is_some o ≡ false → o ≡ None
none_of None e = refl
none_of (Some x) e = absurd cc

pub not_built_in : (name : List ℕ) → is_built_in name ≡ false → built_in_kind name ≡ None
not_built_in name e = none_of (built_in_kind name) (built_in_found name ∙ e)

-- ---- declared ones

neither_first : (a b : Bool) → not (a || b) ≡ true → a ≡ false
neither_first true b e = absurd cc
neither_first false b e = refl

neither_second : (a b : Bool) → not (a || b) ≡ true → b ≡ false
neither_second true b e = absurd cc
neither_second false true e = absurd cc
neither_second false false e = refl

pub new_not_built_in : (name : List ℕ) (ds : List Declaration) → is_new name ds ≡ true → is_built_in name ≡ false
new_not_built_in name ds e = neither_first (is_built_in name) (is_used name ds) e

pub new_not_used : (name : List ℕ) (ds : List Declaration) → is_new name ds ≡ true → is_used name ds ≡ false
new_not_used name ds e = neither_second (is_built_in name) (is_used name ds) e

or_first : (a b : Bool) → (a || b) ≡ false → a ≡ false
or_first true b e = absurd cc
or_first false b e = refl

or_second : (a b : Bool) → (a || b) ≡ false → b ≡ false
or_second true b e = absurd cc
or_second false b e = e

if_false : {A : Type 0} (b : Bool) (x y : A) → b ≡ false → (if b then x else y) ≡ y
if_false b x y e = rw e refl

if_true : {A : Type 0} (b : Bool) (x y : A) → b ≡ true → (if b then x else y) ≡ x
if_true b x y e = rw e refl

found_behind : (before ds : List Declaration) (d : Declaration) → is_used d.name before ≡ false
    → option_named (before ++ d ∷ ds) d.name ≡ Some d
found_behind [] ds d e = if_true (bytes_eq d.name d.name) (Some d) (option_named ds d.name) (is_itself d.name)
found_behind (b ∷ before) ds d e =
    if_false (bytes_eq d.name b.name) (Some b) (option_named (before ++ d ∷ ds) d.name)
    (or_first (bytes_eq d.name b.name) (is_used d.name before) e)
    ∙ found_behind before ds d (or_second (bytes_eq d.name b.name) (is_used d.name before) e)

-- a declared option is known by its name
pub declared_known : (before ds : List Declaration) (d : Declaration) → is_new d.name before ≡ true
    → kind_named (before ++ d ∷ ds) d.name ≡ Some d.kind
unfolding kind_named declared_kind
declared_known before ds d e =
    ap (or_declared (before ++ d ∷ ds) d.name) (not_built_in d.name (new_not_built_in d.name before e))
    ∙ ap (option_map (λ (x : Declaration). x.kind)) (found_behind before ds d (new_not_used d.name before e))

named_cases : (name : List ℕ) (before ds : List Declaration) (d x : Declaration) (b : Bool) → bytes_eq name d.name ≡ b
    → is_new d.name before ≡ true
    → (if b then Some d else option_named ds name) ≡ Some x → (option_named ds name ≡ Some x → is_built_in name ≡ false)
    → is_built_in name ≡ false
named_cases name before ds d x true e new h rest = ap is_built_in (same_name name d.name e) ∙ new_not_built_in d.name before new
named_cases name before ds d x false e new h rest = rest h

-- and it is none that every project has
declared_not_built_in : (name : List ℕ) (before ds : List Declaration) (x : Declaration) → are_new_after before ds ≡ true
    → option_named ds name ≡ Some x
    → is_built_in name ≡ false
declared_not_built_in name before [] x e h = absurd cc
declared_not_built_in name before (d ∷ ds) x e h =
    named_cases name before ds d x (bytes_eq name d.name) refl (first (is_new d.name before) _ e) h
    (declared_not_built_in name (before ++ d ∷ []) ds x (second (is_new d.name before) _ e))

-- what a place knows is what the option takes
pub built_in_is_known : (ds : List Declaration) (name : List ℕ) (k : Kind) → built_in_kind name ≡ Some k → kind_named ds name ≡ Some k
unfolding kind_named
built_in_is_known ds name k e = ap (or_declared ds name) e

pub declared_is_known : (ds : List Declaration) (name : List ℕ) (k : Kind) → are_new ds ≡ true → declared_kind ds name ≡ Some k
    → kind_named ds name ≡ Some k
unfolding kind_named declared_kind
declared_is_known ds name k new e = by (option_named ds name) refl e
  where
    by : (o : Option Declaration) → option_named ds name ≡ o → option_map (λ (d : Declaration). d.kind) o ≡ Some k
        → or_declared ds name (built_in_kind name) ≡ Some k
    by None is h = absurd cc
    by (Some d) is h = ap (or_declared ds name) (not_built_in name (declared_not_built_in name [] ds d new is)) ∙ e

-- ---- an option that is known has one of the names

any_front : (name : List ℕ) (xs ys : List (List ℕ)) → is_named name xs ≡ true → is_named name (xs ++ ys) ≡ true
any_front name [] ys e = absurd cc
any_front name (x ∷ xs) ys e = step (bytes_eq name x) (is_named name xs) (is_named name (xs ++ ys)) (any_front name xs ys) e
  where
    step : (a b c : Bool) → (b ≡ true → c ≡ true) → (a || b) ≡ true → (a || c) ≡ true
    step true b c h e = refl
    step false b c h e = h e

any_back : (name : List ℕ) (xs ys : List (List ℕ)) → is_named name ys ≡ true → is_named name (xs ++ ys) ≡ true
any_back name [] ys e = e
any_back name (x ∷ xs) ys e = step (bytes_eq name x) (is_named name (xs ++ ys)) (any_back name xs ys e)
  where
    step : (a b : Bool) → b ≡ true → (a || b) ≡ true
    step true b e = refl
    step false b e = e

declared_named : (name : List ℕ) (ds : List Declaration) (x : Declaration) → option_named ds name ≡ Some x
    → is_named name (declared_names ds) ≡ true
declared_named name [] x e = absurd cc
declared_named name (d ∷ ds) x e = step (bytes_eq name d.name) (declared_named name ds x) e
  where
    step : (b : Bool) → (option_named ds name ≡ Some x → is_named name (declared_names ds) ≡ true)
        → (if b then Some d else option_named ds name) ≡ Some x
        → (b || is_named name (declared_names ds)) ≡ true
    step true rest e = refl
    step false rest e = rest e

pub fitting_named : (ds : List Declaration) (name : List ℕ) (v : Value) → fits_known (kind_named ds name) v ≡ true
    → is_named name (built_in_names ++ declared_names ds) ≡ true
unfolding kind_named declared_kind
fitting_named ds name v e = built (built_in_kind name) refl
  where
    declared : (o : Option Declaration) → option_named ds name ≡ o → fits_known (option_map (λ (d : Declaration). d.kind) o) v ≡ true
        → is_named name (built_in_names ++ declared_names ds) ≡ true
    declared None is h = absurd cc
    declared (Some d) is h = any_back name built_in_names (declared_names ds) (declared_named name ds d is)

    built : (o : Option Kind) → built_in_kind name ≡ o → is_named name (built_in_names ++ declared_names ds) ≡ true
    built (Some k) is = any_front name built_in_names (declared_names ds) (sym (built_in_named name) ∙ sym (built_in_found name)
        ∙ ap is_some is)
    built None is = declared (option_named ds name) refl (sym (ap (λ (o : Option Kind). fits_known (or_declared ds name o) v) is) ∙ e)

new_name : (name : List ℕ) (ds : List Declaration) → is_used name ds ≡ is_named name (declared_names ds)
new_name name [] = refl
new_name name (d ∷ ds) = ap (λ (b : Bool). bytes_eq name d.name || b) (new_name name ds)

neither_named : (name : List ℕ) (xs ys : List (List ℕ)) → is_named name xs ≡ false → is_named name ys ≡ false
    → is_named name (xs ++ ys) ≡ false
neither_named name [] ys e f = f
neither_named name (x ∷ xs) ys e f =
    ap (λ (b : Bool). b || is_named name (xs ++ ys)) (or_first (bytes_eq name x) (is_named name xs) e)
    ∙ neither_named name xs ys (or_second (bytes_eq name x) (is_named name xs) e) f

-- a new name is none of those so far
pub new_is_none : (name : List ℕ) (ds : List Declaration) → is_new name ds ≡ true
    → is_named name (built_in_names ++ declared_names ds) ≡ false
new_is_none name ds e =
    neither_named name built_in_names (declared_names ds) (sym (built_in_named name) ∙ new_not_built_in name ds e)
    (sym (new_name name ds) ∙ new_not_used name ds e)

-- The table of options that every project has, and maps that are made of it.
use Rattle.std.proofs.Common.{◌≡◌, ℕ, ◌+◌, ◌<◌, Bool, true, false, List, [], ◌∷◌, take, get_or, String, refl, sym, ap, ◌∙◌}
use Rattle.std.proofs.Common.{map, length, if◌then◌else◌}
use Rattle.std.specs.Prelude.{◌||◌, bytes_eq}
use Rattle.std.specs.List.{fold, list_any}
use Rattle.std.proofs.lemmas.List.{take_more, map-append, length-map}
use Rattle.std.proofs.lemmas.List.Sums.{fold-append}
use Rattle.std.specs.declared.alloc.Global.{Global}
use Rattle.std.specs.String.{string_eq}
use Rattle.support.specs.Maps.{insert_entry}
use Rattle.option_values.specs.declared.kind.OptionKind.{OptionKind}
use Rattle.option_values.specs.declared.built_in.BuiltIn.{BuiltIn}
use Rattle.option_values.specs.BuiltIns as built
use Rattle.option_values.specs.BuiltIns.{NamedKind, put_kind, add_kind, built_ins, built_in_kinds, is_built_in}
use Rattle.option_values.specs.View.{named_kind_in, kinds_in, row_in}

kind_step : (b : Bool) (e : String Global × OptionKind) (k : OptionKind) (es more : List (String Global
    × OptionKind)) (rest : List NamedKind)
    → kinds_in more ≡ rest
    → kinds_in (if b then (e.0, k) ∷ es else e ∷ more) ≡ (if b then named_kind_in (e.0, k) ∷ kinds_in es else named_kind_in e ∷ rest)
kind_step true e k es more rest h = refl
kind_step false e k es more rest h = ap (λ (l : List NamedKind). named_kind_in e ∷ l) h

pub put_kind_seen : (name : String Global) (k : OptionKind) (es : List (String Global × OptionKind))
    → kinds_in (insert_entry string_eq es name k) ≡ put_kind (named_kind_in (name, k)) (kinds_in es)
put_kind_seen name k [] = refl
put_kind_seen name k (e ∷ es) = kind_step (string_eq name e.0) e k es _ _ (put_kind_seen name k es)

-- all of them, put into an empty map one after another
pub all_kinds : fold add_kind [] built_ins ≡ built_in_kinds
unfolding built_ins built_in_kinds
all_kinds = refl

pub seventeen : (xs : List BuiltIn) → map row_in xs ≡ built_ins → length xs ≡ 17
unfolding built_ins
seventeen xs e = sym (length-map xs row_in) ∙ ap length e

-- one more of the things that are taken by a step each
pub step_more : {A B C : Type 0} (step : C → B → C) (f : A → B) (s before after : C) (xs : List A) (i : ℕ) (d : A)
    → after ≡ step before (f (get_or xs i d)) → before ≡ fold step s (map f (take i xs)) → i < length xs
    → after ≡ fold step s (map f (take (i + 1) xs))
step_more step f s before after xs i d e b lt =
    e ∙ ap (λ t. step t (f (get_or xs i d))) b
    ∙ sym (
    ap (λ ys. fold step s (map f ys)) (take_more xs i d lt)
    ∙ ap (fold step s) (map-append f (take i xs) (get_or xs i d ∷ []))
    ∙ fold-append step s (map f (take i xs)) (f (get_or xs i d) ∷ []))

any_row : (name : List ℕ) (xs : List BuiltIn)
    → list_any (λ b. bytes_eq name b.name.now) xs ≡ list_any (λ (b : built.BuiltIn). bytes_eq name b.name) (map row_in xs)
any_row name [] = refl
any_row name (x ∷ xs) = ap (λ b. bytes_eq name x.name.now || b) (any_row name xs)

-- one of the rows has the name
pub any_built_in : (name : List ℕ) (xs : List BuiltIn) → map row_in xs ≡ built_ins
    → list_any (λ b. bytes_eq name b.name.now) xs ≡ is_built_in name
unfolding is_built_in
any_built_in name xs e = any_row name xs ∙ ap (list_any (λ (b : built.BuiltIn). bytes_eq name b.name)) e

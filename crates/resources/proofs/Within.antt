-- Lists of a dependency only grow, and so does what is refused.
use Rattle.std.proofs.Common.{◌≡◌, Bool, true, false, List, [], ◌∷◌, ◌++◌, Ok, Err, length, refl, arith}
use Rattle.std.specs.Prelude.{nat_le, ◌&&◌, if◌then◌else◌}
use Rattle.std.proofs.lemmas.Bool.{leb-true, le-leb}
use Rattle.std.proofs.lemmas.List.{length-append}
use Rattle.values.specs.declared.object.Dependency.{Dependency}
use Rattle.values.specs.declared.refusal.OperationRefusal.TheVariants as refusal
use Rattle.support.specs.Limits.{items}
use Rattle.resources.specs.Joined.{is_within, with_all_lists, with_lists, with_all, dependency_with_others}

pub front_short : {A : Type 0} (xs ys : List A) → nat_le (length (xs ++ ys)) items ≡ true → nat_le (length xs) items ≡ true
front_short xs ys h = le-leb (length xs) items (omega (arith, leb-true (length (xs ++ ys)) items h, length-append xs ys))

pub both_yes : (a b : Bool) → a ≡ true → b ≡ true → (a && b) ≡ true
both_yes true b e f = f
both_yes false b e f = absurd cc

pub and_kept : (a b c d : Bool) → (a ≡ true → c ≡ true) → (b ≡ true → d ≡ true) → (a && b) ≡ true → (c && d) ≡ true
and_kept true true c d f g h = both_yes c d (f refl) (g refl)
and_kept true false c d f g h = absurd cc
and_kept false b c d f g h = absurd cc

pub false_before : (b c : Bool) → (b ≡ true → c ≡ true) → c ≡ false → b ≡ false
false_before true c f e = let g = f refl in absurd cc
false_before false c f e = refl

pub first_within : (d o : Dependency) → is_within (with_all_lists d o) ≡ true → is_within d ≡ true
first_within d o =
    and_kept (nat_le (length (d.include_directories ++ o.include_directories)) items) _ (nat_le (length d.include_directories) items) _
    (front_short d.include_directories o.include_directories)
    (and_kept (nat_le (length (d.compile_args ++ o.compile_args)) items) _ (nat_le (length d.compile_args) items) _
    (front_short d.compile_args o.compile_args)
    (and_kept (nat_le (length (d.link_args ++ o.link_args)) items) _ (nat_le (length d.link_args) items) _
    (front_short d.link_args o.link_args)
    (and_kept (nat_le (length (d.link_with ++ o.link_with)) items) _ (nat_le (length d.link_with) items) _
    (front_short d.link_with o.link_with)
    (front_short d.sources o.sources))))

within_if : (b : Bool) (d o : Dependency) → is_within (if b then with_all_lists d o else d) ≡ true → is_within d ≡ true
within_if true d o h = first_within d o h
within_if false d o h = h

pub start_within : (d : Dependency) (os : List Dependency) → is_within (with_all d os) ≡ true → is_within d ≡ true
start_within d [] h = h
start_within d (o ∷ os) h = within_if o.is_found d o (start_within (with_lists d o) os h)

refused : (b : Bool) (d : Dependency) → b ≡ false → (if b then Ok d else Err refusal.Limit) ≡ Err refusal.Limit
refused true d e = absurd cc
refused false d e = refl

pub refused_joined : (d : Dependency) (os : List Dependency) → is_within d ≡ false → dependency_with_others d os ≡ Err refusal.Limit
refused_joined d os h = refused (is_within (with_all d os)) (with_all d os)
    (false_before (is_within (with_all d os)) (is_within d) (start_within d os) h)

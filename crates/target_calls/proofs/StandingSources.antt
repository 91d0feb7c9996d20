-- Sources without what is left out stand for all of them.
use Rattle.std.proofs.Common.{◌≡◌, ℕ, zero, suc, ◌+◌, ◌≤◌, Bool, true, false, List, [], ◌∷◌, ◌++◌, length, Option, Some, None, inl, inr, refl, sym, ap, subst, ◌∙◌}
use Rattle.std.proofs.Common.{arith}
use Rattle.std.specs.Prelude.{◌⊎◌, min, nat_eq, nat_lt, option_and_then, option_map, if◌then◌else◌}
use Rattle.std.specs.List.{list_any, sum_by}
use Rattle.std.proofs.Math.Nat.{min-le_right}
use Rattle.std.proofs.lemmas.Bool.{eqb-true, ltb-true}
use Rattle.std.proofs.lemmas.List.Folds.{list_any-append}
use Rattle.std.proofs.lemmas.List.Sums.{sum_by-append, sum_by-cons}
use Rattle.support.specs.Limits.{items}
use Rattle.arguments.specs.Each.{each_behind}
use Rattle.build.specs.Data.{SourceData, Made}
use Rattle.build.specs.Libraries.{DeclaredTargetData}
use Rattle.build.specs.edge.Texts.{Path}
use Rattle.build.specs.project.Adding.{paths_in}
use Rattle.sources.specs.Outputs.{outputs_at}
use Rattle.sources.specs.Sources.{NamedData, tree, built, outputs, output}
use Rattle.target_calls.specs.LongCommands.{HadData, counted, counted_unless, list_noted, no_lists, short_sources, source_noted, sources_behind}
use Rattle.target_calls.specs.Sources.{source_in, sources_in}
use Rattle.target_calls.proofs.FirstItems.{Has, SameFirst, has_append, has_own, same_append, same_without}
use Rattle.target_calls.proofs.StandingCommands.{counted_lists, either, paths_kept}

abbrev total : List SourceData → ℕ
total ns = sum_by paths_in ns

-- the second sources stand for the first ones
pub record FilesStand (ns ms : List SourceData) : Type 0 where
  pub needs : SameFirst ns ms
  pub fewer : sum_by paths_in ms ≤ sum_by paths_in ns
  -- Nothing is left out where there are not too many.
  pub all : sum_by paths_in ms ≤ items → ms ≡ ns

stand_joined : (ns ms : List SourceData) (x : SourceData) → FilesStand ns ms → FilesStand (ns ++ x ∷ []) (ms ++ x ∷ [])
stand_joined ns ms x s =
    let a = sum_by-append paths_in ns (x ∷ []) in
    let b = sum_by-append paths_in ms (x ∷ []) in
    record {
      needs = same_append ns ms (x ∷ []) (x ∷ []) s.needs (λ f. refl);
      fewer = omega (arith, a, b, s.fewer);
      all = λ k. ap (λ ls. ls ++ x ∷ []) (s.all (omega (arith, b, k)));
    }

stand_without : (ns ms : List SourceData) (x : SourceData) → FilesStand ns ms → Has ms (x ∷ []) → items + 1 ≤ total ms → FilesStand (ns ++ x ∷ []) ms
stand_without ns ms x s h long = record {
  needs = same_without ns ms (x ∷ []) s.needs h;
  fewer = omega (arith, sum_by-append paths_in ns (x ∷ []), s.fewer);
  all = λ k. absurd (omega (arith, long, k));
}

-- ---- the lists that were had

abbrev HadFile : List SourceData → Option SourceData → Type 0
HadFile ms None = ⊥
HadFile ms (Some x) = Has ms (x ∷ [])

-- the source that is the list with a number
abbrev list_file : List DeclaredTargetData → ℕ → Option SourceData
list_file earlier zero = None
list_file earlier (suc zero) = None
list_file earlier (suc (suc n)) = option_map Made (outputs_at earlier n)

record KnownFiles (earlier : List DeclaredTargetData) (ms : List SourceData) (had : HadData) : Type 0 where
  few : had.paths ≤ total ms
  lists : (k : ℕ) → list_any (nat_eq k) had.lists ≡ true → HadFile ms (list_file earlier k)

had_joined : (ms : List SourceData) (x : SourceData) (o : Option SourceData) → HadFile ms o → HadFile (ms ++ x ∷ []) o
had_joined ms x None h = h
had_joined ms x (Some y) h = has_append ms (x ∷ []) (y ∷ []) h

known_joined : (earlier : List DeclaredTargetData) (ms : List SourceData) (x : SourceData) (had : HadData)
    → KnownFiles earlier ms had → KnownFiles earlier (ms ++ x ∷ []) had
known_joined earlier ms x had known = record {
  few = omega (arith, sum_by-append paths_in ms (x ∷ []), known.few);
  lists = λ k h. had_joined ms x (list_file earlier k) (known.lists k h);
}

-- what is told of a name whose source is `o`: whether it is left out, and what is known after it
record TellsFile (earlier : List DeclaredTargetData) (ms : List SourceData) (o : Option SourceData) (n : Bool × HadData) : Type 0 where
  had : n.0 ≡ true → HadFile ms o
  long : n.0 ≡ true → items + 1 ≤ total ms
  same : n.0 ≡ true → KnownFiles earlier ms n.1
  more : n.0 ≡ false → (x : SourceData) → o ≡ Some x → KnownFiles earlier (ms ++ x ∷ []) n.1

tells_nothing : (earlier : List DeclaredTargetData) (ms : List SourceData) (o : Option SourceData) (had : HadData)
    → KnownFiles earlier ms had → TellsFile earlier ms o (false, had)
tells_nothing earlier ms o had known = record {
  had = λ e. absurd cc;
  long = λ e. absurd cc;
  same = λ e. absurd cc;
  more = λ e x is. known_joined earlier ms x had known;
}

one_more : (earlier : List DeclaredTargetData) (ms : List SourceData) (x : SourceData) (had : HadData) (k : ℕ) → KnownFiles earlier ms had
    → list_file earlier k ≡ Some x → KnownFiles earlier (ms ++ x ∷ []) (record had { lists = had.lists ++ k ∷ [] })
one_more earlier ms x had k known is = record {
  few = omega (arith, sum_by-append paths_in ms (x ∷ []), known.few);
  lists = λ j h. one j (either (list_any (nat_eq j) had.lists) (nat_eq j k) (sym (list_any-append (nat_eq j) had.lists (k ∷ [])) ∙ h));
}
  where
    own : HadFile (ms ++ x ∷ []) (Some x)
    own = has_own ms (x ∷ [])

    one : (j : ℕ) → (list_any (nat_eq j) had.lists ≡ true) ⊎ (nat_eq j k ≡ true) → HadFile (ms ++ x ∷ []) (list_file earlier j)
    one j (inl h) = had_joined ms x (list_file earlier j) (known.lists j h)
    one j (inr h) = subst (λ o. HadFile (ms ++ x ∷ []) o) (sym (ap (list_file earlier) (eqb-true j k h) ∙ is)) own

tells_noted : (earlier : List DeclaredTargetData) (ms : List SourceData) (o : Option SourceData) (had : HadData) (k : ℕ) (b : Bool)
    → KnownFiles earlier ms had → o ≡ list_file earlier k → items + 1 ≤ total ms → list_any (nat_eq k) had.lists ≡ b
    → TellsFile earlier ms o (b, record had { lists = if b then had.lists else had.lists ++ k ∷ [] })
tells_noted earlier ms o had k true known is long h = record {
  had = λ e. subst (λ p. HadFile ms p) (sym is) (known.lists k h);
  long = λ e. long;
  same = λ e. known;
  more = λ e. absurd cc;
}
tells_noted earlier ms o had k false known is long h = record {
  had = λ e. absurd cc;
  long = λ e. absurd cc;
  same = λ e. absurd cc;
  more = λ e x some. one_more earlier ms x had k known (sym is ∙ some);
}

tells_list : (earlier : List DeclaredTargetData) (ms : List SourceData) (o : Option SourceData) (had : HadData) (k : ℕ) (b : Bool)
    → KnownFiles earlier ms had → o ≡ list_file earlier k → (b ≡ true → items + 1 ≤ total ms) → TellsFile earlier ms o (list_noted b k had)
tells_list earlier ms o had k false known is long = tells_nothing earlier ms o had known
tells_list earlier ms o had k true known is long = tells_noted earlier ms o had k (list_any (nat_eq k) had.lists) known is (long refl) refl

counted_few : (ms : List SourceData) (x : SourceData) (h : HadData) (found : Option (List Path)) → h.paths ≤ total ms → option_map Made found ≡ Some x
    → (counted found h).paths ≤ total (ms ++ x ∷ [])
counted_few ms x h None few is = absurd cc
counted_few ms x h (Some ps) few is =
    let own : length ps ≡ paths_in x = ap (λ o. elim o as (λ y. ℕ) [ None ↦ 0 | Some y ↦ paths_in y ]) is in
    let one = sum_by-cons paths_in x [] in
    let sum = sum_by-append paths_in ms (x ∷ []) in
    let inner = min-le_right (items + 1) (length ps) in
    let before = min-le_right (items + 1) h.paths in
    let outer = min-le_right (items + 1) (min (items + 1) h.paths + min (items + 1) (length ps)) in
    omega (arith, own, one, sum, inner, before, outer, few)

tells_counted : (earlier : List DeclaredTargetData) (ms : List SourceData) (b : Bool) (h : HadData) (found : Option (List Path)) → h.paths ≤ total ms
    → TellsFile earlier ms (option_map Made found) (b, h) → TellsFile earlier ms (option_map Made found) (counted_unless (b, h) found)
tells_counted earlier ms true h found few t = t
tells_counted earlier ms false h found few t = record {
  had = λ e. absurd cc;
  long = λ e. absurd cc;
  same = λ e. absurd cc;
  more = λ e x is. record {
    few = counted_few ms x h found few is;
    lists = λ k held. (t.more refl x is).lists k (ap (list_any (nat_eq k)) (sym (counted_lists found h)) ∙ held);
  };
}

tells_outputs : (earlier : List DeclaredTargetData) (ms : List SourceData) (had : HadData) (n : ℕ) → KnownFiles earlier ms had
    → TellsFile earlier ms (option_map Made (outputs_at earlier n)) (counted_unless (list_noted (nat_lt items had.paths) (n + 2) had) (outputs_at earlier n))
tells_outputs earlier ms had n known =
    let o = option_map Made (outputs_at earlier n) in
    let b = nat_lt items had.paths in
    let number : n + 2 ≡ suc (suc n) = omega arith in
    let few : (list_noted b (n + 2) had).1.paths ≤ total ms = omega (arith, paths_kept b (n + 2) had, known.few) in
    tells_counted earlier ms (list_noted b (n + 2) had).0 (list_noted b (n + 2) had).1 (outputs_at earlier n) few
    (tells_list earlier ms o had (n + 2) b known (sym (ap (list_file earlier) number)) (λ e. omega (arith, ltb-true items had.paths e, known.few)))

tells : (earlier : List DeclaredTargetData) (ms : List SourceData) (had : HadData) (n : NamedData) → KnownFiles earlier ms had
    → TellsFile earlier ms (source_in earlier n) (source_noted earlier n had)
tells earlier ms had (tree path) known = tells_nothing earlier ms (source_in earlier (tree path)) had known
tells earlier ms had (built path) known = tells_nothing earlier ms (source_in earlier (built path)) had known
tells earlier ms had (outputs n) known = tells_outputs earlier ms had n known
tells earlier ms had (output n place) known = tells_nothing earlier ms (source_in earlier (output n place)) had known

-- ---- all names

-- what was made stands for what should have been made
abbrev pub FilesStandIf : Option (List SourceData) → Option (List SourceData) → Type 0
FilesStandIf None None = Unit {0}
FilesStandIf (Some ns) (Some ms) = FilesStand ns ms
FilesStandIf None (Some ms) = ⊥
FilesStandIf (Some ns) None = ⊥

step : (earlier : List DeclaredTargetData) (rest : List NamedData)
    → ((ns ms : List SourceData) (had : HadData) → FilesStand ns ms → KnownFiles earlier ms had
    → FilesStandIf (each_behind (source_in earlier) ns rest) (sources_behind earlier ms had rest))
    → (ns ms : List SourceData) → FilesStand ns ms → (o : Option SourceData) (b : Bool) (h : HadData) → TellsFile earlier ms o (b, h)
    → FilesStandIf (option_and_then (λ x. each_behind (source_in earlier) (ns ++ x ∷ []) rest) o)
    (if b then sources_behind earlier ms h rest else option_and_then (λ x. sources_behind earlier (ms ++ x ∷ []) h rest) o)
step earlier rest go ns ms s None true h t = absurd (t.had refl)
step earlier rest go ns ms s (Some x) true h t = go (ns ++ x ∷ []) ms h (stand_without ns ms x s (t.had refl) (t.long refl)) (t.same refl)
step earlier rest go ns ms s None false h t = tt
step earlier rest go ns ms s (Some x) false h t = go (ns ++ x ∷ []) (ms ++ x ∷ []) h (stand_joined ns ms x s) (t.more refl x refl)

behind : (earlier : List DeclaredTargetData) (rest : List NamedData) (ns ms : List SourceData) (had : HadData) → FilesStand ns ms → KnownFiles earlier ms had
    → FilesStandIf (each_behind (source_in earlier) ns rest) (sources_behind earlier ms had rest)
behind earlier [] ns ms had s known = s
behind earlier (n ∷ rest) ns ms had s known =
    let noted = source_noted earlier n had in
    step earlier rest (behind earlier rest) ns ms s (source_in earlier n) noted.0 noted.1 (tells earlier ms had n known)

pub sources_stand : (earlier : List DeclaredTargetData) (ns : List NamedData) → FilesStandIf (sources_in earlier ns) (short_sources earlier ns)
sources_stand earlier ns =
    behind earlier ns [] [] no_lists (record { needs = λ f. refl; fewer = omega arith; all = λ k. refl })
    (record { few = omega arith; lists = λ k h. absurd cc })

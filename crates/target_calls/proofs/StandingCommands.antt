-- A command without what is left out stands for the whole one.
use Rattle.std.proofs.Common.{◌≡◌, ℕ, zero, suc, ◌+◌, ◌≤◌, Bool, true, false, List, [], ◌∷◌, ◌++◌, length, codes, Option, Some, None, inl, inr, refl, sym, ap}
use Rattle.std.proofs.Common.{subst, ◌∙◌, append-nil, arith}
use Rattle.std.specs.Prelude.{◌⊎◌, min, nat_eq, nat_lt, ◌||◌, bytes_eq, option_and_then, option_map, if◌then◌else◌}
use Rattle.std.specs.List.{list_any, sum_by}
use Rattle.std.proofs.Math.Nat.{min-le_right}
use Rattle.std.proofs.lemmas.Bool.{eqb-true, ltb-true}
use Rattle.std.proofs.lemmas.List.{length-append}
use Rattle.std.proofs.lemmas.List.Folds.{list_any-append}
use Rattle.std.proofs.lemmas.List.Sums.{sum_by-append, sum_by-cons}
use Rattle.support.specs.Limits.{items}
use Rattle.values.specs.Data.{Data, text, object}
use Rattle.values.specs.declared.object.Object.TheVariants as objects
use Rattle.build.specs.Data.{Made}
use Rattle.build.specs.edge.Texts.{Path, Text}
use Rattle.build.specs.project.Adding.{paths_in}
use Rattle.sources.specs.Holes.{PlaceData, filled_text, one_word, some_of}
use Rattle.sources.specs.Outputs.{outputs_at}
use Rattle.sources.specs.Things.{all_outputs}
use Rattle.sources.specs.declared.placeholders.PlaceholderScope.TheVariants.{Command}
use Rattle.world.specs.Here.{HereData}
use Rattle.target_calls.specs.Commands.{PartData, command_of, joined_parts, no_part, of_outputs, of_thing, only_words, part_of, parts_behind}
use Rattle.target_calls.specs.LongCommands.{HadData, counted, counted_unless, list_noted, no_lists, noted, short_behind, short_command}
use Rattle.target_calls.proofs.FirstItems.{Has, SameFirst, has_append, has_own, same_append, same_without}

-- how many paths the command needs
abbrev pub paths : PartData → ℕ
paths p = sum_by paths_in p.needs

-- the second command stands for the first one
pub record Stands (p q : PartData) : Type 0 where
  pub words : SameFirst p.words q.words
  pub needs : SameFirst p.needs q.needs
  pub fewer_words : length q.words ≤ length p.words
  pub fewer_needs : paths q ≤ paths p
  -- Nothing is left out of a command that is not too long.
  pub all_words : length q.words ≤ items → paths q ≤ items → q.words ≡ p.words
  pub all_needs : paths q ≤ items → q.needs ≡ p.needs

stands_self : (p : PartData) → Stands p p
stands_self p = record {
  words = λ f. refl;
  needs = λ f. refl;
  fewer_words = omega arith;
  fewer_needs = omega arith;
  all_words = λ h k. refl;
  all_needs = λ k. refl;
}

stands_joined : (p q r : PartData) → Stands p q → Stands (joined_parts p r) (joined_parts q r)
stands_joined p q r s =
    let a = length-append p.words r.words in
    let b = length-append q.words r.words in
    let c = sum_by-append paths_in p.needs r.needs in
    let d = sum_by-append paths_in q.needs r.needs in
    record {
      words = same_append p.words q.words r.words r.words s.words (λ f. refl);
      needs = same_append p.needs q.needs r.needs r.needs s.needs (λ f. refl);
      fewer_words = omega (arith, a, b, s.fewer_words);
      fewer_needs = omega (arith, c, d, s.fewer_needs);
      all_words = λ h k. ap (λ ws. ws ++ r.words) (s.all_words (omega (arith, b, h)) (omega (arith, d, k)));
      all_needs = λ k. ap (λ ns. ns ++ r.needs) (s.all_needs (omega (arith, d, k)));
    }

-- ---- a part that is left out

-- the command has had the part
record HasPart (q r : PartData) : Type 0 where
  words : Has q.words r.words
  needs : Has q.needs r.needs

-- the command is too long, so that the part may be left out
record MayLeave (q r : PartData) : Type 0 where
  long : length q.words ≤ items → paths q ≤ items → ⊥
  none : paths q ≤ items → r.needs ≡ []

stands_without : (p q r : PartData) → Stands p q → HasPart q r → MayLeave q r → Stands (joined_parts p r) q
stands_without p q r s h m =
    let a = length-append p.words r.words in
    let c = sum_by-append paths_in p.needs r.needs in
    record {
      words = same_without p.words q.words r.words s.words h.words;
      needs = same_without p.needs q.needs r.needs s.needs h.needs;
      fewer_words = omega (arith, a, s.fewer_words);
      fewer_needs = omega (arith, c, s.fewer_needs);
      all_words = λ i k. absurd (m.long i k);
      all_needs = λ k. s.all_needs k ∙ sym (ap (λ ns. p.needs ++ ns) (m.none k) ∙ append-nil p.needs);
    }

-- ---- the lists that a command has had

abbrev HadPart : PartData → Option PartData → Type 0
HadPart q None = ⊥
HadPart q (Some r) = HasPart q r

abbrev MayLeaveIf : PartData → Option PartData → Type 0
MayLeaveIf q None = Unit {0}
MayLeaveIf q (Some r) = MayLeave q r

-- the part that is the list with a number
abbrev list_part : HereData → PlaceData → ℕ → Option PartData
list_part here place zero = option_map only_words (some_of place.inputs)
list_part here place (suc zero) = option_map only_words (some_of place.outputs)
list_part here place (suc (suc n)) = option_map of_outputs (outputs_at here.earlier n)

-- what is known of a command is so
record Known (here : HereData) (place : PlaceData) (q : PartData) (had : HadData) : Type 0 where
  few : had.paths ≤ paths q
  lists : (k : ℕ) → list_any (nat_eq k) had.lists ≡ true → HadPart q (list_part here place k)

had_joined : (q r : PartData) (o : Option PartData) → HadPart q o → HadPart (joined_parts q r) o
had_joined q r None h = h
had_joined q r (Some x) h = record { words = has_append q.words r.words x.words h.words; needs = has_append q.needs r.needs x.needs h.needs }

known_joined : (here : HereData) (place : PlaceData) (q r : PartData) (had : HadData) → Known here place q had → Known here place (joined_parts q r) had
known_joined here place q r had known = record {
  few = omega (arith, sum_by-append paths_in q.needs r.needs, known.few);
  lists = λ k h. had_joined q r (list_part here place k) (known.lists k h);
}

-- what is told of a value whose part is `o`: whether it is left out, and what is known after it
record Tells (here : HereData) (place : PlaceData) (q : PartData) (o : Option PartData) (n : Bool × HadData) : Type 0 where
  had : n.0 ≡ true → HadPart q o
  may : n.0 ≡ true → MayLeaveIf q o
  same : n.0 ≡ true → Known here place q n.1
  more : n.0 ≡ false → (r : PartData) → o ≡ Some r → Known here place (joined_parts q r) n.1

tells_nothing : (here : HereData) (place : PlaceData) (q : PartData) (o : Option PartData) (had : HadData) → Known here place q had
    → Tells here place q o (false, had)
tells_nothing here place q o had known = record {
  had = λ e. absurd cc;
  may = λ e. absurd cc;
  same = λ e. absurd cc;
  more = λ e r is. known_joined here place q r had known;
}

pub either : (a b : Bool) → (a || (b || false)) ≡ true → (a ≡ true) ⊎ (b ≡ true)
either true b h = inl refl
either false true h = inr refl
either false false h = absurd cc

one_more : (here : HereData) (place : PlaceData) (q r : PartData) (had : HadData) (k : ℕ) → Known here place q had → list_part here place k ≡ Some r
    → Known here place (joined_parts q r) (record had { lists = had.lists ++ k ∷ [] })
one_more here place q r had k known is = record {
  few = omega (arith, sum_by-append paths_in q.needs r.needs, known.few);
  lists = λ j h. one j (either (list_any (nat_eq j) had.lists) (nat_eq j k) (sym (list_any-append (nat_eq j) had.lists (k ∷ [])) ∙ h));
}
  where
    own : HadPart (joined_parts q r) (Some r)
    own = record { words = has_own q.words r.words; needs = has_own q.needs r.needs }

    one : (j : ℕ) → (list_any (nat_eq j) had.lists ≡ true) ⊎ (nat_eq j k ≡ true) → HadPart (joined_parts q r) (list_part here place j)
    one j (inl h) = had_joined q r (list_part here place j) (known.lists j h)
    one j (inr h) = subst (λ o. HadPart (joined_parts q r) o) (sym (ap (list_part here place) (eqb-true j k h) ∙ is)) own

tells_noted : (here : HereData) (place : PlaceData) (q : PartData) (o : Option PartData) (had : HadData) (k : ℕ) (b : Bool)
    → Known here place q had → o ≡ list_part here place k → MayLeaveIf q o → list_any (nat_eq k) had.lists ≡ b
    → Tells here place q o (b, record had { lists = if b then had.lists else had.lists ++ k ∷ [] })
tells_noted here place q o had k true known is may h = record {
  had = λ e. subst (λ p. HadPart q p) (sym is) (known.lists k h);
  may = λ e. may;
  same = λ e. known;
  more = λ e. absurd cc;
}
tells_noted here place q o had k false known is may h = record {
  had = λ e. absurd cc;
  may = λ e. absurd cc;
  same = λ e. absurd cc;
  more = λ e r some. one_more here place q r had k known (sym is ∙ some);
}

tells_list : (here : HereData) (place : PlaceData) (q : PartData) (o : Option PartData) (had : HadData) (k : ℕ) (long : Bool)
    → Known here place q had → o ≡ list_part here place k → (long ≡ true → MayLeaveIf q o) → Tells here place q o (list_noted long k had)
tells_list here place q o had k false known is may = tells_nothing here place q o had known
tells_list here place q o had k true known is may = tells_noted here place q o had k (list_any (nat_eq k) had.lists) known is (may refl) refl

-- ---- texts

text_may : (q : PartData) (words : Option (List Text)) → nat_lt items (length q.words) ≡ true → MayLeaveIf q (option_map only_words words)
text_may q None h = tt
text_may q (Some ws) h = record {
  long = λ i k. absurd (omega (arith, ltb-true items (length q.words) h, i));
  none = λ k. refl;
}

tells_text : (here : HereData) (place : PlaceData) (q : PartData) (had : HadData) (input output : Bool) (other : Option (List Text))
    → Known here place q had
    → Tells here place q (option_map only_words (if input then some_of place.inputs else (if output then some_of place.outputs else other)))
    (if input then list_noted (nat_lt items (length q.words)) 0 had
    else (if output then list_noted (nat_lt items (length q.words)) 1 had else (false, had)))
tells_text here place q had true output other known =
    tells_list here place q (option_map only_words (some_of place.inputs)) had 0 (nat_lt items (length q.words)) known refl (text_may q (some_of place.inputs))
tells_text here place q had false true other known =
    tells_list here place q (option_map only_words (some_of place.outputs)) had 1 (nat_lt items (length q.words)) known refl (text_may q (some_of place.outputs))
tells_text here place q had false false other known = tells_nothing here place q (option_map only_words other) had known

-- ---- the outputs of a custom target

outputs_part : (depth : ℕ) (outputs : Option (List Path)) → option_and_then (of_thing depth) (option_map all_outputs outputs) ≡ option_map of_outputs outputs
outputs_part depth None = refl
outputs_part depth (Some ps) = refl

outputs_may : (q : PartData) (had : HadData) (o : Option PartData) → had.paths ≤ paths q → nat_lt items had.paths ≡ true → MayLeaveIf q o
outputs_may q had None few h = tt
outputs_may q had (Some r) few h = record {
  long = λ i k. absurd (omega (arith, ltb-true items had.paths h, few, k));
  none = λ k. absurd (omega (arith, ltb-true items had.paths h, few, k));
}

pub paths_kept : (long : Bool) (k : ℕ) (had : HadData) → (list_noted long k had).1.paths ≡ had.paths
paths_kept false k had = refl
paths_kept true k had = refl

-- the outputs are counted
counted_few : (q r : PartData) (h : HadData) (outputs : Option (List Path)) → h.paths ≤ paths q → option_map of_outputs outputs ≡ Some r
    → (counted outputs h).paths ≤ paths (joined_parts q r)
counted_few q r h None few is = absurd cc
counted_few q r h (Some ps) few is =
    let made : paths (of_outputs ps) ≡ length ps + 0 = sum_by-cons paths_in (Made ps) [] in
    let needs : paths (of_outputs ps) ≡ paths r = ap (λ o. elim o as (λ x. ℕ) [ None ↦ 0 | Some x ↦ paths x ]) is in
    let total = sum_by-append paths_in q.needs r.needs in
    let inner = min-le_right (items + 1) (length ps) in
    let before = min-le_right (items + 1) h.paths in
    let outer = min-le_right (items + 1) (min (items + 1) h.paths + min (items + 1) (length ps)) in
    omega (arith, made, needs, total, inner, before, outer, few)

pub counted_lists : (outputs : Option (List Path)) (h : HadData) → (counted outputs h).lists ≡ h.lists
counted_lists None h = refl
counted_lists (Some ps) h = refl

tells_counted : (here : HereData) (place : PlaceData) (q : PartData) (b : Bool) (h : HadData) (outputs : Option (List Path)) → h.paths ≤ paths q
    → Tells here place q (option_map of_outputs outputs) (b, h) → Tells here place q (option_map of_outputs outputs) (counted_unless (b, h) outputs)
tells_counted here place q true h outputs few t = t
tells_counted here place q false h outputs few t = record {
  had = λ e. absurd cc;
  may = λ e. absurd cc;
  same = λ e. absurd cc;
  more = λ e r is. record {
    few = counted_few q r h outputs few is;
    lists = λ k found. (t.more refl r is).lists k (ap (list_any (nat_eq k)) (sym (counted_lists outputs h)) ∙ found);
  };
}

tells_outputs : (here : HereData) (place : PlaceData) (q : PartData) (had : HadData) (n : ℕ) → Known here place q had
    → Tells here place q (option_map of_outputs (outputs_at here.earlier n)) (counted_unless (list_noted (nat_lt items had.paths) (n + 2) had) (outputs_at here.earlier n))
tells_outputs here place q had n known =
    let o = option_map of_outputs (outputs_at here.earlier n) in
    let long = nat_lt items had.paths in
    let number : n + 2 ≡ suc (suc n) = omega arith in
    let few : (list_noted long (n + 2) had).1.paths ≤ paths q = omega (arith, paths_kept long (n + 2) had, known.few) in
    tells_counted here place q (list_noted long (n + 2) had).0 (list_noted long (n + 2) had).1 (outputs_at here.earlier n) few
    (tells_list here place q o had (n + 2) long known (sym (ap (list_part here place) number)) (outputs_may q had o known.few))

-- ---- all values

tells : (here : HereData) (place : PlaceData) (q : PartData) (had : HadData) (d : Data) → Known here place q had
    → Tells here place q (part_of here place d) (noted here.earlier (length q.words) d had)
tells here place q had (text t) known =
    tells_text here place q had (bytes_eq t (codes "@INPUT@")) (bytes_eq t (codes "@OUTPUT@")) (one_word (filled_text Command place t)) known
tells here place q had (object (objects.CustomTarget n count)) known =
    subst (λ o. Tells here place q o (noted here.earlier (length q.words) (object (objects.CustomTarget n count)) had)) (sym (outputs_part here.depth (outputs_at here.earlier n)))
    (tells_outputs here place q had n known)
tells here place q had (object o) known = tells_nothing here place q (part_of here place (object o)) had known
tells here place q had d known = tells_nothing here place q (part_of here place d) had known

-- what was made stands for what should have been made
abbrev pub StandsIf : Option PartData → Option PartData → Type 0
StandsIf None None = Unit {0}
StandsIf (Some p) (Some q) = Stands p q
StandsIf None (Some q) = ⊥
StandsIf (Some p) None = ⊥

step : (here : HereData) (place : PlaceData) (ds : List Data)
    → ((p q : PartData) (had : HadData) → Stands p q → Known here place q had → StandsIf (parts_behind here place p ds) (short_behind here place q had ds))
    → (p q : PartData) → Stands p q → (o : Option PartData) (b : Bool) (h : HadData) → Tells here place q o (b, h)
    → StandsIf (option_and_then (λ r. parts_behind here place (joined_parts p r) ds) o)
    (if b then short_behind here place q h ds else option_and_then (λ r. short_behind here place (joined_parts q r) h ds) o)
step here place ds rest p q s None true h t = absurd (t.had refl)
step here place ds rest p q s (Some r) true h t = rest (joined_parts p r) q h (stands_without p q r s (t.had refl) (t.may refl)) (t.same refl)
step here place ds rest p q s None false h t = tt
step here place ds rest p q s (Some r) false h t = rest (joined_parts p r) (joined_parts q r) h (stands_joined p q r s) (t.more refl r refl)

behind : (here : HereData) (place : PlaceData) (ds : List Data) (p q : PartData) (had : HadData) → Stands p q → Known here place q had
    → StandsIf (parts_behind here place p ds) (short_behind here place q had ds)
behind here place [] p q had s known = s
behind here place (d ∷ ds) p q had s known =
    let n = noted here.earlier (length q.words) d had in
    step here place ds (behind here place ds) p q s (part_of here place d) n.0 n.1 (tells here place q had d known)

pub command_stands : (here : HereData) (place : PlaceData) (ds : List Data) → StandsIf (command_of here place ds) (short_command here place ds)
command_stands here place ds =
    behind here place ds no_part no_part no_lists (stands_self no_part) (record { few = omega arith; lists = λ k h. absurd cc })

-- Arguments of the project change nothing of custom targets.
use Rattle.std.proofs.Common.{◌≡◌, ◌≤◌, true, false, List, [], ◌∷◌, ◌++◌, map, Result, Ok, Err, refl, sym, ap, ◌∙◌, subst}
use Rattle.std.specs.List.{list_any}
use Rattle.build.specs.edge.Texts.{Path, Text, holds}
use Rattle.build.specs.edge.Data.{EdgeData}
use Rattle.build.specs.edge.Holding.{are_writable}
use Rattle.build.specs.Data.{SurroundingsData, TargetData, Build, Custom}
use Rattle.build.specs.Libraries.{DeclaredTargetData, declared_target}
use Rattle.build.specs.target_edges.Edges.{edges_of, edges_after}
use Rattle.build.specs.project.Laws.{outputs_of, times, all_made, all_inside}
use Rattle.build.specs.project.World.{reserved_paths, known_of}
use Rattle.std.specs.Prelude.{◌&&◌, ◌||◌}
use Rattle.std.proofs.lemmas.List.Folds.{list_any-append}
use Rattle.build.specs.project.Earlier.{refers_back, all_refer_back}
use Rattle.build.specs.project.Whole.{targets_in, IsWhole}
use Rattle.build.specs.project.Adding.{is_build, first_build, sources_of, is_made_source, arguments_answer, after_answer}
use Rattle.build.specs.project.World.{WorldData}
use Rattle.build.specs.project.Refused.{RefusedData, refusal_for_text}
use Rattle.build.specs.project.Unheld.{unheld_word}
use Rattle.support.specs.declared.faults.refusal.Refusal.TheVariants.{LateArguments, NinjaName}
use Rattle.std.specs.Prelude.{if◌then◌else◌}
use Rattle.std.specs.List.{list_all}
use Rattle.build.specs.edge.Holding.{value_held}
use Rattle.build.proofs.TextLists.{list_any-map}
use Rattle.build.specs.DeclaredTargetViews.{declared_target_views}
use Rattle.build.specs.View.{target_view}
use Rattle.build.specs.declared.declared_target.DeclaredTarget.{DeclaredTarget}
use Rattle.build.proofs.Reading.{targets_are}

abbrev pub with_words : SurroundingsData → (arguments link_arguments : List Text) → SurroundingsData
with_words s arguments link_arguments = record { facts = s.facts; arguments = arguments; link_arguments = link_arguments }

edges_same : (s : SurroundingsData) (cs bs : List Text) (ts : List TargetData) (earlier : List DeclaredTargetData) → list_any is_build ts ≡ false → edges_after (with_words s cs bs) earlier ts ≡ edges_after s earlier ts
edges_same s cs bs [] earlier e = refl
edges_same s cs bs (Build t ∷ ts) earlier e = absurd cc
edges_same s cs bs (Custom t ∷ ts) earlier e = ap (λ es. edges_of s earlier (declared_target earlier (Custom t)) ++ es) (edges_same s cs bs ts (earlier ++ declared_target earlier (Custom t) ∷ []) e)

back_same : (s : SurroundingsData) (outputs : List Path) (cs bs : List Text) (earlier ts : List TargetData) → list_any is_build earlier ≡ false → list_any is_build ts ≡ false
    → all_refer_back (with_words s cs bs) outputs earlier ts ≡ all_refer_back s outputs earlier ts
back_same s outputs cs bs earlier [] e f = refl
back_same s outputs cs bs earlier (Build t ∷ ts) e f = absurd cc
back_same s outputs cs bs earlier (Custom t ∷ ts) e f =
    let rest = all_refer_back (with_words s cs bs) outputs (earlier ++ Custom t ∷ []) ts in
    ap (λ es. list_all (is_made_source (λ p. holds p (outputs_of es ++ outputs))) (sources_of (Custom t)) && rest) (edges_same s cs bs earlier [] e)
    ∙ ap (λ b. refers_back s outputs earlier (Custom t) && b)
    (back_same s outputs cs bs (earlier ++ Custom t ∷ []) ts (list_any-append is_build earlier (Custom t ∷ []) ∙ ap (λ b. b || false) e) f)

pub whole_with_words : (s : SurroundingsData) (ls : List DeclaredTargetData) (outputs present kept : List Path) (cs bs : List Text) → IsWhole s ls outputs present kept → list_any is_build (targets_in ls) ≡ false
    → IsWhole (with_words s cs bs) ls outputs present kept
whole_with_words s ls outputs present kept cs bs w e =
    let same = edges_same s cs bs (targets_in ls) [] e in
    record {
      libraries = w.libraries;
      paths = λ p. w.paths p ∙ ap (λ es. holds p (reserved_paths ++ (outputs_of es ++ outputs))) (sym same);
      once = λ p. let P : List EdgeData → Type 0 = λ es. times p (reserved_paths ++ (outputs_of es ++ outputs)) ≤ 1 in subst P (sym same) (w.once p);
      made = ap (all_made (known_of s outputs present)) same ∙ w.made;
      inside = ap (λ es. all_inside (outputs_of es)) same ∙ w.inside;
      outputs_inside = w.outputs_inside;
      writable = ap are_writable same ∙ w.writable;
      back = back_same s outputs cs bs [] (targets_in ls) refl e ∙ w.back;
    }

-- ---- what is answered

pub answer_late : (w : WorldData) (words : List Text) → list_all value_held words ≡ true → list_any is_build w.targets ≡ true → arguments_answer w words ≡ Err (refusal_for_text LateArguments (first_build w.targets))
answer_late w words a b = ap (λ x. if x then (if list_any is_build w.targets then Err (refusal_for_text LateArguments (first_build w.targets)) else Ok tt) else Err (refusal_for_text NinjaName (unheld_word words))) a ∙ ap (λ x. if x then Err (refusal_for_text LateArguments (first_build w.targets)) else Ok tt) b

pub answer_words : (w : WorldData) (words : List Text) → list_all value_held words ≡ true → list_any is_build w.targets ≡ false → arguments_answer w words ≡ Ok tt
answer_words w words a b = ap (λ x. if x then (if list_any is_build w.targets then Err (refusal_for_text LateArguments (first_build w.targets)) else Ok tt) else Err (refusal_for_text NinjaName (unheld_word words))) a ∙ ap (λ x. if x then Err (refusal_for_text LateArguments (first_build w.targets)) else Ok tt) b

pub after_unit : (r : Result (Unit {0}) RefusedData) (then_ before : WorldData) → r ≡ Ok tt → after_answer r then_ before ≡ then_
after_unit r then_ before e = ap (λ x. after_answer x then_ before) e

pub after_refusal : (r : Result (Unit {0}) RefusedData) (why : RefusedData) (then_ before : WorldData) → r ≡ Err why → after_answer r then_ before ≡ before
after_refusal r why then_ before e = ap (λ x. after_answer x then_ before) e

pub first_is : (xs : List DeclaredTarget) → first_build (map (λ l. target_view l.target) xs) ≡ first_build (targets_in (declared_target_views xs))
first_is xs = ap first_build (sym (targets_are xs))

-- whether one of the targets is a build target, as the code asks it
pub some_is : (xs : List DeclaredTarget) → list_any is_build (targets_in (declared_target_views xs)) ≡ list_any (λ l. is_build (target_view l.target)) xs
some_is xs = ap (list_any is_build) (targets_are xs) ∙ list_any-map is_build (λ (l : DeclaredTarget). target_view l.target) xs

-- Two custom targets that a project answers alike: one leaves out words and needed files that it has had before, and both are too long.
use Rattle.std.proofs.Common.{◌≡◌, ℕ, Bool, true, false, List, [], ◌∷◌, ◌++◌, Option, Some, None, Result, Ok, Err, is_some, refl, sym, ap, ◌∙◌}
use Rattle.std.specs.Prelude.{◌&&◌, length, not, option_and_then, if◌then◌else◌}
use Rattle.std.specs.List.{find, list_all}
use Rattle.std.specs.Option.{unwrap_or}
use Rattle.std.proofs.lemmas.List.Folds.{list_all-append}
use Rattle.build.specs.edge.Texts.{Path, Text, holds}
use Rattle.build.specs.edge.Holding.{are_writable, is_path, is_some_list, value_held}
use Rattle.build.specs.Data.{Custom, CustomData, SourceData, TargetData}
use Rattle.build.specs.Files.{output_paths}
use Rattle.build.specs.Libraries.{linked_of}
use Rattle.build.specs.project.Adding.{after_answer, after_target, edges_with, is_fit, is_made_source, is_present, is_within, sources_of, target_answer}
use Rattle.build.specs.project.Adding.{target_fits, unless_taken, with_target}
use Rattle.build.specs.project.Laws.{first_taken, outputs_of}
use Rattle.build.specs.project.Refused.{RefusedData, refusal_for_text}
use Rattle.build.specs.project.Unheld.{unheld_path, unheld_paths, unheld_source, unheld_sources, unheld_text, unheld_word_if, unheld_words, ◌or◌}
use Rattle.build.specs.project.World.{WorldData, made_in, taken_in}
use Rattle.build.specs.target_edges.Parts.{custom_held, depfile_held, source_held}
use Rattle.support.specs.declared.faults.refusal.Refusal.TheVariants.{Arguments, FileMissing, NinjaName, Limit}
use Rattle.build.proofs.HoldingCustom.{custom_are_held}
use Rattle.target_calls.specs.CustomInstalls.{installed_names}
use Rattle.target_calls.specs.FitBreaches.{fit_breach}
use Rattle.target_calls.proofs.FirstItems.{SameFirst, all_same, told_found}

-- each project answers both alike, and what is told of both is the same
pub record Alike (t u : TargetData) : Type 0 where
  pub fit : (w : WorldData) → is_fit w u ≡ is_fit w t
  pub breach : (w : WorldData) → fit_breach w u ≡ fit_breach w t
  pub answer : (w : WorldData) → target_answer w u ≡ target_answer w t
  pub after : (w : WorldData) → after_target w u ≡ after_target w t
  pub names : installed_names u ≡ installed_names t

pub alike_self : (t u : TargetData) → u ≡ t → Alike t u
alike_self t u e = record {
  fit = λ w. ap (is_fit w) e;
  breach = λ w. ap (fit_breach w) e;
  answer = λ w. ap (target_answer w) e;
  after = λ w. ap (after_target w) e;
  names = ap installed_names e;
}

-- the target with other words and needs
abbrev pub with_lists : CustomData → List Text → List SourceData → CustomData
with_lists t words needs = record t { words = words; needs = needs }

-- ---- what is asked of the words and the needs

some_found : (xs : List Text) → is_some_list xs ≡ is_some (find (λ x. true) xs)
some_found [] = refl
some_found (x ∷ xs) = refl

some_same : (xs ys : List Text) → SameFirst xs ys → is_some_list ys ≡ is_some_list xs
some_same xs ys s = some_found ys ∙ ap is_some (s (λ x. true)) ∙ sym (some_found xs)

unheld_same : (ns ms : List SourceData) → SameFirst ns ms → unheld_sources ms ≡ unheld_sources ns
unheld_same ns ms s =
    let told = told_found unheld_sources unheld_source refl (λ x xs. refl) in
    told ms ∙ ap (λ o. option_and_then unheld_source o) (s (λ x. is_some (unheld_source x))) ∙ sym (told ns)

behind_same : (p : SourceData → Bool) (is ns ms : List SourceData) → SameFirst ns ms → list_all p (is ++ ms) ≡ list_all p (is ++ ns)
behind_same p is ns ms s = list_all-append p is ms ∙ ap (λ b. list_all p is && b) (all_same ns ms s p) ∙ sym (list_all-append p is ns)

held_same : (t : CustomData) (words : List Text) (needs : List SourceData) → SameFirst t.words words → SameFirst t.needs needs
    → custom_held (with_lists t words needs) (output_paths t) ≡ custom_held t (output_paths t)
held_same t words needs s k =
    let os = output_paths t in
    let front = λ (b : Bool). is_some_list os && (list_all is_path os && (list_all source_held t.inputs && b)) in
    let dep = depfile_held t.folder t.depfile in
    ap (λ b. front (b && (is_some_list words && (list_all value_held words && dep)))) (all_same t.needs needs k source_held)
    ∙ ap (λ b. front (list_all source_held t.needs && (b && (list_all value_held words && dep)))) (some_same t.words words s)
    ∙ ap (λ b. front (list_all source_held t.needs && (is_some_list t.words && (b && dep)))) (all_same t.words words s value_held)

text_same : (t : CustomData) (words : List Text) (needs : List SourceData) → SameFirst t.words words → SameFirst t.needs needs
    → unheld_text (Custom (with_lists t words needs)) ≡ unheld_text (Custom t)
text_same t words needs s k =
    let front = unheld_path t.folder or unheld_paths t.outputs or unheld_sources t.inputs in
    ap (λ o. unwrap_or (front or o or unheld_words words or unheld_word_if t.depfile) t.name) (unheld_same t.needs needs k)
    ∙ ap (λ o. unwrap_or (front or unheld_sources t.needs or o or unheld_word_if t.depfile) t.name) (s (λ w. not (value_held w)))

-- ---- the answer

abbrev answer_for : WorldData → (fit present writable within : Bool) (taken : Option Path) (unheld : Text) → Result ℕ RefusedData
answer_for w fit present writable within taken unheld =
    if fit then
    (if present then
    (if writable then unless_taken taken (if within then Ok (length w.targets) else Err (refusal_for_text Limit []))
    else Err (refusal_for_text NinjaName unheld))
    else Err (refusal_for_text FileMissing []))
    else Err (refusal_for_text Arguments [])

abbrev taken_for : WorldData → CustomData → Option Path
taken_for w t = first_taken (taken_in w) (outputs_of (edges_with w (Custom t)))

abbrev is_made : WorldData → SourceData → Bool
is_made w s = is_made_source (λ p. holds p (made_in w)) s

writable_same : (w : WorldData) (t : CustomData) (words : List Text) (needs : List SourceData) → SameFirst t.words words → SameFirst t.needs needs
    → are_writable (edges_with w (Custom (with_lists t words needs))) ≡ are_writable (edges_with w (Custom t))
writable_same w t words needs s k =
    let depth = w.surroundings.facts.depth in
    custom_are_held depth (with_lists t words needs) ∙ held_same t words needs s k ∙ sym (custom_are_held depth t)

fit_same : (w : WorldData) (t : CustomData) (words : List Text) (needs : List SourceData) → SameFirst t.needs needs
    → is_fit w (Custom (with_lists t words needs)) ≡ is_fit w (Custom t)
fit_same w t words needs k = ap (λ b. target_fits (linked_of w.targets) (Custom t) && b) (behind_same (is_made w) t.inputs t.needs needs k)

answer_same : (w : WorldData) (t : CustomData) (words : List Text) (needs : List SourceData) → SameFirst t.words words → SameFirst t.needs needs
    → is_within (Custom (with_lists t words needs)) ≡ is_within (Custom t)
    → target_answer w (Custom (with_lists t words needs)) ≡ target_answer w (Custom t)
answer_same w t words needs s k within =
    let u = with_lists t words needs in
    let taken = taken_for w t in
    let present = list_all (is_present w.present) (sources_of (Custom u)) in
    ap (λ b. answer_for w b present (are_writable (edges_with w (Custom u))) (is_within (Custom u)) taken (unheld_text (Custom u))) (fit_same w t words needs k)
    ∙ ap (λ b. answer_for w (is_fit w (Custom t)) b (are_writable (edges_with w (Custom u))) (is_within (Custom u)) taken (unheld_text (Custom u)))
    (behind_same (is_present w.present) t.inputs t.needs needs k)
    ∙ ap (λ b. answer_for w (is_fit w (Custom t)) (list_all (is_present w.present) (sources_of (Custom t))) b (is_within (Custom u)) taken (unheld_text (Custom u)))
    (writable_same w t words needs s k)
    ∙ ap (λ b. answer_for w (is_fit w (Custom t)) (list_all (is_present w.present) (sources_of (Custom t))) (are_writable (edges_with w (Custom t))) b taken (unheld_text (Custom u)))
    within
    ∙ ap (λ x. answer_for w (is_fit w (Custom t)) (list_all (is_present w.present) (sources_of (Custom t))) (are_writable (edges_with w (Custom t))) (is_within (Custom t)) taken x)
    (text_same t words needs s k)

-- ---- the project after it

refused_for : (w v : WorldData) (fit present writable : Bool) (taken : Option Path) (unheld : Text)
    → after_answer (answer_for w fit present writable false taken unheld) v w ≡ w
refused_for w v false present writable taken unheld = refl
refused_for w v true false writable taken unheld = refl
refused_for w v true true false taken unheld = refl
refused_for w v true true true (Some path) unheld = refl
refused_for w v true true true None unheld = refl

long_is_refused : (w : WorldData) (t : CustomData) → is_within (Custom t) ≡ false → after_target w (Custom t) ≡ w
long_is_refused w t h =
    let present = list_all (is_present w.present) (sources_of (Custom t)) in
    let writable = are_writable (edges_with w (Custom t)) in
    ap (λ b. after_answer (answer_for w (is_fit w (Custom t)) present writable b (taken_for w t) (unheld_text (Custom t))) (with_target w (Custom t)) w) h
    ∙ refused_for w (with_target w (Custom t)) (is_fit w (Custom t)) present writable (taken_for w t) (unheld_text (Custom t))

-- both are too long
pub alike_long : (t : CustomData) (words : List Text) (needs : List SourceData) → SameFirst t.words words → SameFirst t.needs needs
    → is_within (Custom t) ≡ false → is_within (Custom (with_lists t words needs)) ≡ false → Alike (Custom t) (Custom (with_lists t words needs))
alike_long t words needs s k h l = record {
  fit = λ w. fit_same w t words needs k;
  breach = λ w. refl;
  answer = λ w. answer_same w t words needs s k (l ∙ sym h);
  after = λ w. long_is_refused w (with_lists t words needs) l ∙ sym (long_is_refused w t h);
  names = refl;
}

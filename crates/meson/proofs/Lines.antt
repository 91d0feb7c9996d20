-- Lines that are logged one after another.
use Rattle.std.proofs.Common.{◌≡◌, ◌<◌, ◌≤◌, ◌+◌, ℕ, List, [], ◌++◌, ◌∷◌, length, map, take, drop, get_or, Result, Ok, Err, IsErrAnd, refl, subst, sym, ap, ◌∙◌}
use Rattle.std.specs.Prelude.{string_bytes}
use Rattle.std.specs.List.{flat_map}
use Rattle.std.proofs.lemmas.Grind.{flat_map-append}
use Rattle.std.proofs.lemmas.List.{append-nil, append_assoc, map-append, take-append-drop, take_all, take_more}
use Rattle.ports.specs.Endings.{Failed, HasRoom, Short, Whole}
use Rattle.ports.specs.Outputs.{OutputState, Step, Writes, logs}
use Rattle.ports.proofs.Sending.{writes_none, writes_nothing, writes_stop, writes_then}
use Rattle.backend.specs.BuildFile.{ending_of}
use Rattle.backend.specs.declared.stop.WriteStop.{WriteStop}
use Rattle.backend.specs.declared.stop.WriteStop.TheVariants as stops
use Rattle.meson.specs.Labels.{Knows}
use Rattle.meson.specs.Questions.{Label, first_told}
use Rattle.meson.specs.QuestionLines.{Tells}
use Rattle.meson.specs.declared.question_lines.Telling.{Telling}

-- these lines are all that was logged from the beginning on, each once
pub record Logged (lines : List (Label × List ℕ)) (t : Telling) (old now : OutputState) : Type 0 where
  pub sent : List ℕ
  pub told : List Label
  pub knows : Knows t.labels told
  pub empty : string_bytes t.text ≡ []
  pub writes : Writes old (logs sent) Whole now
  pub text : (rest : List (Label × List ℕ)) → sent ++ first_told told rest ≡ first_told [] (lines ++ rest)

logs_then : (a b : List ℕ) → logs (a ++ b) ≡ logs a ++ logs b
unfolding logs
logs_then a b = map-append _ a b

logs_none : (s : OutputState) → Writes s (logs []) Whole s
unfolding logs
logs_none s = writes_nothing s

pub logged_none : (t : Telling) (s : OutputState) → Knows t.labels [] → string_bytes t.text ≡ [] → Logged [] t s s
logged_none t s k e = record { sent = []; told = []; knows = k; empty = e; writes = logs_none s; text = λ rest. refl }

pub logged_room : {lines : List (Label × List ℕ)} {t : Telling} {old now : OutputState} → Logged lines t old now → HasRoom old.failures → HasRoom now.failures
logged_room l h = subst (λ n. HasRoom n) (sym l.writes.failures) h

-- what was sent, with what one question adds
sent_more : (t : Telling) (sent : List ℕ) (told after : List Label) (ls rest : List (Label × List ℕ)) (next : List ℕ) → string_bytes t.text ≡ []
    → next ++ first_told after rest ≡ string_bytes t.text ++ first_told told (ls ++ rest)
    → (sent ++ next) ++ first_told after rest ≡ sent ++ first_told told (ls ++ rest)
sent_more t sent told after ls rest next none e =
    append_assoc sent next (first_told after rest)
    ∙ ap (λ x. sent ++ x) (e ∙ ap (λ x. x ++ first_told told (ls ++ rest)) none)

-- the lines of one more question
lines_more : {A B : Type 0} (f : B → List (Label × List ℕ)) (g : A → B) (xs : List A) (i : ℕ) (x : A) (rest : List (Label × List ℕ))
    → x ≡ get_or xs i x → i < length xs
    → flat_map f (map g (take i xs)) ++ (f (g x) ++ rest) ≡ flat_map f (map g (take (i + 1) xs)) ++ rest
lines_more f g xs i x rest at lt =
    let before = flat_map f (map g (take i xs)) in
    sym (append_assoc before (f (g x)) rest)
    ∙ ap (λ ls. ls ++ rest) (ap (λ ls. before ++ ls) (sym (append-nil (f (g x)))) ∙ sym (flat_map-append f (map g (take i xs)) (g x ∷ []))
    ∙ ap (flat_map f) (sym (map-append g (take i xs) (x ∷ [])))
    ∙ ap (λ ys. flat_map f (map g ys)) (ap (λ y. take i xs ++ y ∷ []) at ∙ sym (take_more xs i x lt)))

-- one more question was logged
pub logged_more : {A B : Type 0} (f : B → List (Label × List ℕ)) (g : A → B) (t u v : Telling) (xs : List A) (i : ℕ) (x : A) {old mid new : OutputState}
    → x ≡ get_or xs i x → i < length xs → Tells t (f (g x)) u → Logged (flat_map f (map g (take i xs))) t old mid
    → v.labels ≡ u.labels → string_bytes v.text ≡ [] → Writes mid (logs (string_bytes u.text)) Whole new
    → Logged (flat_map f (map g (take (i + 1) xs))) v old new
logged_more f g t u v xs i x {old} {mid} {new} at lt tells l same none w =
    let more = tells l.told l.knows in
    let next = string_bytes u.text in
    record {
      sent = l.sent ++ next;
      told = more.after;
      knows = subst (λ ls. Knows ls more.after) (sym same) more.knows;
      empty = none;
      writes = subst (λ run. Writes old run Whole new) (sym (logs_then l.sent next)) (writes_then l.writes w);
      text = λ rest.
          sent_more t l.sent l.told more.after (f (g x)) rest next l.empty (more.text rest)
          ∙ l.text (f (g x) ++ rest) ∙ ap (λ ls. first_told [] ls) (lines_more f g xs i x rest at lt);
    }

-- all lines, of which the first were logged
all_lines : {A B : Type 0} (f : B → List (Label × List ℕ)) (g : A → B) (xs : List A) (i : ℕ)
    → flat_map f (map g (take i xs)) ++ flat_map f (map g (drop i xs)) ≡ flat_map f (map g xs)
all_lines f g xs i =
    sym (flat_map-append f (map g (take i xs)) (map g (drop i xs)))
    ∙ ap (flat_map f) (sym (map-append g (take i xs) (drop i xs)))
    ∙ ap (λ ys. flat_map f (map g ys)) (take-append-drop i xs)

-- the loop came to its end
pub logged_all : {A B : Type 0} (f : B → List (Label × List ℕ)) (g : A → B) (t : Telling) (xs : List A) (i : ℕ) {old now : OutputState}
    → length xs ≤ i → Logged (flat_map f (map g (take i xs))) t old now → Writes old (logs (first_told [] (flat_map f (map g xs)))) Whole now
logged_all f g t xs i {old} {now} end l =
    let lines = flat_map f (map g (take i xs)) in
    subst (λ text. Writes old (logs text) Whole now)
    (sym (append-nil l.sent) ∙ l.text [] ∙ ap (λ ls. first_told [] ls) (append-nil lines ∙ ap (λ ys. flat_map f (map g ys)) (take_all i xs end)))
    l.writes

-- the loop stopped after these lines, for want of memory
pub logged_short : {A B : Type 0} (f : B → List (Label × List ℕ)) (g : A → B) (t : Telling) (xs : List A) (i : ℕ) {old now : OutputState}
    → Logged (flat_map f (map g (take i xs))) t old now → Writes old (logs (first_told [] (flat_map f (map g xs)))) Short now
logged_short f g t xs i {old} {now} l =
    let left = first_told l.told (flat_map f (map g (drop i xs))) in
    subst (λ text. Writes old (logs text) Short now)
    (l.text (flat_map f (map g (drop i xs))) ∙ ap (λ ls. first_told [] ls) (all_lines f g xs i))
    (subst (λ run. Writes old run Short now) (sym (logs_then l.sent left)) (writes_then l.writes (writes_none now (logs left))))

-- the log failed at the lines of one question
pub logged_failed : {A B : Type 0} (f : B → List (Label × List ℕ)) (g : A → B) (t u : Telling) (xs : List A) (i : ℕ) (x : A) {old mid new : OutputState}
    → x ≡ get_or xs i x → i < length xs → Tells t (f (g x)) u → Logged (flat_map f (map g (take i xs))) t old mid
    → Writes mid (logs (string_bytes u.text)) Failed new → Writes old (logs (first_told [] (flat_map f (map g xs)))) Failed new
logged_failed f g t u xs i x {old} {mid} {new} at lt tells l w =
    let more = tells l.told l.knows in
    let next = string_bytes u.text in
    let rest = flat_map f (map g (drop (i + 1) xs)) in
    let left = first_told more.after rest in
    subst (λ text. Writes old (logs text) Failed new)
    (sym (append_assoc l.sent next left)
    ∙ sent_more t l.sent l.told more.after (f (g x)) rest next l.empty (more.text rest)
    ∙ l.text (f (g x) ++ rest)
    ∙ ap (λ ls. first_told [] ls) (lines_more f g xs i x rest at lt ∙ all_lines f g xs (i + 1)))
    (subst (λ run. Writes old run Failed new) (sym (logs_then l.sent (next ++ left)))
    (writes_then l.writes (subst (λ run. Writes mid run Failed new) (sym (logs_then next left)) (writes_stop (logs left) w))))

-- ---- how the call ends

pub ended_short : {old new : OutputState} {run : List Step} (r : Result (Unit {0}) WriteStop) → IsErrAnd r (λ e. e ≡ stops.Memory) → Writes old run Short new → Writes old run (ending_of r) new
ended_short (Ok u) is w = absurd is
ended_short {old} {new} {run} (Err e) is w = subst (λ x. Writes old run (ending_of {B = Unit {0}} (Err x)) new) (sym is) w

pub ended_failed : {old new : OutputState} {run : List Step} (r : Result (Unit {0}) WriteStop) → IsErrAnd r (λ e. e ≡ stops.Device) → Writes old run Failed new → Writes old run (ending_of r) new
ended_failed (Ok u) is w = absurd is
ended_failed {old} {new} {run} (Err e) is w = subst (λ x. Writes old run (ending_of {B = Unit {0}} (Err x)) new) (sym is) w

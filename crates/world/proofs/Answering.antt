-- Calls one after another, against their deeds.
use Rattle.std.proofs.Common.{◌≡◌, ℕ, ◌+◌, Option, Some, None, option_map, is_some, IsTrue, length, Bool, true, false, List, [], Result, Ok}
use Rattle.std.proofs.Common.{Err, IsErrAnd, refl, sym, ap, subst, ◌∙◌, arith}
use Rattle.code.specs.Draft.{IsFront}
use Rattle.ports.specs.Outputs.{OutputState, logs, Sends}
use Rattle.ports.specs.Tree.{TreeState, Stays, file_at}
use Rattle.values.specs.Data.{Data}
use Rattle.values.specs.Tables.{Answers}
use Rattle.values.specs.View.{data_of}
use Rattle.values.specs.declared.refusal.OperationRefusal.{OperationRefusal as OperationRefusal}
use Rattle.values.specs.declared.value.Value.{Value}
use Rattle.build.specs.Data.{FactsData}
use Rattle.support.specs.Faults.{FaultData}
use Rattle.world.specs.Trace.{Seen, seen_from_parts}
use Rattle.machine_file.specs.Questions.{Answer, Question, answer_to}
use Rattle.world.specs.World.{World, Facts, LeavesPaths, world_after_question, facts_after_project as begun_facts, world_after_look, fault_here}
use Rattle.world.specs.Store.{world_after_change}
use Rattle.world.specs.Run.{ran, Done}
use Rattle.world.specs.Gives.{Gives, Ends, failures_after}
use Rattle.world.specs.Deed.{Files, Deed, give, refuse, tell, say, begin_project, consult, read, change, then, perform, answer_or_refusal, fitting_value}
use Rattle.world.specs.Deed.{need, there}
use Rattle.world.specs.Answering.{State, seen_at, HasRoom, Fails, Carries, Refuses, IsAnswered, IsAnsweredBy, IsFitting, Views}
use Rattle.world.specs.Ruled.{answered_by}
use Rattle.arguments.specs.declared.rule.Rule.{Rule}
use Rattle.world.proofs.Follow.{stopped_later, failed_later, ended_later, refused_later, gives_later, begun, done, device_stops}
use Rattle.world.proofs.Follow.{failures_after-refusal, wanted_grown}
use Rattle.world.proofs.Holding.{holds_later, stays_here, stays_on}
use Rattle.world.proofs.Marks.{none_added, same_front, grown_added}
use Rattle.world.proofs.Tells.{ends_told, begins_logs}
use Rattle.support.specs.declared.faults.refusal.Refusal.{Refusal}
use Rattle.world.specs.declared.stop.Stop.{Stop}
use Rattle.world.specs.declared.stop.Stop.TheVariants as stops

-- ---- failures

failures_after-err : (B C : Type 0) (n : ℕ) (s : Stop) → failures_after {B = B} n (Err s) ≡ failures_after {B = C} n (Err s)
failures_after-err B C n (stops.Refused fault) = refl
failures_after-err B C n stops.Device = refl
failures_after-err B C n stops.Memory = refl

pub failures_after-as : {B : Type 0} (C : Type 0) (n : ℕ) (result : Result B Stop) (s : Stop) → IsErrAnd result (λ e. e ≡ s) → failures_after n result ≡ failures_after {B = C} n (Err s)
failures_after-as C n (Ok x) s is = absurd is
failures_after-as {B = B} C n (Err e) s is = ap (λ d. failures_after {B = B} n (Err d)) is ∙ failures_after-err B C n s

pub no_failure : {B : Type 0} {s : State} {result : Result B Stop} → ((n : ℕ) → failures_after n result ≡ n) → Fails s result s
no_failure {s = s} h = record { tree = omega arith; out = omega arith; sum = sym (h (s.tree.failures + s.out.failures)) }

pub fails_then : {B C : Type 0} {s0 s1 s2 : State} {x : B} {result : Result C Stop} → Fails s0 (Ok x) s1 → Fails s1 result s2 → Fails s0 result s2
fails_then {result = result} p q = record { tree = omega (arith, p.tree, q.tree); out = omega (arith, p.out, q.out); sum = q.sum ∙ ap (λ k. failures_after k result) p.sum }

pub fails_stop : {B C : Type 0} {s0 s1 : State} {s : Stop} {result : Result C Stop} → IsErrAnd result (λ e. e ≡ s) → Fails {B = B} s0 (Err s) s1 → Fails s0 result s1
fails_stop {B = B} {s0 = s0} {s = s} {result = result} is p = record { tree = p.tree; out = p.out; sum = p.sum ∙ sym (failures_after-as B (s0.tree.failures + s0.out.failures) result s is) }

pub refuses_quietly : {B : Type 0} (f : FaultData) (result : Result B Stop) → Refuses f result → (n : ℕ) → failures_after n result ≡ n
refuses_quietly f (Ok x) is n = absurd is
refuses_quietly {B = B} f (Err s) is n = failures_after-refusal B n s f is

pub memory_quietly : {B : Type 0} (result : Result B Stop) → IsErrAnd result (λ e. e ≡ stops.Memory) → (n : ℕ) → failures_after n result ≡ n
memory_quietly {B = B} result is n = failures_after-as B n result stops.Memory is

-- ---- room

-- a device that did not fail has the room that it had
pub room_later : {A B : Type 0} {view : B → A} {d : Deed A} {old new : State} {x : B} → HasRoom old → Carries view d old (Ok x) new → HasRoom new
room_later r p = record {
  tree = omega (arith, r.tree, r.out, p.device.tree, p.device.out, p.device.sum);
  out = omega (arith, r.tree, r.out, p.device.tree, p.device.out, p.device.sum);
}

-- ---- one call, and then the rest

pub carries_then : {A B C D : Type 0} {view : C → A} {view' : D → B} {d : Deed A} {next : A → Deed B} {s0 s1 s2 : State} {x : C} {result : Result D Stop}
    → Carries view d s0 (Ok x) s1 → Carries view' (next (view x)) s1 result s2 → Carries view' (then d next) s0 result s2
carries_then {view = view} {view' = view'} {d = d} {next = next} {s0 = s0} {s2 = s2} {x = x} {result = result} p q = record {
  gives = λ files n h. gives_later view' result s2.world (seen_at s2 n) (done (perform files d s0.world) (λ a. perform files (next a)) (view x) (p.gives files n h)) (q.gives files n (holds_later p.stays h));
  stays = stays_on p.stays q.stays;
  device = fails_then p.device q.device;
  same = q.same ∙ p.same;
}

-- a call that stops
pub carries_stop : {A B C D : Type 0} {view : C → A} {view' : D → B} {d : Deed A} {next : A → Deed B} {s0 s1 : State} {s : Stop} {result : Result D Stop}
    → Carries view d s0 (Err s) s1 → IsErrAnd result (λ e. e ≡ s) → Carries view' (then d next) s0 result s1
carries_stop {view = view} {view' = view'} {d = d} {next = next} {s0 = s0} {s1 = s1} {s = s} {result = result} p is = record {
  gives = λ files n h. stopped_later view view' (perform files d s0.world) (λ a. perform files (next a)) s s1.world s1.world (seen_at s1 n) result (begun _ (seen_at s0 n)) is refl (p.gives files n h);
  stays = p.stays;
  device = fails_stop is p.device;
  same = p.same;
}

-- want of memory: the world may have changed, and names may be new; no device failed, and nothing was told
pub carries_lost : {A B : Type 0} {view : B → A} {d : Deed A} {w w1 : World} {names names1 : List (List ℕ)} {tree tree1 : TreeState} {out : OutputState} {lent : ℕ × ℕ × ℕ} {result : Result B Stop}
    → IsErrAnd result (λ e. e ≡ stops.Memory) → IsFront names names1 → Stays tree tree1 → tree1.failures ≡ tree.failures
    → Carries view d (record { world = w; names = names; tree = tree; out = out; lent = lent }) result (record { world = w1; names = names1; tree = tree1; out = out; lent = lent })
carries_lost {view = view} {d = d} {w = w} {w1 = w1} {names = names} {names1 = names1} {tree = tree} {tree1 = tree1} {out = out} {result = result} is front stays none = record {
  gives = λ files n h. wanted_grown view (perform files d w) w1 (seen_from_parts out n names) (seen_from_parts out n names1) result is refl refl front;
  stays = stays;
  device = record { tree = omega (arith, none); out = omega arith; sum = let m : ℕ = tree.failures + out.failures in let e : tree1.failures + out.failures ≡ m = omega (arith, none) in e ∙ sym (memory_quietly result is m) };
  same = refl;
}

-- the same, where the tree was not asked
pub carries_wanted : {A B : Type 0} {view : B → A} {d : Deed A} {w w1 : World} {names names1 : List (List ℕ)} {tree : TreeState} {out : OutputState} {lent : ℕ × ℕ × ℕ} {result : Result B Stop}
    → IsErrAnd result (λ e. e ≡ stops.Memory) → IsFront names names1 → Carries view d (record { world = w; names = names; tree = tree; out = out; lent = lent }) result (record { world = w1; names = names1; tree = tree; out = out; lent = lent })
carries_wanted {tree = tree} is front = carries_lost is front (stays_here tree) refl

-- want of memory before anything was done
pub carries_none : {A B : Type 0} {view : B → A} {d : Deed A} {s : State} {result : Result B Stop} → IsErrAnd result (λ e. e ≡ stops.Memory) → Carries view d s result s
carries_none {s = s} is = carries_wanted is (same_front s.names)

-- an answer is given
pub carries_give : {A B : Type 0} {view : B → A} {a : A} {s : State} {x : B} → view x ≡ a → Carries view (give a) s (Ok x) s
carries_give {view = view} {a = a} {s = s} {x = x} is = record {
  gives = λ files n h. ended_later view x a s.world (seen_at s n) is (begun (perform files (give a) s.world) (seen_at s n));
  stays = stays_here s.tree;
  device = no_failure (λ n. refl);
  same = refl;
}

refused_gives : {A B : Type 0} (view : B → A) (files : Files) (refusal : Refusal) (detail : List ℕ) (w : World) (result : Result B Stop) (old : Seen)
    → Refuses (fault_here w refusal detail) result → Gives view (perform files (refuse refusal detail) w) result w old old
refused_gives view files refusal detail w (Ok x) old is = absurd is
refused_gives view files refusal detail w (Err s) old is = refused_later view (fault_here w refusal detail) s w w old (begun _ old) is refl

-- the call is refused
pub carries_refuse : {A B : Type 0} {view : B → A} {refusal : Refusal} {detail : List ℕ} {s : State} {result : Result B Stop} → Refuses (fault_here s.world refusal detail) result
    → Carries view (refuse refusal detail) s result s
carries_refuse {view = view} {refusal = refusal} {detail = detail} {s = s} {result = result} is = record {
  gives = λ files n h. refused_gives view files refusal detail s.world result (seen_at s n) is;
  stays = stays_here s.tree;
  device = no_failure (refuses_quietly (fault_here s.world refusal detail) result is);
  same = refl;
}

-- ---- answers of operations

pub carries_same : {A B : Type 0} {view : B → A} {d : Deed A} {s : State} {r r' : Result B Stop} → r' ≡ r → Carries view d s r s → Carries view d s r' s
carries_same {view = view} {d = d} {s = s} is p = subst (λ x. Carries view d s x s) (sym is) p

-- the same deed, written otherwise
pub carries_as : {A B : Type 0} {view : B → A} {d e : Deed A} {s s1 : State} {result : Result B Stop} → d ≡ e → Carries view d s result s1 → Carries view e s result s1
carries_as {view = view} {s = s} {s1 = s1} {result = result} is p = subst (λ x. Carries view x s result s1) is p

-- a deed that changes the facts, and does nothing else
carries_moved : {B : Type 0} {view : B → Unit {0}} {d : Deed (Unit {0})} (f : Facts → Facts) {w w1 : World} {names names1 : List (List ℕ)} {tree : TreeState} {out : OutputState} {lent : ℕ × ℕ × ℕ} {x : B}
    → ((files : Files) → perform files d w ≡ ran (Done tt) (world_after_change f w) []) → w1 ≡ world_after_change f w → names1 ≡ names
    → Carries view d (record { world = w; names = names; tree = tree; out = out; lent = lent }) (Ok x) (record { world = w1; names = names1; tree = tree; out = out; lent = lent })
carries_moved {view = view} {d = d} f {w = w} {names = names} {names1 = names1} {tree = tree} {out = out} {x = x} runs is same = record {
  gives = λ files n h. subst (λ v. Gives view (perform files d w) (Ok x) v (seen_from_parts out n names) (seen_from_parts out n names1)) (sym is)
      (subst (λ ns. Gives view (perform files d w) (Ok x) (world_after_change f w) (seen_from_parts out n names) (seen_from_parts out n ns)) (sym same)
      (subst (λ r. Gives view r (Ok x) (world_after_change f w) (seen_from_parts out n names) (seen_from_parts out n names)) (sym (runs files)) (record { is = refl; written = none_added (seen_from_parts out n names) })));
  stays = stays_here tree;
  device = record { tree = omega arith; out = omega arith; sum = refl };
  same = refl;
}

-- the facts change
pub carries_change : {B : Type 0} {view : B → Unit {0}} {f : Facts → Facts} {leaves : LeavesPaths f} {w w1 : World} {names names1 : List (List ℕ)} {tree : TreeState} {out : OutputState} {lent : ℕ × ℕ × ℕ} {x : B} → w1 ≡ world_after_change f w → names1 ≡ names
    → Carries view (change f leaves) (record { world = w; names = names; tree = tree; out = out; lent = lent }) (Ok x) (record { world = w1; names = names1; tree = tree; out = out; lent = lent })
carries_change {f = f} {leaves = leaves} is same = carries_moved {d = change f leaves} f (λ files. refl) is same

-- the project begins
pub carries_begun : {B : Type 0} {view : B → Unit {0}} {facts : FactsData} {w w1 : World} {names names1 : List (List ℕ)} {tree : TreeState} {out : OutputState} {lent : ℕ × ℕ × ℕ} {x : B} → w1 ≡ world_after_change (begun_facts facts) w → names1 ≡ names
    → Carries view (begin_project facts) (record { world = w; names = names; tree = tree; out = out; lent = lent }) (Ok x) (record { world = w1; names = names1; tree = tree; out = out; lent = lent })
carries_begun {facts = facts} is same = carries_moved {d = begin_project facts} (begun_facts facts) (λ files. refl) is same

-- the same, where names may be new
pub carries_grown : {B : Type 0} {view : B → Unit {0}} {f : Facts → Facts} {leaves : LeavesPaths f} {w w1 : World} {names names1 : List (List ℕ)} {tree : TreeState} {out : OutputState} {lent : ℕ × ℕ × ℕ} {x : B} → w1 ≡ world_after_change f w
    → IsFront names names1 → Carries view (change f leaves) (record { world = w; names = names; tree = tree; out = out; lent = lent }) (Ok x) (record { world = w1; names = names1; tree = tree; out = out; lent = lent })
carries_grown {view = view} {f = f} {leaves = leaves} {w = w} {w1 = w1} {names = names} {names1 = names1} {tree = tree} {out = out} {x = x} is front = record {
  gives = λ files n h. subst (λ v. Gives view (perform files (change f leaves) w) (Ok x) v (seen_from_parts out n names) (seen_from_parts out n names1)) (sym is)
      (record { is = refl; written = grown_added (seen_from_parts out n names) (seen_from_parts out n names1) refl refl front });
  stays = stays_here tree;
  device = record { tree = omega arith; out = omega arith; sum = refl };
  same = refl;
}

-- a question was asked
pub carries_asked : {B : Type 0} (question : Question) {w w1 : World} {names names1 : List (List ℕ)} {tree : TreeState} {out : OutputState} {lent : ℕ × ℕ × ℕ} {x : B} → w1 ≡ world_after_question w question → names1 ≡ names
    → Carries (λ (u : B). answer_to w.machine question.topic) (consult question) (record { world = w; names = names; tree = tree; out = out; lent = lent }) (Ok x)
    (record { world = w1; names = names1; tree = tree; out = out; lent = lent })
carries_asked {B = B} question {w = w} {w1 = w1} {names = names} {names1 = names1} {tree = tree} {out = out} {x = x} is same = record {
  gives = λ files n h. let view : B → Answer = λ u. answer_to w.machine question.topic in
      subst (λ v. Gives view (perform files (consult question) w) (Ok x) v (seen_from_parts out n names) (seen_from_parts out n names1)) (sym is)
      (subst (λ ns. Gives view (perform files (consult question) w) (Ok x) (world_after_question w question) (seen_from_parts out n names) (seen_from_parts out n ns)) (sym same) (record { is = refl; written = none_added (seen_from_parts out n names) }));
  stays = stays_here tree;
  device = record { tree = omega arith; out = omega arith; sum = refl };
  same = refl;
}

-- ---- needs

pub need_yes : {B : Type 0} {view : B → Unit {0}} (b : Bool) (refusal : Refusal) (detail : List ℕ) {s : State} {x : B} → b ≡ true → Carries view (need b refusal detail) s (Ok x) s
unfolding need
need_yes {view = view} b refusal detail {s = s} {x = x} is = subst (λ c. Carries view (need c refusal detail) s (Ok x) s) (sym is) (carries_give refl)

pub need_no : {B : Type 0} {view : B → Unit {0}} (b : Bool) (refusal : Refusal) (detail : List ℕ) {s : State} {result : Result B Stop} → b ≡ false
    → Refuses (fault_here s.world refusal detail) result → Carries view (need b refusal detail) s result s
unfolding need
need_no {view = view} b refusal detail {s = s} {result = result} is r = subst (λ c. Carries view (need c refusal detail) s result s) (sym is) (carries_refuse r)

-- ---- devices

-- a device failed before anything was told
pub carries_fail : {A B : Type 0} {view : B → A} {d : Deed A} {w w1 : World} {names names1 : List (List ℕ)} {tree tree1 : TreeState} {out : OutputState} {lent : ℕ × ℕ × ℕ} {result : Result B Stop}
    → Stays tree tree1 → tree1.failures ≡ tree.failures + 1 → names1 ≡ names → IsErrAnd result (λ e. e ≡ stops.Device)
    → Carries view d (record { world = w; names = names; tree = tree; out = out; lent = lent }) result (record { world = w1; names = names1; tree = tree1; out = out; lent = lent })
carries_fail {B = B} {view = view} {d = d} {w = w} {w1 = w1} {names = names} {names1 = names1} {tree = tree} {tree1 = tree1} {out = out} {result = result} stays once named is = record {
  gives = λ files n h. subst (λ ns. Gives view (perform files d w) result w1 (seen_from_parts out n names) (seen_from_parts out n ns)) (sym named)
      (failed_later view w1 (seen_from_parts out n names) result (begun (perform files d w) (seen_from_parts out n names)) is);
  stays = stays;
  device = record { tree = omega (arith, once); out = omega arith; sum = let m : ℕ = tree.failures + out.failures in let e : tree1.failures + out.failures ≡ m + 1 = omega (arith, once) in e ∙ sym (failures_after-as B m result stops.Device is) };
  same = refl;
}

-- all bytes were logged
pub carries_said : {B : Type 0} {view : B → Unit {0}} {bytes sent_bytes : List ℕ} {w : World} {names : List (List ℕ)} {tree : TreeState} {out out1 : OutputState} {lent : ℕ × ℕ × ℕ} {x : B}
    → sent_bytes ≡ bytes → Sends out out1 (logs sent_bytes) true → out1.failures ≡ out.failures
    → Carries view (say bytes) (record { world = w; names = names; tree = tree; out = out; lent = lent }) (Ok x) (record { world = w; names = names; tree = tree; out = out1; lent = lent })
unfolding say
carries_said {bytes = bytes} {w = w} {names = names} {tree = tree} {out = out} {out1 = out1} same sent none = record {
  gives = λ files n h. ends_told (seen_from_parts out n names) (seen_from_parts out1 n names) (logs bytes) w (subst (λ bs. Sends out out1 (logs bs) true) same sent) refl refl;
  stays = stays_here tree;
  device = record { tree = omega arith; out = omega (arith, none); sum = omega (arith, none) };
  same = refl;
}

-- a beginning of them
pub carries_unsaid : {B : Type 0} {view : B → Unit {0}} {bytes sent_bytes : List ℕ} {w : World} {names : List (List ℕ)} {tree : TreeState} {out out1 : OutputState} {lent : ℕ × ℕ × ℕ} {result : Result B Stop}
    → sent_bytes ≡ bytes → Sends out out1 (logs sent_bytes) false → out1.failures ≡ out.failures + 1 → IsErrAnd result (λ e. e ≡ stops.Device)
    → Carries view (say bytes) (record { world = w; names = names; tree = tree; out = out; lent = lent }) result (record { world = w; names = names; tree = tree; out = out1; lent = lent })
unfolding say
carries_unsaid {B = B} {view = view} {bytes = bytes} {w = w} {names = names} {tree = tree} {out = out} {out1 = out1} {result = result} same sent once is = record {
  gives = λ files n h. device_stops view (perform files (tell (logs bytes)) w) w (seen_from_parts out n names) (seen_from_parts out1 n names) result is (begins_logs (seen_from_parts out n names) (seen_from_parts out1 n names) bytes w (subst (λ bs. Sends out out1 (logs bs) false) same sent) refl refl);
  stays = stays_here tree;
  device = record { tree = omega arith; out = omega (arith, once); sum = let m : ℕ = tree.failures + out.failures in let e : tree.failures + out1.failures ≡ m + 1 = omega (arith, once) in e ∙ sym (failures_after-as B m result stops.Device is) };
  same = refl;
}

is_some-option_map : {A B : Type 0} (f : A → B) (o : Option A) → is_some (option_map f o) ≡ is_some o
is_some-option_map f None = refl
is_some-option_map f (Some x) = refl

-- the tree said how large a file is
pub carries_found : (path : List ℕ) {w w1 : World} {names names1 : List (List ℕ)} {tree tree1 : TreeState} {out : OutputState} {lent : ℕ × ℕ × ℕ} {size : Option ℕ} {found : Bool}
    → w1 ≡ world_after_look w path found → names1 ≡ names → (IsTrue tree.steady → size ≡ option_map length (file_at tree.files path)) → found ≡ is_some size → Stays tree tree1 → tree1.failures ≡ tree.failures
    → Carries (λ b. b) (there path) (record { world = w; names = names; tree = tree; out = out; lent = lent }) (Ok found) (record { world = w1; names = names1; tree = tree1; out = out; lent = lent })
unfolding there
carries_found path {w = w} {w1 = w1} {names = names} {names1 = names1} {tree = tree} {tree1 = tree1} {out = out} {size = size} {found = found} looked named is same stays none = record {
  gives = λ files n h.
      let e : found ≡ is_some (file_at files path) =
      same ∙ ap is_some (is h.steady) ∙ is_some-option_map length (file_at tree.files path) ∙ ap (λ fs. is_some (file_at fs path)) h.files in
      subst (λ v. Gives (λ (b : Bool). b) (perform files (there path) w) (Ok found) v (seen_from_parts out n names) (seen_from_parts out n names1)) (sym looked)
      (subst (λ ns. Gives (λ (b : Bool). b) (perform files (there path) w) (Ok found) (world_after_look w path found) (seen_from_parts out n names) (seen_from_parts out n ns)) (sym named)
      (subst (λ b. Ends (ran (Done (is_some (file_at files path))) (world_after_look w path (is_some (file_at files path))) []) (Done b) (world_after_look w path b) (seen_from_parts out n names) (seen_from_parts out n names)) (sym e)
      (record { is = refl; written = none_added (seen_from_parts out n names) })));
  stays = stays;
  device = record { tree = omega (arith, none); out = omega arith; sum = omega (arith, none) };
  same = refl;
}

-- ---- answers of operations, and the facts

pub carries_answered : {A B : Type 0} {view : B → A} (given : Result A OperationRefusal) (answer : Result B OperationRefusal) {s : State} {result : Result B Stop}
    → Views view given answer → IsAnswered s.world answer result → Carries view (answer_or_refusal given) s result s
unfolding answer_or_refusal
carries_answered {view = view} given (Ok x) {s = s} v is = carries_same is (subst (λ g. Carries view (answer_or_refusal g) s (Ok x) s) (sym v) (carries_give refl))
carries_answered {view = view} given (Err e) {s = s} {result = result} v is = subst (λ g. Carries view (answer_or_refusal g) s result s) (sym v) (carries_refuse is)

-- a value
pub carries_value : (given : Result Data OperationRefusal) (answer : Result Value OperationRefusal) {s : State} {result : Result Value Stop}
    → Answers given answer → IsAnswered s.world answer result → Carries data_of (answer_or_refusal given) s result s
carries_value given (Ok x) v is = carries_answered given (Ok x) v is
carries_value given (Err e) v is = carries_answered given (Err e) v is

-- a value, or the refusal that a rule is told of
pub carries_value_by : (rule : Rule) (text : List ℕ) (given : Result Data OperationRefusal) (answer : Result Value OperationRefusal) {s : State} {result : Result Value Stop}
    → Answers given answer → IsAnsweredBy s.world rule text answer result → Carries data_of (answered_by rule text given) s result s
unfolding answered_by
carries_value_by rule text given (Ok x) {s = s} v is = carries_same is (subst (λ g. Carries data_of (answered_by rule text g) s (Ok x) s) (sym v) (carries_give refl))
carries_value_by rule text given (Err e) {s = s} {result = result} v is = subst (λ g. Carries data_of (answered_by rule text g) s result s) (sym v) (carries_refuse is)

-- what a test of arguments answers
pub carries_fitting : {A B : Type 0} {view : B → A} (given : Result A Refusal) (answer : Result B Refusal) {s : State} {result : Result B Stop}
    → Views view given answer → IsFitting s.world answer result → Carries view (fitting_value given) s result s
unfolding fitting_value
carries_fitting {view = view} given (Ok x) {s = s} v is = carries_same is (subst (λ g. Carries view (fitting_value g) s (Ok x) s) (sym v) (carries_give refl))
carries_fitting {view = view} given (Err e) {s = s} {result = result} v is = subst (λ g. Carries view (fitting_value g) s result s) (sym v) (carries_refuse is)

-- the facts are read
pub carries_read : {B D : Type 0} {view' : D → B} {next : Facts → Deed B} {s0 s1 : State} {result : Result D Stop} → Carries view' (next s0.world.facts) s0 result s1 → Carries view' (then read next) s0 result s1
carries_read {next = next} {s0 = s0} p = record {
  gives = λ files n h. gives_later _ _ _ _ (done (perform files read s0.world) (λ a. perform files (next a)) s0.world.facts (record { is = refl; written = none_added (seen_at s0 n) })) (p.gives files n h);
  stays = p.stays;
  device = p.device;
  same = p.same;
}

pub ruleset answering = (room_later, carries_then, carries_stop, carries_none, carries_give, carries_refuse, carries_change, need_yes, need_no, carries_fail, carries_said, carries_unsaid, carries_found)

-- Acts one after another, against the answers of code.
use Rattle.std.proofs.Common.{◌≡◌, ℕ, ◌+◌, List, Result, Ok, Err, IsErrAnd, refl, sym, subst, ◌∙◌, arith}
use Rattle.code.specs.Draft.{IsFront}
use Rattle.build.specs.edge.Texts.{Path, Text}
use Rattle.ports.specs.Outputs.{OutputState}
use Rattle.ports.specs.Tree.{TreeState}
use Rattle.build.specs.project.Adding.{output_answer}
use Rattle.build.specs.project.Refused.{answer_data}
use Rattle.build.specs.declared.project.refusal.ProjectError.{ProjectError}
use Rattle.world.specs.Answering.{Acts, Carries, HasRoom, State, IsAllowed, seen_at}
use Rattle.world.specs.Deed.{Deed, Files, perform}
use Rattle.world.specs.Gives.{Gives}
use Rattle.world.specs.Making.{after_output, reserved_output, taken_by}
use Rattle.world.specs.Run.{Act, follow}
use Rattle.world.specs.Store.{world_after_change}
use Rattle.world.specs.Trace.{seen_from_parts}
use Rattle.world.specs.World.{World, facts_after_declaration}
use Rattle.world.specs.declared.stop.Stop.{Stop}
use Rattle.world.specs.declared.stop.Stop.TheVariants as stops
use Rattle.world.proofs.Answering.{carries_give, carries_refuse, carries_same, fails_stop, fails_then, memory_quietly}
use Rattle.world.proofs.Follow.{done, gives_later, stopped, wanted_grown}
use Rattle.world.proofs.Holding.{holds_later, stays_here, stays_on}
use Rattle.world.proofs.Marks.{same_front}

-- ---- deeds

-- a deed that needs no file
pub acts_of : {A B : Type 0} {view : B → A} {d : Deed A} {s s1 : State} {result : Result B Stop} → Carries view d s result s1 → Acts view (λ files. perform files d) s result s1
acts_of p = record { gives = p.gives; stays = p.stays; device = p.device; same = p.same }

-- ---- one call, and then the rest

pub acts_then : {A B C D : Type 0} {view : C → A} {view' : D → B} {act : Files → Act A} (next : Files → A → Act B) {s0 s1 s2 : State} {x : C} {result : Result D Stop}
    → Acts view act s0 (Ok x) s1 → Acts view' (λ files. next files (view x)) s1 result s2 → Acts view' (λ files w. follow (act files w) (next files)) s0 result s2
acts_then {view = view} {view' = view'} {act = act} next {s0 = s0} {s2 = s2} {x = x} {result = result} p q = record {
  gives = λ files n h. gives_later view' result s2.world (seen_at s2 n) (done (act files s0.world) (next files) (view x) (p.gives files n h)) (q.gives files n (holds_later p.stays h));
  stays = stays_on p.stays q.stays;
  device = fails_then p.device q.device;
  same = q.same ∙ p.same;
}

-- a call that stops
pub acts_stop : {A B C D : Type 0} {view : C → A} {view' : D → B} {act : Files → Act A} (next : Files → A → Act B) {s0 s1 : State} {s : Stop} {result : Result D Stop}
    → Acts view act s0 (Err s) s1 → IsErrAnd result (λ e. e ≡ s) → Acts view' (λ files w. follow (act files w) (next files)) s0 result s1
acts_stop {view = view} {view' = view'} {act = act} next {s0 = s0} {s1 = s1} {s = s} {result = result} p is = record {
  gives = λ files n h. stopped view view' (act files s0.world) (next files) s s1.world s1.world (seen_at s0 n) (seen_at s1 n) result is refl (p.gives files n h);
  stays = p.stays;
  device = fails_stop is p.device;
  same = p.same;
}

-- the same acts, written otherwise
pub acts_as : {A B : Type 0} {view : B → A} {a b : Files → Act A} {s s1 : State} {result : Result B Stop} → a ≡ b → Acts view a s result s1 → Acts view b s result s1
acts_as {view = view} {s = s} {s1 = s1} {result = result} is p = subst (λ f. Acts view f s result s1) is p

-- want of memory: the world may have changed, and names may be new; no device failed, and nothing was told
pub acts_wanted : {A B : Type 0} {view : B → A} {act : Files → Act A} {w w1 : World} {names names1 : List (List ℕ)} {tree : TreeState} {out : OutputState} {lent : ℕ × ℕ × ℕ} {result : Result B Stop}
    → IsErrAnd result (λ e. e ≡ stops.Memory) → IsFront names names1
    → Acts view act (record { world = w; names = names; tree = tree; out = out; lent = lent }) result (record { world = w1; names = names1; tree = tree; out = out; lent = lent })
acts_wanted {view = view} {act = act} {w = w} {w1 = w1} {names = names} {names1 = names1} {tree = tree} {out = out} {result = result} is front = record {
  gives = λ files n h. wanted_grown view (act files w) w1 (seen_from_parts out n names) (seen_from_parts out n names1) result is refl refl front;
  stays = stays_here tree;
  device = record { tree = omega arith; out = omega arith; sum = sym (memory_quietly result is (tree.failures + out.failures)) };
  same = refl;
}

-- the same, before anything was done
pub acts_none : {A B : Type 0} {view : B → A} {act : Files → Act A} {s : State} {result : Result B Stop} → IsErrAnd result (λ e. e ≡ stops.Memory) → Acts view act s result s
acts_none {s = s} is = acts_wanted is (same_front s.names)

-- a device that did not fail has the room that it had
pub room_after : {A B : Type 0} {view : B → A} {act : Files → Act A} {old new : State} {x : B} → HasRoom old → Acts view act old (Ok x) new → HasRoom new
room_after r p = record {
  tree = omega (arith, r.tree, r.out, p.device.tree, p.device.out, p.device.sum);
  out = omega (arith, r.tree, r.out, p.device.tree, p.device.out, p.device.sum);
}

-- ---- a path is taken

acts_answered : (answer : Result (Unit {0}) ProjectError) {s : State} {result : Result (Unit {0}) Stop} → IsAllowed s.world answer result → Acts (λ (u : Unit {0}). u) (λ files. taken_by (answer_data answer)) s result s
acts_answered (Ok u) is = acts_of (carries_same is (carries_give {view = λ (v : Unit {0}). v} {a = u} refl))
acts_answered (Err refused) is = acts_of (carries_refuse is)

-- the project answered, and took the path where it did not refuse it
pub acts_taken : (folder : Path) (name : Text) {w w1 : World} {names names1 : List (List ℕ)} {tree : TreeState} {out : OutputState} {lent : ℕ × ℕ × ℕ} (answer : Result (Unit {0}) ProjectError) {result : Result (Unit {0}) Stop}
    → answer_data answer ≡ output_answer w.facts.project folder name → w1 ≡ world_after_change (facts_after_declaration (after_output folder name)) w → names1 ≡ names → IsAllowed w1 answer result
    → Acts (λ (u : Unit {0}). u) (λ files. reserved_output folder name) (record { world = w; names = names; tree = tree; out = out; lent = lent }) result (record { world = w1; names = names1; tree = tree; out = out; lent = lent })
acts_taken folder name {w = w} {w1 = w1} {names = names} {names1 = names1} {tree = tree} {out = out} {lent = lent} answer {result = result} is changed named allows =
    let s : State = record { world = w1; names = names; tree = tree; out = out; lent = lent } in
    let p : Acts (λ (u : Unit {0}). u) (λ files. taken_by (answer_data answer)) s result s = acts_answered answer allows in
    record {
      gives = λ files n h.
          subst (λ a. Gives (λ (u : Unit {0}). u) (taken_by a (world_after_change (facts_after_declaration (after_output folder name)) w)) result w1 (seen_from_parts out n names) (seen_from_parts out n names1)) is
          (subst (λ v. Gives (λ (u : Unit {0}). u) (taken_by (answer_data answer) v) result w1 (seen_from_parts out n names) (seen_from_parts out n names1)) changed
          (subst (λ ns. Gives (λ (u : Unit {0}). u) (taken_by (answer_data answer) w1) result w1 (seen_from_parts out n names) (seen_from_parts out n ns)) (sym named) (p.gives files n h)));
      stays = stays_here tree;
      device = record { tree = p.device.tree; out = p.device.out; sum = p.device.sum };
      same = refl;
    }

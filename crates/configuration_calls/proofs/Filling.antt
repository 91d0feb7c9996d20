-- Acts that the files of the tree make, against code that reads a file as it writes.
use Rattle.std.proofs.Common.{◌≡◌, ℕ, ◌+◌, ◌≤◌, true, false, IsTrue, List, [], Option, Some, None, Result, Ok, Err, IsErrAnd, is_some}
use Rattle.std.proofs.Common.{option_map, unwrap_or, inl, inr, refl, sym, subst, ◌∙◌, arith}
use Rattle.build.specs.edge.Texts.{Path}
use Rattle.support.specs.Faults.{plain_fault}
use Rattle.support.specs.declared.faults.refusal.Refusal.{Refusal}
use Rattle.support.specs.declared.faults.refusal.Refusal.TheVariants as refusals
use Rattle.ports.specs.Outputs.{OutputState, Sends}
use Rattle.ports.specs.Tree.{Stays, TreeState, bytes_at, file_at}
use Rattle.template.specs.Config.{Entries}
use Rattle.template.specs.Line.{BadDefine, LongLine, Refusal as LineRefusal}
use Rattle.template.specs.Template.{Agrees, PassFailures, OneMore, ending_of, template_fault, template_steps}
use Rattle.template.specs.declared.stop.PassStop.{PassStop}
use Rattle.template.specs.declared.stop.PassStop.TheVariants as pass_stops
use Rattle.ports.specs.Endings.{is_whole}
use Rattle.support.specs.paths.Paths.{path_in}
use Rattle.world.specs.Answering.{Acts, Carries, Fails, State, seen_at}
use Rattle.world.specs.Deed.{Deed, Files, give, make, need, perform, read, required_file, then, there}
use Rattle.world.specs.Gives.{Gives, Continues, IsRefusal, failures_after}
use Rattle.world.specs.Making.{Filling, filled_output, given_up, reserved_output, sent_steps, written_output}
use Rattle.world.specs.Run.{Act, Done, Run, follow, pure, ran}
use Rattle.world.specs.Trace.{Seen, seen_from_parts}
use Rattle.world.specs.World.{Facts, World, world_after_look}
use Rattle.world.specs.declared.stop.Stop.{Stop}
use Rattle.world.specs.declared.stop.Stop.TheVariants as stops
use Rattle.world.proofs.Acting.{acts_of, acts_stop, acts_then}
use Rattle.world.proofs.Answering.{carries_give, carries_none, failures_after-as, fails_stop, fails_then}
use Rattle.world.proofs.Follow.{begins_in, device_stops, done, failures_after-refusal, gives_later, refused_as, stopped}
use Rattle.world.proofs.Holding.{holds_later, stays_here, stays_on}
use Rattle.world.proofs.Marks.{none_added}
use Rattle.world.proofs.Tells.{ends_told}
use Rattle.configuration_calls.specs.Written.{CarriesOf, StopsSo, fault_at, of_line, template_at, template_filling}
use Rattle.configuration_calls.proofs.Telling.{begins_part}

-- ---- one call, and then the rest

-- a deed that needs no file
pub of_fixed : {A B : Type 0} {view : B → A} {d : Deed A} {s s1 : State} {result : Result B Stop} → Carries view d s result s1 → CarriesOf view (λ files. d) s result s1
of_fixed p = record { gives = p.gives; stays = p.stays; device = p.device; same = p.same }

pub fixed_of : {A B : Type 0} {view : B → A} {d : Deed A} {s s1 : State} {result : Result B Stop} → CarriesOf view (λ files. d) s result s1 → Carries view d s result s1
fixed_of p = record { gives = p.gives; stays = p.stays; device = p.device; same = p.same }

pub of_then : {A B C D : Type 0} {view : C → A} {view' : D → B} {d : Files → Deed A} {next : Files → A → Deed B} {s0 s1 s2 : State} {x : C} {result : Result D Stop}
    → CarriesOf view d s0 (Ok x) s1 → CarriesOf view' (λ files. next files (view x)) s1 result s2 → CarriesOf view' (λ files. then (d files) (next files)) s0 result s2
of_then {view = view} {view' = view'} {d = d} {next = next} {s0 = s0} {s2 = s2} {x = x} {result = result} p q = record {
  gives = λ files n h.
      gives_later view' result s2.world (seen_at s2 n) (done (perform files (d files) s0.world) (λ a. perform files (next files a)) (view x) (p.gives files n h)) (q.gives files n (holds_later p.stays h));
  stays = stays_on p.stays q.stays;
  device = fails_then p.device q.device;
  same = q.same ∙ p.same;
}

-- a call that stops
pub of_stop : {A B C D : Type 0} {view : C → A} {view' : D → B} {d : Files → Deed A} {next : Files → A → Deed B} {s0 s1 : State} {s : Stop} {result : Result D Stop}
    → CarriesOf view d s0 (Err s) s1 → IsErrAnd result (λ e. e ≡ s) → CarriesOf view' (λ files. then (d files) (next files)) s0 result s1
of_stop {view = view} {view' = view'} {d = d} {next = next} {s0 = s0} {s1 = s1} {s = s} {result = result} p is = record {
  gives = λ files n h.
      stopped view view' (perform files (d files) s0.world) (λ a. perform files (next files a)) s s1.world s1.world (seen_at s0 n) (seen_at s1 n) result is refl (p.gives files n h);
  stays = p.stays;
  device = fails_stop is p.device;
  same = p.same;
}

-- want of memory before anything was done
pub of_none : {A B : Type 0} {view : B → A} {d : Files → Deed A} {s : State} {result : Result B Stop} → IsErrAnd result (λ e. e ≡ stops.Memory) → CarriesOf view d s result s
of_none {view = view} {d = d} {s = s} is = record {
  gives = λ files n h. (carries_none {view = view} {d = d files} {s = s} is).gives files n h;
  stays = stays_here s.tree;
  device = (carries_none {view = view} {d = d []} {s = s} is).device;
  same = refl;
}

-- the facts are read
pub of_read : {B D : Type 0} {view' : D → B} {next : Files → Facts → Deed B} {s0 s1 : State} {result : Result D Stop}
    → CarriesOf view' (λ files. next files s0.world.facts) s0 result s1 → CarriesOf view' (λ files. then read (next files)) s0 result s1
of_read {next = next} {s0 = s0} p = record {
  gives = λ files n h. gives_later _ _ _ _ (done (perform files read s0.world) (λ a. perform files (next files a)) s0.world.facts (record { is = refl; written = none_added (seen_at s0 n) })) (p.gives files n h);
  stays = p.stays;
  device = p.device;
  same = p.same;
}

-- ---- an output that is made

-- what follows its path, and what follows its readiness
abbrev ready_then : {A : Type 0} → Path → Deed A → (Files → Filling) → Files → Unit {0} → Act A
ready_then path ready filling files _ v = follow (perform files ready v) (λ a u. follow (written_output path (filling files) u) (λ _. pure a))

abbrev written_then : {A : Type 0} → Path → (Files → Filling) → Files → A → Act A
written_then path filling files a u = follow (written_output path (filling files) u) (λ _. pure a)

-- its path was refused
pub of_untaken : {A C : Type 0} {view : C → A} {folder name : List ℕ} {ready : Deed A} {filling : Files → Filling} {s0 s1 : State} {s : Stop} {result : Result C Stop}
    → Acts (λ (u : Unit {0}). u) (λ files. reserved_output folder name) s0 (Err s) s1 → IsErrAnd result (λ e. e ≡ s) → CarriesOf view (λ files. make folder name ready (filling files)) s0 result s1
of_untaken {view = view} {folder = folder} {name = name} {ready = ready} {filling = filling} p is =
    let all = acts_stop {view' = view} (ready_then (path_in folder name) ready filling) p is in record { gives = all.gives; stays = all.stays; device = all.device; same = all.same }

-- it was not made ready
pub of_unready : {A B C : Type 0} {view : B → A} {view' : C → A} {folder name : List ℕ} {ready : Deed A} {filling : Files → Filling} {s0 s1 s2 : State} {s : Stop} {result : Result C Stop}
    → Acts (λ (u : Unit {0}). u) (λ files. reserved_output folder name) s0 (Ok tt) s1 → Carries view ready s1 (Err s) s2 → IsErrAnd result (λ e. e ≡ s)
    → CarriesOf view' (λ files. make folder name ready (filling files)) s0 result s2
of_unready {view' = view'} {folder = folder} {name = name} {ready = ready} {filling = filling} p q is =
    let path = path_in folder name in
    let all = acts_then (ready_then path ready filling) p (acts_stop {view' = view'} (written_then path filling) (acts_of q) is) in
    record { gives = all.gives; stays = all.stays; device = all.device; same = all.same }

-- it was not written
pub of_unwritten : {A B C : Type 0} {view : B → A} {view' : C → A} {folder name : List ℕ} {ready : Deed A} {filling : Files → Filling} {s0 s1 s2 s3 : State} {x : B} {s : Stop} {result : Result C Stop}
    → Acts (λ (u : Unit {0}). u) (λ files. reserved_output folder name) s0 (Ok tt) s1 → Carries view ready s1 (Ok x) s2
    → Acts (λ (u : Unit {0}). u) (λ files. written_output (path_in folder name) (filling files)) s2 (Err s) s3 → IsErrAnd result (λ e. e ≡ s)
    → CarriesOf view' (λ files. make folder name ready (filling files)) s0 result s3
of_unwritten {view = view} {view' = view'} {folder = folder} {name = name} {ready = ready} {filling = filling} {x = x} p q r is =
    let path = path_in folder name in
    let all = acts_then (ready_then path ready filling) p (acts_then (written_then path filling) (acts_of q) (acts_stop {view' = view'} (λ files _. pure (view x)) r is)) in
    record { gives = all.gives; stays = all.stays; device = all.device; same = all.same }

-- it was made
pub of_made : {A B : Type 0} {view : B → A} {folder name : List ℕ} {ready : Deed A} {filling : Files → Filling} {s0 s1 s2 s3 : State} {x : B}
    → Acts (λ (u : Unit {0}). u) (λ files. reserved_output folder name) s0 (Ok tt) s1 → Carries view ready s1 (Ok x) s2
    → Acts (λ (u : Unit {0}). u) (λ files. written_output (path_in folder name) (filling files)) s2 (Ok tt) s3
    → CarriesOf view (λ files. make folder name ready (filling files)) s0 (Ok x) s3
of_made {view = view} {folder = folder} {name = name} {ready = ready} {filling = filling} {x = x} p q r =
    let path = path_in folder name in
    let all = acts_then (ready_then path ready filling) p (acts_then (written_then path filling) (acts_of q) (acts_then (λ files _. pure (view x)) r (acts_of (carries_give {view = view} {a = view x} refl)))) in
    record { gives = all.gives; stays = all.stays; device = all.device; same = all.same }

-- ---- a file that is asked for, and whose bytes are read later

-- the run of what its bytes make is that of what is done once it is found
asked_by : {A : Type 0} (files : Files) (path : Path) (k : List ℕ → Deed A) (o : Option (List ℕ)) (w : World)
    → follow (follow (ran (Done o) w []) (λ bytes. perform files (then (need (is_some bytes) refusals.FileMissing path) (λ (u : Unit {0}). give (unwrap_or bytes []))))) (λ bytes. perform files (k bytes))
    ≡ follow (follow (follow (ran (Done o) w []) (λ bytes. perform files (give (is_some bytes)))) (λ found. perform files (need found refusals.FileMissing path))) (λ (u : Unit {0}). perform files (k (unwrap_or o [])))
unfolding need
asked_by files path k None w = refl
asked_by files path k (Some bytes) w = refl

asked_run : {A : Type 0} (files : Files) (path : Path) (k : List ℕ → Deed A) (w : World)
    → perform files (then (template_at path) k) w ≡ follow (perform files (required_file path) w) (λ (u : Unit {0}). perform files (k (bytes_at files path)))
unfolding template_at required_file there
asked_run files path k w = asked_by files path k (file_at files path) (world_after_look w path (is_some (file_at files path)))

pub of_asked : {B D : Type 0} {view : D → B} (path : Path) (k : List ℕ → Deed B) {s0 s1 s2 : State} {result : Result D Stop}
    → Carries (λ (u : Unit {0}). u) (required_file path) s0 (Ok tt) s1 → CarriesOf view (λ files. k (bytes_at files path)) s1 result s2 → Carries view (then (template_at path) k) s0 result s2
of_asked {view = view} path k {s0 = s0} {s1 = s1} {s2 = s2} {result = result} p q = record {
  gives = λ files n h.
      let next : Run _ = perform files (k (bytes_at files path)) s1.world in
      gives_later view result s2.world (seen_at s2 n)
      (subst (λ r. Continues r next (seen_at s0 n) (seen_at s1 n)) (sym (asked_run files path k s0.world)) (done (perform files (required_file path) s0.world) (λ (u : Unit {0}). perform files (k (bytes_at files path))) tt (p.gives files n h)))
      (q.gives files n (holds_later p.stays h));
  stays = stays_on p.stays q.stays;
  device = fails_then p.device q.device;
  same = q.same ∙ p.same;
}

pub of_unasked : {B D : Type 0} {view : D → B} (path : Path) (k : List ℕ → Deed B) {s0 s1 : State} {s : Stop} {result : Result D Stop}
    → Carries (λ (u : Unit {0}). u) (required_file path) s0 (Err s) s1 → IsErrAnd result (λ e. e ≡ s) → Carries view (then (template_at path) k) s0 result s1
of_unasked {view = view} path k {s0 = s0} {s1 = s1} {s = s} {result = result} p is = record {
  gives = λ files n h.
      subst (λ r. Gives view r result s1.world (seen_at s0 n) (seen_at s1 n)) (sym (asked_run files path k s0.world))
      (stopped (λ (u : Unit {0}). u) view (perform files (required_file path) s0.world) (λ (u : Unit {0}). perform files (k (bytes_at files path))) s s1.world s1.world (seen_at s0 n) (seen_at s1 n) result is refl (p.gives files n h));
  stays = p.stays;
  device = fails_stop is p.device;
  same = p.same;
}

-- ---- a template that is written

-- a line of it is refused
line_refused : (path : Path) (line : ℕ) (refusal : Refusal) (s : Stop) (w : World) (old : Seen) → IsRefusal s (plain_fault path line refusal)
    → Gives (λ (u : Unit {0}). u) (given_up (Some (plain_fault path line refusal)) w) (Err s) w old old
line_refused path line refusal s w old is =
    refused_as (λ (u : Unit {0}). u) (given_up (Some (plain_fault path line refusal)) w) (plain_fault path line refusal) s w w old refl is refl

-- what is left of it once its lines are told
rest_given : (entries : Entries) (path : Path) (bytes : List ℕ) (found : Option (ℕ × LineRefusal)) (w : World) (old new : Seen) (result : Result (Unit {0}) Stop)
    → Sends old.out new.out (template_steps entries path bytes) true → new.ticks ≡ old.ticks → new.names ≡ old.names → template_fault bytes ≡ found
    → Gives (λ (u : Unit {0}). u) (given_up (option_map (fault_at path) found) w) result w new new → Gives (λ (u : Unit {0}). u) (filled_output (template_filling entries path bytes) w) result w old new
unfolding template_filling
rest_given entries path bytes found w old new result sent ticks names is rest =
    gives_later (λ (u : Unit {0}). u) result w new
    (done (sent_steps (template_steps entries path bytes) w) (λ (u : Unit {0}). given_up (option_map (fault_at path) (template_fault bytes))) tt (ends_told old new (template_steps entries path bytes) w sent ticks names))
    (subst (λ f. Gives (λ (u : Unit {0}). u) (given_up (option_map (fault_at path) f) w) result w new new) (sym is) rest)

rest_begun : (entries : Entries) (path : Path) (bytes : List ℕ) (w : World) (old new : Seen) (result : Result (Unit {0}) Stop) → IsErrAnd result (λ e. e ≡ stops.Device)
    → Sends old.out new.out (template_steps entries path bytes) false → new.ticks ≡ old.ticks → new.names ≡ old.names
    → Gives (λ (u : Unit {0}). u) (filled_output (template_filling entries path bytes) w) result w old new
unfolding template_filling
rest_begun entries path bytes w old new result is sent ticks names =
    device_stops (λ (u : Unit {0}). u) (filled_output (template_filling entries path bytes) w) w old new result is
    (begins_in (sent_steps (template_steps entries path bytes) w) (λ (u : Unit {0}). given_up (option_map (fault_at path) (template_fault bytes))) (begins_part old new (template_steps entries path bytes) w sent ticks names))

none_failed : {B : Type 0} {old new : State} (result : Result B Stop) → ((n : ℕ) → failures_after n result ≡ n) → (new.tree.failures ≡ old.tree.failures) × (new.out.failures ≡ old.out.failures) → Fails old result new
none_failed {old = old} {new = new} result quiet none = record {
  tree = omega (arith, none.0);
  out = omega (arith, none.1);
  sum = let m : ℕ = old.tree.failures + old.out.failures in let e : new.tree.failures + new.out.failures ≡ m = omega (arith, none.0, none.1) in e ∙ sym (quiet m);
}

one_failed : (a b c d : ℕ) → OneMore a b c d → (a ≤ b) × (c ≤ d) × (b + d ≡ (a + c) + 1)
one_failed a b c d (inl h) = (omega (arith, h.0), omega (arith, h.1), omega (arith, h.0, h.1))
one_failed a b c d (inr h) = (omega (arith, h.0), omega (arith, h.1), omega (arith, h.0, h.1))

-- the template was written
pub written_whole : (entries : Entries) (path : Path) {w : World} {names : List (List ℕ)} {tree tree1 : TreeState} {out out1 : OutputState} {lent : ℕ × ℕ × ℕ}
    → (IsTrue tree.steady → Sends out out1 (template_steps entries path (bytes_at tree.files path)) true) → (IsTrue tree.steady → template_fault (bytes_at tree.files path) ≡ None)
    → Stays tree tree1 → (tree1.failures ≡ tree.failures) × (out1.failures ≡ out.failures)
    → Acts (λ (u : Unit {0}). u) (λ files. filled_output (template_filling entries path (bytes_at files path)))
    (record { world = w; names = names; tree = tree; out = out; lent = lent }) (Ok tt) (record { world = w; names = names; tree = tree1; out = out1; lent = lent })
written_whole entries path {w = w} {names = names} {tree = tree} {out = out} {out1 = out1} sent none stays failed = record {
  gives = λ files n h.
      let old : Seen = seen_from_parts out n names in
      let new : Seen = seen_from_parts out1 n names in
      rest_given entries path (bytes_at files path) None w old new (Ok tt) (subst (λ fs. Sends out out1 (template_steps entries path (bytes_at fs path)) true) h.files (sent h.steady)) refl refl
      (subst (λ fs. template_fault (bytes_at fs path) ≡ None) h.files (none h.steady)) (record { is = refl; written = none_added new });
  stays = stays;
  device = none_failed (Ok tt) (λ n. refl) failed;
  same = refl;
}

-- a line of it was refused
written_refused : (entries : Entries) (path : Path) (line : ℕ) (r : LineRefusal) (s : Stop) {w : World} {names : List (List ℕ)} {tree tree1 : TreeState} {out out1 : OutputState} {lent : ℕ × ℕ × ℕ}
    → IsRefusal s (plain_fault path line (of_line r))
    → (IsTrue tree.steady → Sends out out1 (template_steps entries path (bytes_at tree.files path)) true) → (IsTrue tree.steady → template_fault (bytes_at tree.files path) ≡ Some (line, r))
    → Stays tree tree1 → (tree1.failures ≡ tree.failures) × (out1.failures ≡ out.failures)
    → Acts (λ (u : Unit {0}). u) (λ files. filled_output (template_filling entries path (bytes_at files path)))
    (record { world = w; names = names; tree = tree; out = out; lent = lent }) (Err s) (record { world = w; names = names; tree = tree1; out = out1; lent = lent })
written_refused entries path line r s {w = w} {names = names} {tree = tree} {out = out} {out1 = out1} is sent found stays failed = record {
  gives = λ files n h.
      let old : Seen = seen_from_parts out n names in
      let new : Seen = seen_from_parts out1 n names in
      rest_given entries path (bytes_at files path) (Some (line, r)) w old new (Err s) (subst (λ fs. Sends out out1 (template_steps entries path (bytes_at fs path)) true) h.files (sent h.steady)) refl refl
      (subst (λ fs. template_fault (bytes_at fs path) ≡ Some (line, r)) h.files (found h.steady)) (line_refused path line (of_line r) s w new is);
  stays = stays;
  device = none_failed (Err s) (λ n. failures_after-refusal (Unit {0}) n s (plain_fault path line (of_line r)) is) failed;
  same = refl;
}

-- a device failed
written_failed : (entries : Entries) (path : Path) (s : Stop) {w : World} {names : List (List ℕ)} {tree tree1 : TreeState} {out out1 : OutputState} {lent : ℕ × ℕ × ℕ}
    → s ≡ stops.Device → (IsTrue tree.steady → Sends out out1 (template_steps entries path (bytes_at tree.files path)) false)
    → Stays tree tree1 → OneMore tree.failures tree1.failures out.failures out1.failures
    → Acts (λ (u : Unit {0}). u) (λ files. filled_output (template_filling entries path (bytes_at files path)))
    (record { world = w; names = names; tree = tree; out = out; lent = lent }) (Err s) (record { world = w; names = names; tree = tree1; out = out1; lent = lent })
written_failed entries path s {w = w} {names = names} {tree = tree} {tree1 = tree1} {out = out} {out1 = out1} is sent stays failed = record {
  gives = λ files n h.
      rest_begun entries path (bytes_at files path) w (seen_from_parts out n names) (seen_from_parts out1 n names) (Err s) is
      (subst (λ fs. Sends out out1 (template_steps entries path (bytes_at fs path)) false) h.files (sent h.steady)) refl refl;
  stays = stays;
  device =
      let one = one_failed tree.failures tree1.failures out.failures out1.failures failed in
      record { tree = one.0; out = one.1; sum = one.2 ∙ sym (failures_after-as {B = Unit {0}} (Unit {0}) (tree.failures + out.failures) (Err s) stops.Device is) };
  same = refl;
}

-- it was given up
pub written_short : (entries : Entries) (path : Path) (stop : PassStop) (s : Stop) {w : World} {names : List (List ℕ)} {tree tree1 : TreeState} {out out1 : OutputState} {lent : ℕ × ℕ × ℕ}
    → StopsSo path stop s → (IsTrue tree.steady → Sends out out1 (template_steps entries path (bytes_at tree.files path)) (is_whole (ending_of {T = Unit {0}} (Err stop))))
    → (IsTrue tree.steady → Agrees {T = Unit {0}} (Err stop) (template_fault (bytes_at tree.files path)))
    → Stays tree tree1 → PassFailures {T = Unit {0}} tree.failures tree1.failures out.failures out1.failures (Err stop)
    → Acts (λ (u : Unit {0}). u) (λ files. filled_output (template_filling entries path (bytes_at files path)))
    (record { world = w; names = names; tree = tree; out = out; lent = lent }) (Err s) (record { world = w; names = names; tree = tree1; out = out1; lent = lent })
written_short entries path (pass_stops.Template line) s is sent found stays failed = written_refused entries path line BadDefine s is sent found stays failed
written_short entries path (pass_stops.Limit line) s is sent found stays failed = written_refused entries path line LongLine s is sent found stays failed
written_short entries path pass_stops.Device s is sent found stays failed = written_failed entries path s is sent stays failed

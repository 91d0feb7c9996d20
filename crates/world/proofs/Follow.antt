-- Runs one after another, and what calls say of them.
use Rattle.std.proofs.Common.{◌≡◌, ℕ, ◌+◌, List, [], ◌∷◌, ◌++◌, Result, Ok, Err, IsErrAnd, refl, sym, subst, ap, ◌∙◌, append_assoc, arith}
use Rattle.code.specs.Draft.{IsFront}
use Rattle.support.specs.Faults.{FaultData}
use Rattle.world.specs.Trace.{Mark, Ended, Seen, seen_from_parts, Adds, Begins}
use Rattle.world.specs.World.{Asked, World}
use Rattle.world.specs.Run.{Outcome, Run, ran, Act, Done, Faulted, with_end, after, follow, pure, fails, marks_of, outcome_of, world_after}
use Rattle.world.specs.Gives.{Gives, is_ended, failures_after, Continues, Ends, Faults, IsRefusal}
use Rattle.world.proofs.Marks.{none_added, more_added, same_added, end_added, grown_added}
use Rattle.world.specs.declared.stop.Stop.{Stop}
use Rattle.world.specs.declared.stop.Stop.TheVariants as stops

pub marks_of-after : {A : Type 0} (ms : List Mark) (r : Run A) → marks_of (after ms r) ≡ ms ++ marks_of r
marks_of-after ms (ran o w ns) = refl

outcome_of-after : {A : Type 0} (ms : List Mark) (r : Run A) → outcome_of (after ms r) ≡ outcome_of r
outcome_of-after ms (ran o w ns) = refl

asked-after : {A : Type 0} (ms : List Mark) (r : Run A) → (world_after (after ms r)).asked ≡ (world_after r).asked
asked-after ms (ran o w ns) = refl

after-after : {A : Type 0} (ms ns : List Mark) (r : Run A) → after ms (after ns r) ≡ after (ms ++ ns) r
after-after ms ns (ran o w os) = ap (ran o w) (sym (append_assoc ms ns os))

pub after-nil : {A : Type 0} (r : Run A) → after [] r ≡ r
after-nil (ran o w ms) = refl

-- nothing has happened yet
pub begun : {A : Type 0} (r : Run A) (old : Seen) → Continues r r old old
begun r old = record { made = []; is = sym (after-nil r); written = none_added old }

-- the first part is done
pub done : {A B : Type 0} (r : Run A) (next : A → Act B) (x : A) {w : World} {old new : Seen} → Ends r (Done x) w old new → Continues (follow r next) (next x w) old new
done r next x e = record { made = marks_of r; is = ap (λ s. follow s next) e.is; written = e.written }

-- more is done
pub further : {A : Type 0} {a b c : Run A} {old mid new : Seen} → Continues a b old mid → Continues b c mid new → Continues a c old new
further {c = c} p q = record {
  made = p.made ++ q.made;
  is = p.is ∙ ap (after p.made) q.is ∙ after-after p.made q.made c;
  written = more_added p.made q.made p.written q.written;
}

begins_later : {A : Type 0} {whole rest : Run A} {old mid new : Seen} → Continues whole rest old mid → Begins (marks_of rest) mid new → Begins (marks_of whole) old new
begins_later {rest = rest} p b = record {
  made = p.made ++ b.made;
  left = b.left;
  all = ap marks_of p.is ∙ marks_of-after p.made rest ∙ ap (λ l. p.made ++ l) b.all ∙ sym (append_assoc p.made b.made b.left);
  written = more_added p.made b.made p.written b.written;
}

added_later : {A : Type 0} {whole rest : Run A} {old mid new : Seen} → Continues whole rest old mid → Adds mid (marks_of rest) new → Adds old (marks_of whole) new
added_later {rest = rest} p e = same_added (sym (ap marks_of p.is ∙ marks_of-after p.made rest)) (more_added p.made (marks_of rest) p.written e)

ends_later : {A : Type 0} {whole rest : Run A} {o : Outcome A} {w : World} {old mid new : Seen} → Continues whole rest old mid → Ends rest o w mid new → Ends whole o w old new
ends_later {rest = rest} {o = o} {w = w} p e = record {
  is = p.is ∙ ap (after p.made) e.is ∙ ap (ran o w) (sym (ap marks_of p.is ∙ marks_of-after p.made rest));
  written = added_later p e.written;
}

-- what the rest gives, the whole gives
pub gives_later : {A B : Type 0} (view : B → A) {whole rest : Run A} (result : Result B Stop) (w : World) {old mid : Seen} (new : Seen) → Continues whole rest old mid → Gives view rest result w mid new → Gives view whole result w old new
gives_later view (Ok x) w new p e = ends_later p e
gives_later view {rest = rest} (Err (stops.Refused fault)) w new p e = record {
  is = ap outcome_of p.is ∙ outcome_of-after p.made rest ∙ e.is;
  asks = e.asks ∙ sym (ap (λ r. (world_after r).asked) p.is ∙ asked-after p.made rest);
  written = added_later p e.written;
}
gives_later view (Err stops.Device) w new p e = begins_later p e
gives_later view (Err stops.Memory) w new p e = begins_later p e

pub begins_in : {A B : Type 0} (r : Run A) (next : A → Act B) {old new : Seen} → Begins (marks_of r) old new → Begins (marks_of (follow r next)) old new
begins_in (ran (Done x) w ms) next b = record {
  made = b.made;
  left = b.left ++ marks_of (next x w);
  all = marks_of-after ms (next x w) ∙ ap (λ l. l ++ marks_of (next x w)) b.all ∙ append_assoc b.made b.left (marks_of (next x w));
  written = b.written;
}
begins_in (ran (Faulted f) w ms) next b = b

faults_in : {A B : Type 0} (r : Run A) (next : A → Act B) {f : FaultData} {asked : List Asked} {old new : Seen} → Faults r (Faulted f) asked old new → Faults (follow r next) (Faulted f) asked old new
faults_in (ran (Done x) w ms) next e = absurd (let d : Done x ≡ Faulted _ = e.is in cc)
faults_in (ran (Faulted f) w ms) next e = record { is = let d : Faulted f ≡ Faulted _ = e.is in cc; asks = e.asks; written = e.written }

-- a part that stops, stops the whole
stops_whole : {A B C D : Type 0} (view : C → A) (view' : D → B) (r : Run A) (next : A → Act B) (s : Stop) (w w' : World) (old new : Seen) → w'.asked ≡ w.asked → Gives view r (Err s) w old new → Gives view' (follow r next) (Err s) w' old new
stops_whole view view' r next (stops.Refused fault) w w' old new same g =
    let e = faults_in r next g in record { is = e.is; asks = same ∙ e.asks; written = e.written }
stops_whole view view' r next stops.Device w w' old new same g = begins_in r next g
stops_whole view view' r next stops.Memory w w' old new same g = begins_in r next g

-- the same, for what `?` hands on
pub stopped : {A B C D : Type 0} (view : C → A) (view' : D → B) (r : Run A) (next : A → Act B) (s : Stop) (w w' : World) (old new : Seen) (result : Result D Stop)
    → IsErrAnd result (λ e. e ≡ s) → w'.asked ≡ w.asked → Gives view r (Err s) w old new → Gives view' (follow r next) result w' old new
stopped view view' r next s w w' old new (Ok x) is same g = absurd is
stopped view view' r next s w w' old new (Err e) is same g = subst (λ d. Gives view' (follow r next) (Err d) w' old new) (sym is) (stops_whole view view' r next s w w' old new same g)

-- the rest stops, after what is done
pub stopped_later : {A B C D : Type 0} (view : C → A) (view' : D → B) {whole : Run B} (r : Run A) (next : A → Act B) (s : Stop) (w w' : World) {old mid : Seen} (new : Seen) (result : Result D Stop)
    → Continues whole (follow r next) old mid → IsErrAnd result (λ e. e ≡ s) → w'.asked ≡ w.asked → Gives view r (Err s) w mid new → Gives view' whole result w' old new
stopped_later view view' r next s w w' new result p is same g = gives_later view' result w' new p (stopped view view' r next s w w' _ new result is same g)

-- want of memory may stop a run anywhere
pub wants : {A : Type 0} (r : Run A) (old : Seen) → Begins (marks_of r) old old
wants r old = record { made = []; left = marks_of r; all = refl; written = none_added old }

-- want of memory stops the rest
pub wanted_later : {A B : Type 0} (view : B → A) {whole rest : Run A} (w : World) {old : Seen} (mid : Seen) (result : Result B Stop)
    → Continues whole rest old mid → IsErrAnd result (λ e. e ≡ stops.Memory) → Gives view whole result w old mid
wanted_later view w mid (Ok x) p is = absurd is
wanted_later view {whole = whole} {rest = rest} w {old = old} mid (Err e) p is =
    subst (λ d. Gives view whole (Err d) w old mid) (sym is) (begins_later p (wants rest mid))

-- a device fails before the rest leaves a mark
pub failed_later : {A B : Type 0} (view : B → A) {whole rest : Run A} (w : World) {old : Seen} (mid : Seen) (result : Result B Stop)
    → Continues whole rest old mid → IsErrAnd result (λ e. e ≡ stops.Device) → Gives view whole result w old mid
failed_later view w mid (Ok x) p is = absurd is
failed_later view {whole = whole} {rest = rest} w {old = old} mid (Err e) p is =
    subst (λ d. Gives view whole (Err d) w old mid) (sym is) (begins_later p (wants rest mid))

-- the rest is refused
pub refused_later : {A B : Type 0} (view : B → A) {whole : Run A} (f : FaultData) (s : Stop) (w w' : World) {old : Seen} (mid : Seen)
    → Continues whole (fails f w) old mid → IsRefusal s f → w'.asked ≡ w.asked → Gives view whole (Err s) w' old mid
refused_later view f (stops.Refused fault) w w' mid p is same =
    gives_later view (Err (stops.Refused fault)) w' mid p (record { is = ap Faulted (sym is); asks = same; written = none_added mid })
refused_later view f stops.Device w w' mid p is same = absurd is
refused_later {A = A} view f stops.Memory w w' mid p is same = let r : Run A = fails f w in begins_later p (wants r mid)

-- a refusal is no device's
pub failures_after-refusal : (B : Type 0) (n : ℕ) (s : Stop) (f : FaultData) → IsRefusal s f → failures_after {B = B} n (Err s) ≡ n
failures_after-refusal B n (stops.Refused fault) f is = refl
failures_after-refusal B n stops.Device f is = absurd is
failures_after-refusal B n stops.Memory f is = refl

-- the rest ends here
pub ended_later : {A B : Type 0} (view : B → A) {whole : Run A} (x : B) (d : A) (w : World) {old : Seen} (mid : Seen)
    → view x ≡ d → Continues whole (pure d w) old mid → Gives view whole (Ok x) w old mid
ended_later view x d w mid is p = ends_later p (record { is = ap (λ y. ran (Done y) w []) (sym is); written = none_added mid })

marks_of-with_end : {A : Type 0} (r : Run A) → marks_of (with_end r) ≡ marks_of r ++ Ended ∷ []
marks_of-with_end (ran o w ms) = refl

outcome_of-with_end : {A : Type 0} (r : Run A) → outcome_of (with_end r) ≡ outcome_of r
outcome_of-with_end (ran o w ms) = refl

asked-with_end : {A : Type 0} (r : Run A) → (world_after (with_end r)).asked ≡ (world_after r).asked
asked-with_end (ran o w ms) = refl

one_more : {A : Type 0} (r : Run A) (old mid : Seen) → Adds old (marks_of r) mid → Adds old (marks_of (with_end r)) (seen_from_parts mid.out (mid.ticks + 1) mid.names)
one_more r old mid e = same_added (sym (marks_of-with_end r)) (more_added (marks_of r) (Ended ∷ []) e (end_added mid))

begins_before : {A : Type 0} (r : Run A) (old mid : Seen) → Begins (marks_of r) old mid → Begins (marks_of (with_end r)) old (seen_from_parts mid.out (mid.ticks + 0) mid.names)
begins_before r old mid b = record {
  made = b.made;
  left = b.left ++ Ended ∷ [];
  all = marks_of-with_end r ∙ ap (λ l. l ++ Ended ∷ []) b.all ∙ append_assoc b.made b.left (Ended ∷ []);
  written = record { sent = b.written.sent; ticks = omega (arith, b.written.ticks); names = b.written.names };
}

-- a rule gives what stands inside, and a tick where that has ended
pub gives_rule : {A B : Type 0} (view : B → A) (r : Run A) (result : Result B Stop) (w : World) (old mid : Seen) → Gives view r result w old mid → Gives view (with_end r) result w old (seen_from_parts mid.out (mid.ticks + is_ended result) mid.names)
gives_rule view r (Ok x) w old mid e = record { is = ap with_end e.is ∙ ap (ran (Done (view x)) w) (sym (marks_of-with_end r)); written = one_more r old mid e.written }
gives_rule view r (Err (stops.Refused fault)) w old mid e = record { is = outcome_of-with_end r ∙ e.is; asks = e.asks ∙ sym (asked-with_end r); written = one_more r old mid e.written }
gives_rule view r (Err stops.Device) w old mid e = begins_before r old mid e
gives_rule view r (Err stops.Memory) w old mid e = begins_before r old mid e

-- the whole computes to the rest
pub same_run : {A : Type 0} {whole rest : Run A} → whole ≡ rest → (old : Seen) → Continues whole rest old old
same_run {rest = rest} e old = record { made = []; is = e ∙ sym (after-nil rest); written = none_added old }

-- a call that does nothing but answer: a refusal, a value, or want of memory
pub refused_as : {A B : Type 0} (view : B → A) (run : Run A) (f : FaultData) (s : Stop) (w w' : World) (old : Seen)
    → run ≡ fails f w → IsRefusal s f → w'.asked ≡ w.asked → Gives view run (Err s) w' old old
refused_as view run f s w w' old is r same = refused_later view f s w w' old (same_run is old) r same

pub given_as : {A B : Type 0} (view : B → A) (run : Run A) (x : B) (d : A) (w : World) (old : Seen)
    → run ≡ pure d w → view x ≡ d → Gives view run (Ok x) w old old
given_as view run x d w old is e = ended_later view x d w old e (same_run is old)

-- a device failed, after a beginning
pub device_stops : {A B : Type 0} (view : B → A) (r : Run A) (w : World) (old new : Seen) (result : Result B Stop) → IsErrAnd result (λ e. e ≡ stops.Device)
    → Begins (marks_of r) old new → Gives view r result w old new
device_stops view r w old new (Ok x) is b = absurd is
device_stops view r w old new (Err e) is b = subst (λ d. Gives view r (Err d) w old new) (sym is) b

-- a call that tells nothing, and may put names into the table: it ends, or memory was wanting
pub ends_grown : {A : Type 0} (run : Run A) (o : Outcome A) (w : World) (old new : Seen) → run ≡ ran o w [] → new.out ≡ old.out → new.ticks ≡ old.ticks
    → IsFront old.names new.names → Ends run o w old new
ends_grown run o w old new is out ticks names = record {
  is = is ∙ ap (ran o w) (sym (ap marks_of is));
  written = same_added (sym (ap marks_of is)) (grown_added old new out ticks names);
}

pub wanted_grown : {A B : Type 0} (view : B → A) (run : Run A) (w : World) (old new : Seen) (result : Result B Stop) → IsErrAnd result (λ e. e ≡ stops.Memory)
    → new.out ≡ old.out → new.ticks ≡ old.ticks → IsFront old.names new.names → Gives view run result w old new
wanted_grown view run w old new (Ok x) is out ticks names = absurd is
wanted_grown view run w old new (Err e) is out ticks names =
    subst (λ d. Gives view run (Err d) w old new) (sym is) (record { made = []; left = marks_of run; all = refl; written = grown_added old new out ticks names })

-- the same run, by what it is made from
pub gives_at : {A B X : Type 0} (view : B → A) (f : X → Run A) {x y : X} (result : Result B Stop) (w : World) (old new : Seen) → x ≡ y → Gives view (f x) result w old new → Gives view (f y) result w old new
gives_at view f result w old new e g = subst (λ z. Gives view (f z) result w old new) e g

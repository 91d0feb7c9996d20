-- How a whole evaluation has ticked.
use Rattle.std.proofs.Common.{◌≡◌, ℕ, ◌+◌, ◌≤◌, List, [], ◌++◌, length, Result, Ok, Err, IsErrAnd, refl, sym, ap, subst, arith}
use Rattle.world.specs.Counts.{EndsKeepUp, TicksAll, below, counts_from}
use Rattle.world.specs.Gives.{Ends, Gives, failures_after}
use Rattle.world.specs.Run.{Run, Done, marks_of}
use Rattle.world.specs.Store.{Kept, world_of}
use Rattle.world.specs.Trace.{Adds, Begins, Mark, Seen, ends_of, seen_from_parts, steps_of}
use Rattle.world.specs.World.{World}
use Rattle.world.specs.declared.stop.Stop.{Stop}
use Rattle.world.specs.declared.stop.Stop.TheVariants as stops
use Rattle.world.proofs.Marks.{ends_of-append, none_added, same_front}
use Rattle.interp.specs.Evaluated.{Evaluated, FailsOnce, Ticked, TickedSome}
use Rattle.ports.specs.Outputs.{OutputState}
use Rattle.ports.specs.Tree.{TreeState}

-- ---- without the names

abbrev pub unnamed : Seen → Seen
unnamed s = seen_from_parts s.out s.ticks []

adds_unnamed : (marks : List Mark) (old new : Seen) → Adds old marks new → Adds (unnamed old) marks (unnamed new)
adds_unnamed marks old new a = record { sent = a.sent; ticks = a.ticks; names = same_front [] }

begins_unnamed : (marks : List Mark) (old new : Seen) → Begins marks old new → Begins marks (unnamed old) (unnamed new)
begins_unnamed marks old new b = record { made = b.made; left = b.left; all = b.all; written = adds_unnamed b.made old new b.written }

-- the evaluation ended
pub evaluated_done : (run : Run (Unit {0})) (k : Kept) (old new : Seen) → Ends run (Done tt) (world_of k) old new → Evaluated run (Ok k) (unnamed old) (unnamed new)
evaluated_done run k old new g = record { is = g.is; written = adds_unnamed (marks_of run) old new g.written }

stopped : (run : Run (Unit {0})) (e : Stop) (w : World) (old new : Seen) → Gives {A = Unit {0}} {B = Unit {0}} (λ u. u) run (Err e) w old new → Evaluated run (Err e) (unnamed old) (unnamed new)
stopped run (stops.Refused fault) w old new g = record { is = g.is; asks = refl; written = adds_unnamed (marks_of run) old new g.written }
stopped run stops.Device w old new g = begins_unnamed (marks_of run) old new g
stopped run stops.Memory w old new g = begins_unnamed (marks_of run) old new g

-- it stopped
pub evaluated_stop : (run : Run (Unit {0})) (e : Stop) (result : Result Kept Stop) (w : World) (old new : Seen)
    → IsErrAnd result (λ s. s ≡ e) → Gives {A = Unit {0}} {B = Unit {0}} (λ u. u) run (Err e) w old new → Evaluated run result (unnamed old) (unnamed new)
evaluated_stop run e (Ok k) w old new is g = absurd is
evaluated_stop run e (Err s) w old new is g = subst (λ d. Evaluated run (Err d) (unnamed old) (unnamed new)) (sym is) (stopped run e w old new g)

-- no memory was left before it began
pub evaluated_none : (run : Run (Unit {0})) (old : Seen) (result : Result Kept Stop) → IsErrAnd result (λ s. s ≡ stops.Memory) → Evaluated run result old old
evaluated_none run old (Ok k) is = absurd is
evaluated_none run old (Err s) is = subst (λ d. Evaluated run (Err d) old old) (sym is) (record { made = []; left = marks_of run; all = refl; written = none_added old })

-- the devices fail as the stop that is handed on says
fails_by : (e : Stop) (tree tree1 : TreeState) (out out1 : OutputState) → FailsOnce {B = Unit {0}} tree out (Err e) tree1 out1 → FailsOnce {B = Kept} tree out (Err e) tree1 out1
fails_by (stops.Refused fault) tree tree1 out out1 f = record { of_tree = f.of_tree; of_out = f.of_out; sum = f.sum }
fails_by stops.Device tree tree1 out out1 f = record { of_tree = f.of_tree; of_out = f.of_out; sum = f.sum }
fails_by stops.Memory tree tree1 out out1 f = record { of_tree = f.of_tree; of_out = f.of_out; sum = f.sum }

pub fails_stop : (e : Stop) (result : Result Kept Stop) (tree tree1 : TreeState) (out out1 : OutputState) → IsErrAnd result (λ s. s ≡ e)
    → FailsOnce {B = Unit {0}} tree out (Err e) tree1 out1 → FailsOnce {B = Kept} tree out result tree1 out1
fails_stop e (Ok k) tree tree1 out out1 is f = absurd is
fails_stop e (Err s) tree tree1 out out1 is f = subst (λ d. FailsOnce {B = Kept} tree out (Err d) tree1 out1) (sym is) (fails_by e tree tree1 out out1 f)

-- a stop before any device was asked
pub fails_none : (e : Stop) (result : Result Kept Stop) (tree : TreeState) (out : OutputState) → IsErrAnd result (λ s. s ≡ e)
    → ((n : ℕ) → failures_after {B = Kept} n (Err e) ≡ n) → FailsOnce {B = Kept} tree out result tree out
fails_none e (Ok k) tree out is quiet = absurd is
fails_none e (Err s) tree out is quiet =
    subst (λ d. FailsOnce {B = Kept} tree out (Err d) tree out) (sym is)
    (record { of_tree = omega arith; of_out = omega arith; sum = sym (quiet (tree.failures + out.failures)) })

-- ---- ticks

some_ticked : (marks few : List Mark) (cost : ℕ) (old new : Seen) → EndsKeepUp → ends_of few ≤ cost → Begins marks old new → Begins few old new → TickedSome marks cost old new
some_ticked marks few cost old new keeps most b f =
    let all : ends_of few ≡ ends_of (f.made ++ f.left) = ap ends_of f.all in
    let kept : below (length (steps_of b.made)) (counts_from 0 marks) ≤ ends_of b.made =
    subst (λ ms. below (length (steps_of b.made)) (counts_from 0 ms) ≤ ends_of b.made) (sym b.all) (keeps b.made b.left) in
    record {
      made = b.made;
      left = b.left;
      all = b.all;
      sent = b.written.sent;
      most = omega (arith, all, ends_of-append f.made f.left, f.written.ticks, most);
      least = omega (arith, kept, b.written.ticks);
    }

all_ticked : (marks few : List Mark) (cost : ℕ) (old new : Seen) → ends_of few ≤ cost → Adds old marks new → Adds old few new → TicksAll marks cost old.ticks new.ticks
all_ticked marks few cost old new most a f = record { each = a.ticks; within = omega (arith, a.ticks, f.ticks, most) }

-- Each rule that has ended has ticked, and no other. The call did what the run does, and so it did what the run does in which long loops
-- are refused, whose rules are counted.
pub ticked : (run few : Run (Unit {0})) (cost : ℕ) (result : Result Kept Stop) (old new : Seen) → EndsKeepUp → ends_of (marks_of few) ≤ cost
    → Evaluated run result old new → Evaluated few result old new → Ticked run cost result old new
ticked run few cost (Ok k) old new keeps most g f = all_ticked (marks_of run) (marks_of few) cost old new most g.written f.written
ticked run few cost (Err (stops.Refused fault)) old new keeps most g f = all_ticked (marks_of run) (marks_of few) cost old new most g.written f.written
ticked run few cost (Err stops.Device) old new keeps most g f = some_ticked (marks_of run) (marks_of few) cost old new keeps most g f
ticked run few cost (Err stops.Memory) old new keeps most g f = some_ticked (marks_of run) (marks_of few) cost old new keeps most g f

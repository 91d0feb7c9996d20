use Rattle.std.proofs.Common.{Ok, Err, IsTrue, drop, sym, ap, subst, refl, ◌∙◌}
use Rattle.std.specs.Prelude.{nat_lt}
use Rattle.code.specs.Statements.{second_within}
use Rattle.code.specs.declared.code.Code.{Code}
use Rattle.values.specs.View.{data_of}
use Rattle.interp.specs.Bounds.{bounds}
use Rattle.interp.specs.Frames.{behind_all, parts_by, round_by, rounds_left, walk_left}
use Rattle.interp.specs.Statements.{rounds_of}
use Rattle.world.specs.Plan.{give}
use Rattle.expressions.specs.Rounds.{rounds_in}
use Rattle.interp.specs.declared.flow.Flow.{Flow}
use Rattle.expressions.proofs.Evaluating.{given_give, leads_end}
use Rattle.interp.proofs.Doing.{memory_is, round-not, round-on, stands_of, tour_of, toured_of}
use Rattle.interp.proofs.Stack.{leads_under, made_as, made_on, moves_as, moves_given, moves_none, moves_round, moves_then, stacked_on}
use Rattle.interp.proofs.evaluator.Evaluator.continue_loop.Goals as goal

pub returns-then-not-goes_round-clause-gives : goal.returns-then-not-goes_round-clause-gives
returns-then-not-goes_round-clause-gives g c = λ few files rests table hold stacked made.
    let rest = c.args.rest in
    let others = rounds_of (round_by table rest.code.value (bounds few rest.left) rest.head) (rounds_left rest) in
    moves_as (ap (behind_all rests) (ap give c.behind_loop.ensures ∙ sym (round-not c.args.flow others (sym c.goes_round.ensures ∙ c.if-not-goes_round.true))))
    (moves_given c.args.stack.now.items rests (Ok c.behind_loop.result) stacked (given_give hold refl))

pub do_rounds-requires-clause-first : goal.do_rounds-requires-clause-first
do_rounds-requires-clause-first g c = subst (λ (d : Code). IsTrue (nat_lt c.args.rest.head.first d.names)) (sym c.deref.ensures) c.args.rest.first

pub do_rounds-requires-clause-second : goal.do_rounds-requires-clause-second
do_rounds-requires-clause-second g c = subst (λ (d : Code). IsTrue (second_within d.names c.args.rest.head.second)) (sym c.deref.ensures) c.args.rest.second

pub returns-in-Err-clause-gives : goal.returns-in-Err-clause-gives
returns-in-Err-clause-gives g c = λ few files rests table hold stacked made.
    let rest = c.args.rest in
    let left = bounds few rest.left in
    let xs = rounds_in (data_of rest.whole) in
    let whole = ap (behind_all rests) (sym (round-on c.args.flow (rounds_of (round_by table rest.code.value left rest.head) (rounds_left rest)) (sym c.goes_round.ensures ∙ c.if-not-goes_round.false))) in
    let w = toured_of left table rest.head xs rest.at c.deref.ensures (c.in-Err.ensures.gives files left table hold (made_as (sym c.deref.ensures) made)) in
    moves_as whole (moves_given c.args.stack.now.items rests (Err c.in-Err.stop) stacked w.rested)

pub returns-in-Ok-Ends-clause-gives : goal.returns-in-Ok-Ends-clause-gives
returns-in-Ok-Ends-clause-gives g c = λ few files rests table hold stacked made.
    let rest = c.args.rest in
    let left = bounds few rest.left in
    let xs = rounds_in (data_of rest.whole) in
    let whole = ap (behind_all rests) (sym (round-on c.args.flow (rounds_of (round_by table rest.code.value left rest.head) (rounds_left rest)) (sym c.goes_round.ensures ∙ c.if-not-goes_round.false))) in
    let w = toured_of left table rest.head xs rest.at c.deref.ensures (c.in-Ok-Ends.ensures.gives files left table hold (made_as (sym c.deref.ensures) made)) in
    let l = tour_of (parts_by table rest.code.value left rest.head.body) left (λ at. rounds_of (round_by table rest.code.value left rest.head) (drop at xs)) c.in-Ok-Ends.field-0-is w in
    moves_as whole (moves_given c.args.stack.now.items rests (Ok c.in-Ok-Ends.flow) stacked (leads_end l (given_give {view = λ (f : Flow). f} l.holds refl)))

pub returns-in_err-clone-in-Ok-Stands-clause-gives : goal.returns-in_err-clone-in-Ok-Stands-clause-gives
returns-in_err-clone-in-Ok-Stands-clause-gives g c = λ few files rests table hold stacked made.
    let rest = c.args.rest in
    let left = bounds few rest.left in
    let xs = rounds_in (data_of rest.whole) in
    let whole = ap (behind_all rests) (sym (round-on c.args.flow (rounds_of (round_by table rest.code.value left rest.head) (rounds_left rest)) (sym c.goes_round.ensures ∙ c.if-not-goes_round.false))) in
    let w = toured_of left table rest.head xs rest.at c.deref.ensures (c.in-Ok-Stands.ensures.gives files left table hold (made_as (sym c.deref.ensures) made)) in
    moves_as whole (moves_none c.from_residual.result c.args.stack.now.items (leads_under rests (tour_of (parts_by table rest.code.value left rest.head.body) left (λ at. rounds_of (round_by table rest.code.value left rest.head) (drop at xs)) c.in-Ok-Stands.field-0-is w)) c.from_residual.ensures.1)

pub invariant_of-others : goal.invariant_of-others
invariant_of-others g c = record {
  few = c.args.rest.few;
  first = subst (λ (d : Code). IsTrue (nat_lt c.args.rest.head.first d.names)) (sym c.in_ok-clone-in-Ok-Stands.ensures.cases) c.args.rest.first;
  second = subst (λ (d : Code). IsTrue (second_within d.names c.args.rest.head.second)) (sym c.in_ok-clone-in-Ok-Stands.ensures.cases) c.args.rest.second;
}

pub returns-in_err-push_frame-in-Ok-Stands-clause-gives : goal.returns-in_err-push_frame-in-Ok-Stands-clause-gives
returns-in_err-push_frame-in-Ok-Stands-clause-gives g c = λ few files rests table hold stacked made.
    let rest = c.args.rest in
    let left = bounds few rest.left in
    let xs = rounds_in (data_of rest.whole) in
    let whole = ap (behind_all rests) (sym (round-on c.args.flow (rounds_of (round_by table rest.code.value left rest.head) (rounds_left rest)) (sym c.goes_round.ensures ∙ c.if-not-goes_round.false))) in
    let w = toured_of left table rest.head xs rest.at c.deref.ensures (c.in-Ok-Stands.ensures.gives files left table hold (made_as (sym c.deref.ensures) made)) in
    moves_as whole (moves_none c.from_residual-in_err-push_frame-in-Ok-Stands.result c.push_frame.new.stack.items (leads_under rests (tour_of (parts_by table rest.code.value left rest.head.body) left (λ at. rounds_of (round_by table rest.code.value left rest.head) (drop at xs)) c.in-Ok-Stands.field-0-is w))
    (memory_is c.from_residual-in_err-push_frame-in-Ok-Stands.result c.in_err-push_frame-in-Ok-Stands.ensures.lays c.from_residual-in_err-push_frame-in-Ok-Stands.ensures.1))

pub push_rest-requires-clause-deep : goal.push_rest-requires-clause-deep
push_rest-requires-clause-deep g c = stands_of c.in-Ok-Stands.field-0 c.in-Ok-Stands.progress c.in-Ok-Stands.at c.deref.ensures c.in-Ok-Stands.field-0-is c.in-Ok-Stands.ensures.deep

pub returns-in_ok-push_frame-in-Ok-Stands-clause-gives : goal.returns-in_ok-push_frame-in-Ok-Stands-clause-gives
returns-in_ok-push_frame-in-Ok-Stands-clause-gives g c = λ few files rests table hold stacked made.
    let rest = c.args.rest in
    let left = bounds few rest.left in
    let xs = rounds_in (data_of rest.whole) in
    let whole = ap (behind_all rests) (sym (round-on c.args.flow (rounds_of (round_by table rest.code.value left rest.head) (rounds_left rest)) (sym c.goes_round.ensures ∙ c.if-not-goes_round.false))) in
    let w = toured_of left table rest.head xs rest.at c.deref.ensures (c.in-Ok-Stands.ensures.gives files left table hold (made_as (sym c.deref.ensures) made)) in
    let l = tour_of (parts_by table rest.code.value left rest.head.body) left (λ at. rounds_of (round_by table rest.code.value left rest.head) (drop at xs)) c.in-Ok-Stands.field-0-is w in
    let names = l.continues.written.names in
    moves_as whole (moves_then c.push_rest.result (leads_under rests l) (moves_round few c.args.stack.now.items _ c.push_frame.new.stack.items rests _
    (walk_left (parts_by table rest.code.value left rest.head.body) left c.in-Ok-Stands.progress) table c.in_ok-clone-in-Ok-Stands.ensures.cases refl c.in_ok-push_frame-in-Ok-Stands.ensures.lays
    (stacked_on c.args.stack.now.items rests names stacked) (made_on names made)
    (λ rs s. c.push_rest.ensures.gives few files rs table l.holds s (made_on names made))))

use Rattle.std.proofs.Common.{◌+◌, List, drop, map, length, sym, ap, refl, ◌∙◌, rules, arith}
use Rattle.code.specs.Statements.{branch_at, statement_at}
use Rattle.code.specs.declared.node.BranchNode.{BranchNode}
use Rattle.syntax.specs.Tree.{Branches, branches, statements}
use Rattle.interp.specs.Statements.{by_choice, branches_of, do_all}
use Rattle.interp.specs.Folders.{folder}
use Rattle.interp.specs.Frames.{part_done}
use Rattle.expressions.specs.declared.conditions.Choice.{Choice}
use Rattle.expressions.proofs.Evaluating.{leads_as, leads_further, leads_next, leads_start}
use Rattle.interp.proofs.Reading.{reads_on}
use Rattle.interp.proofs.Spelling.{branch_next, chooses_halt, chooses_refused, drop_all, part_behind, part_there}
use Rattle.interp.proofs.evaluator.Evaluator.choose_part.Goals as goal

pub loop-part-init : goal.loop-part-init
loop-part-init g c = record { same = (refl, (refl, (refl, refl))); tree = refl; out = refl; done = λ files ts ss left otherwise hold reads. leads_start hold }

pub returns-in_err-value-clause-gives : goal.returns-in_err-value-clause-gives
returns-in_err-value-clause-gives g c = λ files ts ss left otherwise hold reads.
    let l = leads_as (ap (λ (x : Branches). branches_of (folder left) left.few x (do_all (folder left) left.few otherwise))
    (branch_next ts ss c.args.parts.now c.loop-part.part c.index-parts-part.result c.loop-part-test.true c.index-parts-part.is)) (c.loop-part.invariant.done files ts ss left otherwise hold reads) in
    chooses_halt (part_done (folder left) left.few (branches (map (branch_at ts ss) c.args.parts.now)) otherwise) c.from_residual.result c.from_residual.ensures.1 l
    (c.in_err-value.ensures.gives files left ts l.holds (reads_on reads l.continues.written.names))

pub returns-in_err-choose-clause-gives : goal.returns-in_err-choose-clause-gives
returns-in_err-choose-clause-gives g c = λ files ts ss left otherwise hold reads.
    let l = leads_as (ap (λ (x : Branches). branches_of (folder left) left.few x (do_all (folder left) left.few otherwise))
    (branch_next ts ss c.args.parts.now c.loop-part.part c.index-parts-part.result c.loop-part-test.true c.index-parts-part.is)) (c.loop-part.invariant.done files ts ss left otherwise hold reads) in
    let e = (c.in_ok-value.ensures.gives files left ts l.holds (reads_on reads l.continues.written.names)).comes in
    let m = leads_further l (leads_next e) in
    chooses_refused left (part_done (folder left) left.few (branches (map (branch_at ts ss) c.args.parts.now)) otherwise) c.from_residual-in_err-choose.result c.from_residual-in_err-choose.ensures.1 m
    (c.in_err-choose.ensures.gives files e.holds)

pub returns-in-Body-clause-gives : goal.returns-in-Body-clause-gives
returns-in-Body-clause-gives g c = λ files ts ss left otherwise hold reads.
    let l = leads_as (ap (λ (x : Branches). branches_of (folder left) left.few x (do_all (folder left) left.few otherwise))
    (branch_next ts ss c.args.parts.now c.loop-part.part c.index-parts-part.result c.loop-part-test.true c.index-parts-part.is)) (c.loop-part.invariant.done files ts ss left otherwise hold reads) in
    let e = (c.in_ok-value.ensures.gives files left ts l.holds (reads_on reads l.continues.written.names)).comes in
    let m = leads_further l (leads_next e) in
    let n = leads_further m (leads_next (c.in_ok-choose.ensures.gives files e.holds)) in
    let k = leads_as (ap (λ (x : Choice). by_choice x (do_all (folder left) left.few (statements (map (statement_at ss) c.index-parts-part.result.body.items))) (branches_of (folder left) left.few (branches (map (branch_at ts ss) (drop (c.loop-part.part + 1) c.args.parts.now))) (do_all (folder left) left.few otherwise))) c.in-Body.is) n in
    leads_as (sym (part_there (folder left) left.few ts ss otherwise c.args.parts.now c.loop-part.part c.index-parts-part.result c.loop-part-test.true)) (leads_as (ap (λ (b : BranchNode). do_all (folder left) left.few (statements (map (statement_at ss) b.body.items))) c.index-parts-part.is) k)

pub returns-in-Skip-clause-gives : goal.returns-in-Skip-clause-gives
returns-in-Skip-clause-gives g c = λ files ts ss left otherwise hold reads.
    let l = leads_as (ap (λ (x : Branches). branches_of (folder left) left.few x (do_all (folder left) left.few otherwise))
    (branch_next ts ss c.args.parts.now c.loop-part.part c.index-parts-part.result c.loop-part-test.true c.index-parts-part.is)) (c.loop-part.invariant.done files ts ss left otherwise hold reads) in
    let e = (c.in_ok-value.ensures.gives files left ts l.holds (reads_on reads l.continues.written.names)).comes in
    let m = leads_further l (leads_next e) in
    let n = leads_further m (leads_next (c.in_ok-choose.ensures.gives files e.holds)) in
    let k = leads_as (ap (λ (x : Choice). by_choice x (do_all (folder left) left.few (statements (map (statement_at ss) c.index-parts-part.result.body.items))) (branches_of (folder left) left.few (branches (map (branch_at ts ss) (drop (c.loop-part.part + 1) c.args.parts.now))) (do_all (folder left) left.few otherwise))) c.in-Skip.is) n in
    k

pub loop-part-preserved : goal.loop-part-preserved
loop-part-preserved g c = record {
  same = search rules;
  tree = search rules;
  out = search rules;
  done = λ files ts ss left otherwise hold reads.
      let l = leads_as (ap (λ (x : Branches). branches_of (folder left) left.few x (do_all (folder left) left.few otherwise))
      (branch_next ts ss c.args.parts.now c.loop-part.part c.index-parts-part.result c.loop-part-test.true c.index-parts-part.is)) (c.loop-part.invariant.done files ts ss left otherwise hold reads) in
      let e = (c.in_ok-value.ensures.gives files left ts l.holds (reads_on reads l.continues.written.names)).comes in
      let m = leads_further l (leads_next e) in
      let n = leads_further m (leads_next (c.in_ok-choose.ensures.gives files e.holds)) in
      let k = leads_as (ap (λ (x : Choice). by_choice x (do_all (folder left) left.few (statements (map (statement_at ss) c.index-parts-part.result.body.items))) (branches_of (folder left) left.few (branches (map (branch_at ts ss) (drop (c.loop-part.part + 1) c.args.parts.now))) (do_all (folder left) left.few otherwise))) c.in-Others.is) n in
      k;
}

pub returns-clause-gives : goal.returns-clause-gives
returns-clause-gives g c = λ files ts ss left otherwise hold reads.
    leads_as (ap (λ (bs : List BranchNode). branches_of (folder left) left.few (branches (map (branch_at ts ss) bs)) (do_all (folder left) left.few otherwise)) (drop_all c.args.parts.now c.loop-part.part c.loop-part-test.false)
    ∙ sym (part_behind (folder left) left.few ts ss otherwise c.args.parts.now (length c.args.parts.now) (omega arith))) (c.loop-part.invariant.done files ts ss left otherwise hold reads)

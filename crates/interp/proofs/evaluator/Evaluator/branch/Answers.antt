use Rattle.std.proofs.Common.{ℕ, List, map, sym, ap, refl, ◌∙◌}
use Rattle.code.specs.Statements.{branch_at}
use Rattle.syntax.specs.Tree.{branches}
use Rattle.expressions.specs.Codes.{block_by, expressions_by, statements_by}
use Rattle.interp.specs.Folders.{folder}
use Rattle.interp.specs.Frames.{part_done}
use Rattle.interp.specs.Statements.{do_all}
use Rattle.interp.specs.declared.flow.Flow.{Flow}
use Rattle.expressions.proofs.Evaluating.{given_give, leads_as, leads_end, leads_start}
use Rattle.interp.proofs.Blocks.{branch_clamped}
use Rattle.interp.proofs.Coming.{comes_end}
use Rattle.interp.proofs.Doing.{done_halt}
use Rattle.interp.proofs.Spelling.{part_is, reads_at}
use Rattle.interp.proofs.Stack.{made_on}
use Rattle.interp.proofs.evaluator.Evaluator.branch.Goals as goal

pub returns-then-not-are_simple-clause-gives : goal.returns-then-not-are_simple-clause-gives
returns-then-not-are_simple-clause-gives g c = λ otherwise same files left table hold made. record { done = leads_start hold }

pub returns-in_err-part-clause-gives : goal.returns-in_err-part-clause-gives
returns-in_err-part-clause-gives g c = λ otherwise same files left table hold made.
    let code = c.args.code.now in
    done_halt {view = λ (f : Flow). f} c.from_residual.result c.from_residual.ensures.1
    (record { comes = c.in_err-part.ensures.gives files (expressions_by table code) (statements_by table code) left (block_by table code otherwise) hold (reads_at refl made) })

pub returns-in_err-do_simple_block-in-Some-clause-gives : goal.returns-in_err-do_simple_block-in-Some-clause-gives
returns-in_err-do_simple_block-in-Some-clause-gives g c = λ otherwise same files left table hold made.
    let code = c.args.code.now in
    let ts = expressions_by table code in
    let ss = statements_by table code in
    let parts = c.args.parts.now in
    let o = c.in_ok-part.ensures.gives files ts ss left (block_by table code otherwise) hold (reads_at refl made) in
    let l = leads_as (ap (part_done (folder left) left.few (branches (map (branch_at ts ss) parts)) (block_by table code otherwise)) c.in-Some.is) o in
    let m = leads_as (part_is (folder left) left.few ts ss otherwise parts c.in-Some.part ∙ ap (λ (ns : List ℕ). do_all (folder left) left.few (block_by table code ns))
    (branch_clamped otherwise parts c.in-Some.part c.min.result c.min.ensures ∙ sym (same c.min.result))) l in
    done_halt {view = λ (f : Flow). f} c.from_residual-in_err-do_simple_block-in-Some.result c.from_residual-in_err-do_simple_block-in-Some.ensures.1
    (comes_end m (c.in_err-do_simple_block-in-Some.ensures.gives files left table m.holds (made_on m.continues.written.names made)))

pub returns-in_ok-do_simple_block-in-Some-clause-gives : goal.returns-in_ok-do_simple_block-in-Some-clause-gives
returns-in_ok-do_simple_block-in-Some-clause-gives g c = λ otherwise same files left table hold made.
    let code = c.args.code.now in
    let ts = expressions_by table code in
    let ss = statements_by table code in
    let parts = c.args.parts.now in
    let o = c.in_ok-part.ensures.gives files ts ss left (block_by table code otherwise) hold (reads_at refl made) in
    let l = leads_as (ap (part_done (folder left) left.few (branches (map (branch_at ts ss) parts)) (block_by table code otherwise)) c.in-Some.is) o in
    let m = leads_as (part_is (folder left) left.few ts ss otherwise parts c.in-Some.part ∙ ap (λ (ns : List ℕ). do_all (folder left) left.few (block_by table code ns))
    (branch_clamped otherwise parts c.in-Some.part c.min.result c.min.ensures ∙ sym (same c.min.result))) l in
    record { done = leads_end m (c.in_ok-do_simple_block-in-Some.ensures.gives files left table m.holds (made_on m.continues.written.names made)).comes }

pub returns-in-None-clause-gives : goal.returns-in-None-clause-gives
returns-in-None-clause-gives g c = λ otherwise same files left table hold made.
    let code = c.args.code.now in
    let ts = expressions_by table code in
    let ss = statements_by table code in
    let o = c.in_ok-part.ensures.gives files ts ss left (block_by table code otherwise) hold (reads_at refl made) in
    let l = leads_as (ap (part_done (folder left) left.few (branches (map (branch_at ts ss) c.args.parts.now)) (block_by table code otherwise)) c.in-None.is) o in
    record { done = leads_end l (given_give l.holds refl) }

use Rattle.std.proofs.Common.{ℕ, List, Ok, map, sym, ap, refl, ◌∙◌}
use Rattle.code.specs.Statements.{branch_at}
use Rattle.code.specs.declared.code.Code.{Code}
use Rattle.syntax.specs.Tree.{branches}
use Rattle.interp.specs.Bounds.{bounds}
use Rattle.expressions.specs.Codes.{block_by, expressions_by, statements_by}
use Rattle.interp.specs.Blocks.{statements_of}
use Rattle.interp.specs.Folders.{folder}
use Rattle.interp.specs.Frames.{part_done}
use Rattle.interp.specs.Statements.{do_all}
use Rattle.interp.specs.declared.block.Block.TheVariants.{Part}
use Rattle.interp.specs.declared.flow.Flow.TheVariants as flows
use Rattle.interp.proofs.Halting.{begun_halt, begun_moved, begun_none}
use Rattle.expressions.proofs.Evaluating.{given_give, leads_as, leads_end}
use Rattle.interp.proofs.Spelling.{part_is, reads_at}
use Rattle.interp.proofs.Stack.{leads_under, made_as, made_on, moves_block, moves_given, stacked_on}
use Rattle.interp.proofs.evaluator.Evaluator.begin_branch.Goals as goal

pub returns-in_err-part-clause-gives : goal.returns-in_err-part-clause-gives
returns-in_err-part-clause-gives g c = λ few otherwise same files rests table hold stacked made.
    let code = c.args.code.now.value in
    let ts = expressions_by table code in
    let ss = statements_by table code in
    begun_halt _ _ c.from_residual.result c.args.stack.now.items rests stacked
    (c.in_err-part.ensures.gives files ts ss (bounds few c.args.left) (block_by table code otherwise) hold (reads_at c.deref.ensures made)) c.from_residual.ensures.1

pub returns-in-None-clause-gives : goal.returns-in-None-clause-gives
returns-in-None-clause-gives g c = λ few otherwise same files rests table hold stacked made.
    let code = c.args.code.now.value in
    let ts = expressions_by table code in
    let ss = statements_by table code in
    let o = c.in_ok-part.ensures.gives files ts ss (bounds few c.args.left) (block_by table code otherwise) hold (reads_at c.deref.ensures made) in
    let l = leads_as (ap (part_done (folder (bounds few c.args.left)) few (branches (map (branch_at ts ss) c.args.parts.now)) (block_by table code otherwise)) c.in-None.is) o in
    begun_moved (moves_given c.args.stack.now.items rests (Ok flows.Next) stacked (leads_end l (given_give l.holds refl)))

pub returns-in_err-clone-in-Some-clause-gives : goal.returns-in_err-clone-in-Some-clause-gives
returns-in_err-clone-in-Some-clause-gives g c = λ few otherwise same files rests table hold stacked made.
    let code = c.args.code.now.value in
    let ts = expressions_by table code in
    let ss = statements_by table code in
    let o = c.in_ok-part.ensures.gives files ts ss (bounds few c.args.left) (block_by table code otherwise) hold (reads_at c.deref.ensures made) in
    let l = leads_as (ap (part_done (folder (bounds few c.args.left)) few (branches (map (branch_at ts ss) c.args.parts.now)) (block_by table code otherwise)) c.in-Some.is) o in
    begun_none c.from_residual-in_err-clone-in-Some.result c.args.stack.now.items (leads_under rests l) c.from_residual-in_err-clone-in-Some.ensures.1

pub returns-in_err-push-in-Some-clause-gives : goal.returns-in_err-push-in-Some-clause-gives
returns-in_err-push-in-Some-clause-gives g c = λ few otherwise same files rests table hold stacked made.
    let code = c.args.code.now.value in
    let ts = expressions_by table code in
    let ss = statements_by table code in
    let o = c.in_ok-part.ensures.gives files ts ss (bounds few c.args.left) (block_by table code otherwise) hold (reads_at c.deref.ensures made) in
    let l = leads_as (ap (part_done (folder (bounds few c.args.left)) few (branches (map (branch_at ts ss) c.args.parts.now)) (block_by table code otherwise)) c.in-Some.is) o in
    begun_none c.from_residual-in_err-push-in-Some.result c.push.new.self.items (leads_under rests l) c.from_residual-in_err-push-in-Some.ensures.1

pub returns-in_ok-push-in-Some-clause-gives : goal.returns-in_ok-push-in-Some-clause-gives
returns-in_ok-push-in-Some-clause-gives g c = λ few otherwise same files rests table hold stacked made.
    let code = c.args.code.now.value in
    let ts = expressions_by table code in
    let ss = statements_by table code in
    let o = c.in_ok-part.ensures.gives files ts ss (bounds few c.args.left) (block_by table code otherwise) hold (reads_at c.deref.ensures made) in
    let l = leads_as (ap (part_done (folder (bounds few c.args.left)) few (branches (map (branch_at ts ss) c.args.parts.now)) (block_by table code otherwise)) c.in-Some.is) o in
    let whole = λ (d : Code). do_all (folder (bounds few c.args.left)) few (block_by table d (statements_of d (Part c.args.number c.in-Some.part))) in
    begun_moved (moves_block few c.args.stack.now.items c.push.new.self.items rests _ table (stacked_on c.args.stack.now.items rests l.continues.written.names stacked) c.in_ok-push-in-Some.ensures.items
    (made_as (sym c.in_ok-clone-in-Some.ensures.cases) (made_on l.continues.written.names made))
    (leads_under rests (leads_as (part_is (folder (bounds few c.args.left)) few ts ss otherwise c.args.parts.now c.in-Some.part ∙ ap (λ (ns : List ℕ). do_all (folder (bounds few c.args.left)) few (block_by table code ns)) (sym (same c.in-Some.part))
    ∙ ap whole (sym c.in_ok-clone-in-Some.ensures.cases)) l)))

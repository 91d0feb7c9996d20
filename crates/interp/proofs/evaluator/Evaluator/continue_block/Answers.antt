use Rattle.std.proofs.Common.{drop, Ok, Err, sym, ap, refl, ◌∙◌}
use Rattle.code.specs.declared.code.Code.{Code}
use Rattle.interp.specs.Bounds.{bounds}
use Rattle.expressions.specs.Codes.{block_by}
use Rattle.interp.specs.Blocks.{statements_of}
use Rattle.interp.specs.Folders.{folder}
use Rattle.interp.specs.Frames.{behind_all, others_by, parts_by, walk_left}
use Rattle.interp.specs.Statements.{do_all}
use Rattle.expressions.proofs.Evaluating.{given_give, leads_as}
use Rattle.interp.proofs.Doing.{begins_of, next-is, next-not}
use Rattle.interp.proofs.Stack.{leads_under, made_as, made_on, moves_as, moves_given, moves_then, stacked_on}
use Rattle.interp.proofs.evaluator.Evaluator.continue_block.Goals as goal

pub returns-then-not-is_next-clause-gives : goal.returns-then-not-is_next-clause-gives
returns-then-not-is_next-clause-gives g c = λ few files rests table hold stacked made.
    let others = do_all (folder (bounds few c.args.rest.left)) few (others_by table c.args.rest) in
    moves_as (ap (behind_all rests) (sym (next-not c.args.flow others (sym c.is_next.ensures ∙ c.if-not-is_next.true))))
    (moves_given c.args.stack.now.items rests (Ok c.args.flow) stacked (given_give hold refl))

pub push_rest-requires-clause-deep : goal.push_rest-requires-clause-deep
push_rest-requires-clause-deep g c = begins_of c.in-Ok.progress c.deref.ensures c.in-Ok.ensures.deep

pub returns-in-Ok-clause-gives : goal.returns-in-Ok-clause-gives
returns-in-Ok-clause-gives g c = λ few files rests table hold stacked made.
    let rest = c.args.rest in
    let left = bounds few rest.left in
    let others = do_all (folder left) few (others_by table rest) in
    let whole = ap (λ (d : Code). behind_all rests (do_all (folder left) few (block_by table d (drop rest.at (statements_of d rest.block))))) c.deref.ensures
    ∙ ap (behind_all rests) (sym (next-is c.args.flow others (sym c.is_next.ensures ∙ c.if-not-is_next.false))) in
    let w = c.in-Ok.ensures.gives files left table hold (made_as (sym c.deref.ensures) made) in
    let l = leads_as (ap (λ (d : Code). walk_left (parts_by table d left rest.block) left c.in-Ok.progress) c.deref.ensures) w.rested in
    let names = l.continues.written.names in
    moves_as whole (moves_then c.push_rest.result (leads_under rests l)
    (c.push_rest.ensures.gives few files rests table l.holds (stacked_on c.args.stack.now.items rests names stacked) (made_on names made)))

pub returns-in-Err-clause-gives : goal.returns-in-Err-clause-gives
returns-in-Err-clause-gives g c = λ few files rests table hold stacked made.
    let rest = c.args.rest in
    let left = bounds few rest.left in
    let others = do_all (folder left) few (others_by table rest) in
    let whole = ap (λ (d : Code). behind_all rests (do_all (folder left) few (block_by table d (drop rest.at (statements_of d rest.block))))) c.deref.ensures
    ∙ ap (behind_all rests) (sym (next-is c.args.flow others (sym c.is_next.ensures ∙ c.if-not-is_next.false))) in
    let w = c.in-Err.ensures.gives files left table hold (made_as (sym c.deref.ensures) made) in
    moves_as whole (moves_given c.args.stack.now.items rests (Err c.in-Err.stop) stacked w.rested)

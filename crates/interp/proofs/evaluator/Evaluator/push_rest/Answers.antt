use Rattle.std.proofs.Common.{Ok, sym, ap, refl}
use Rattle.code.specs.Statements.{statement_at}
use Rattle.interp.specs.Bounds.{bounds}
use Rattle.expressions.specs.Codes.{statements_by}
use Rattle.interp.specs.Folders.{folder}
use Rattle.interp.specs.Frames.{behind_all, parts_by, walk_left}
use Rattle.interp.specs.FolderEntries.{folder_in_expression}
use Rattle.interp.specs.Statements.{does}
use Rattle.interp.specs.declared.block_statements.BlockProgress.{BlockProgress}
use Rattle.expressions.proofs.Evaluating.{given_give, leads_start}
use Rattle.interp.proofs.Doing.{begins_deep, memory_is}
use Rattle.interp.proofs.Halting.{moves_begun, moves_stopped, waits_begun}
use Rattle.interp.proofs.Stack.{moves_as, moves_given, moves_none, moves_statement, moves_then}
use Rattle.interp.proofs.evaluator.Evaluator.push_rest.Goals as goal

pub returns-in-Ends-clause-gives : goal.returns-in-Ends-clause-gives
returns-in-Ends-clause-gives g c = λ few files rests table hold stacked made.
    let left = bounds few c.args.left in
    moves_as (ap (λ (w : BlockProgress). behind_all rests (walk_left (parts_by table c.args.code.value left c.args.block) left w)) (sym c.in-Ends.is))
    (moves_given c.args.stack.now.items rests (Ok c.in-Ends.flow) stacked (given_give hold refl))

pub begin_statement-requires-clause-there : goal.begin_statement-requires-clause-there
begin_statement-requires-clause-there g c = (begins_deep c.args.code.value c.args.progress c.in-Begins.number c.in-Begins.at c.in-Begins.is c.requires.deep).0

pub begin_statement-requires-clause-deep : goal.begin_statement-requires-clause-deep
begin_statement-requires-clause-deep g c = (begins_deep c.args.code.value c.args.progress c.in-Begins.number c.in-Begins.at c.in-Begins.is c.requires.deep).1

pub returns-in_err-clone-in-Begins-clause-gives : goal.returns-in_err-clone-in-Begins-clause-gives
returns-in_err-clone-in-Begins-clause-gives g c = λ few files rests table hold stacked made.
    moves_none c.from_residual.result c.args.stack.now.items (leads_start hold) c.from_residual.ensures.1

pub returns-in_err-push_frame-in-Begins-clause-gives : goal.returns-in_err-push_frame-in-Begins-clause-gives
returns-in_err-push_frame-in-Begins-clause-gives g c = λ few files rests table hold stacked made.
    moves_none c.from_residual-in_err-push_frame-in-Begins.result c.push_frame.new.stack.items (leads_start hold) (memory_is c.from_residual-in_err-push_frame-in-Begins.result c.in_err-push_frame-in-Begins.ensures.lays c.from_residual-in_err-push_frame-in-Begins.ensures.1)

pub returns-in-Ok-clause-gives : goal.returns-in-Ok-clause-gives
returns-in-Ok-clause-gives g c = λ few files rests table hold stacked made.
    let left = bounds few c.args.left in
    let fs = c.args.stack.now.items in
    moves_as (ap (λ (w : BlockProgress). behind_all rests (walk_left (parts_by table c.args.code.value left c.args.block) left w)) (sym c.in-Begins.is))
    (moves_statement few fs _ c.push_frame.new.stack.items rests _ (does (folder left) few (statement_at (statements_by table c.args.code.value) c.in-Begins.number)) table
    c.in_ok-clone-in-Begins.ensures.cases refl c.in_ok-push_frame-in-Begins.ensures.lays stacked made
    (λ rs s. moves_begun refl (c.in-Ok.ensures.gives few files rs table hold s made)))

pub returns-in-Err-Stops-clause-gives : goal.returns-in-Err-Stops-clause-gives
returns-in-Err-Stops-clause-gives g c = λ few files rests table hold stacked made.
    let left = bounds few c.args.left in
    let fs = c.args.stack.now.items in
    moves_as (ap (λ (w : BlockProgress). behind_all rests (walk_left (parts_by table c.args.code.value left c.args.block) left w)) (sym c.in-Begins.is))
    (moves_statement few fs _ c.push_frame.new.stack.items rests _ (does (folder left) few (statement_at (statements_by table c.args.code.value) c.in-Begins.number)) table
    c.in_ok-clone-in-Begins.ensures.cases refl c.in_ok-push_frame-in-Begins.ensures.lays stacked made
    (λ rs s. moves_stopped c.in-Err-Stops.field-0-is (c.in-Err-Stops.ensures.gives few files rs table hold s made)))

pub returns-in-Begins-clause-gives : goal.returns-in-Begins-clause-gives
returns-in-Begins-clause-gives g c = λ few files rests table hold stacked made.
    let left = bounds few c.args.left in
    let fs = c.args.stack.now.items in
    moves_as (ap (λ (w : BlockProgress). behind_all rests (walk_left (parts_by table c.args.code.value left c.args.block) left w)) (sym c.in-Begins.is))
    (moves_statement few fs _ c.push_frame.new.stack.items rests _ (does (folder left) few (statement_at (statements_by table c.args.code.value) c.in-Begins.number)) table
    c.in_ok-clone-in-Begins.ensures.cases refl c.in_ok-push_frame-in-Begins.ensures.lays stacked made
    (λ rs s. let w = waits_begun c.in-Err-Enters.field-0-is (c.in-Err-Enters.ensures.gives few files rs table hold s made) in
    moves_then c.enter_from_expression.result w.leads (c.enter_from_expression.ensures.gives few files w.rests w.leads.holds w.stacked)))

pub returns-in_err-push_frame-in-Enters-clause-gives : goal.returns-in_err-push_frame-in-Enters-clause-gives
returns-in_err-push_frame-in-Enters-clause-gives g c = λ few files rests table hold stacked made.
    moves_none c.from_residual-in_err-push_frame-in-Enters.result c.push_frame-in-Enters.new.stack.items (leads_start hold) (memory_is c.from_residual-in_err-push_frame-in-Enters.result c.in_err-push_frame-in-Enters.ensures.lays c.from_residual-in_err-push_frame-in-Enters.ensures.1)

pub returns-clause-gives : goal.returns-clause-gives
returns-clause-gives g c = λ few files rests table hold stacked made.
    let left = bounds few c.args.left in
    let fs = c.args.stack.now.items in
    moves_as (ap (λ (w : BlockProgress). behind_all rests (walk_left (parts_by table c.args.code.value left c.args.block) left w)) (sym c.in-Enters.is))
    (moves_statement few fs _ c.push_frame-in-Enters.new.stack.items rests _ (folder_in_expression left c.in-Enters.entry.value) table
    refl refl c.in_ok-push_frame-in-Enters.ensures.lays stacked made
    (λ rs s. c.enter_from_expression-in-Enters.ensures.gives few files rs hold s))

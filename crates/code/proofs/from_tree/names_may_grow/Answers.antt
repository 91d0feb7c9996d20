use Rattle.std.proofs.Common.{map, ap}
use Rattle.code.specs.Statements.{statement_at}
use Rattle.code.proofs.StatementTrees.{code_kept}
use Rattle.code.proofs.from_tree.names_may_grow.Goals as goal

pub returns : goal.returns
returns c = λ names more l.
    let code = c.args.code.now in
    ap (λ ss. map (statement_at ss) code.body.items) (code_kept names more code.names code.nodes.items code.statements.items l
    code.ordered code.placed)

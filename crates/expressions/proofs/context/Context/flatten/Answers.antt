use Rattle.std.proofs.Common.{ap, refl}
use Rattle.syntax.specs.Tree.{file_of, statements}
use Rattle.expressions.proofs.Assigning.{given_none_grown}
use Rattle.expressions.proofs.Opening.{given_made}
use Rattle.expressions.proofs.context.Context.flatten.Goals as goal

pub returns-in_err-code-clause-gives : goal.returns-in_err-code-clause-gives
returns-in_err-code-clause-gives g c = λ files h. given_none_grown h c.from_residual.ensures.1 c.in_err-code.ensures.names

pub returns-clause-gives : goal.returns-clause-gives
returns-clause-gives g c = λ files h.
    given_made (statements (file_of c.args.file.now)) h refl (ap statements c.in_ok-code.ensures.tree) c.in_ok-code.ensures.world c.in_ok-code.ensures.names

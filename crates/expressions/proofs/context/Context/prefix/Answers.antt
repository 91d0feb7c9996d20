use Rattle.std.proofs.Common.{subst}
use Rattle.values.specs.Tables.{Answers}
use Rattle.values.specs.View.{data_of}
use Rattle.operations.specs.operators.Operations.{unary_answer}
use Rattle.expressions.proofs.context.Context.prefix.Goals as goal

pub returns-clause-gives : goal.returns-clause-gives
returns-clause-gives g c = λ files h.
    c.answer.ensures.gives _ (subst (λ u. Answers (unary_answer u (data_of c.args.value)) c.unary-answer.result) c.unary_of.ensures c.unary-answer.ensures) files h

use Rattle.std.proofs.Common.{◌≡◌, Err, refl, subst}
use Rattle.syntax.specs.Parsed.{parsed_file}
use Rattle.syntax.specs.Tree.{file_of}
use Rattle.syntax.specs.lexer.Answers.{Refuses}
use Rattle.expressions.proofs.Evaluating.{given_as, given_none}
use Rattle.expressions.proofs.Opening.{given_line, source_read, source_refused}
use Rattle.expressions.proofs.context.Context.code_of_text.Goals as goal

pub returns-in-Ok-clause-gives : goal.returns-in-Ok-clause-gives
returns-in-Ok-clause-gives g c = λ files h.
    given_as (source_read c.args.text.now (file_of c.in-Ok.file) c.in-Ok.ensures.reads) (c.flatten.ensures.gives files h)

pub returns-in-Err-Memory-clause-gives : goal.returns-in-Err-Memory-clause-gives
returns-in-Err-Memory-clause-gives g c = λ files h. given_none h refl

pub returns-in-Err-Fault-clause-gives : goal.returns-in-Err-Fault-clause-gives
returns-in-Err-Fault-clause-gives g c = λ files h.
    let reads : parsed_file c.args.text.now ≡ Err c.in-Err-Fault.fault = subst (λ e. Refuses e (parsed_file c.args.text.now)) c.in-Err-Fault.field-0-is c.in-Err-Fault.ensures.reads in
    given_as (source_refused c.args.text.now c.in-Err-Fault.fault c.refusal_of.result reads c.refusal_of.ensures) (given_line _ _ h c.refuse.ensures)

use Rattle.std.proofs.Common.{ap, refl, sym}
use Rattle.expressions.specs.Forms.{literal_value}
use Rattle.expressions.proofs.Evaluating.{given_as, given_give}
use Rattle.expressions.proofs.context.Context.unread.Goals as goal

pub returns-in-True-clause-gives : goal.returns-in-True-clause-gives
returns-in-True-clause-gives g c = λ files h. given_as (ap (λ l. literal_value c.args.line l c.args.text.now) (sym c.in-True.is)) (given_give h refl)

pub returns-in-False-clause-gives : goal.returns-in-False-clause-gives
returns-in-False-clause-gives g c = λ files h. given_as (ap (λ l. literal_value c.args.line l c.args.text.now) (sym c.in-False.is)) (given_give h refl)

pub returns-in-Number-clause-gives : goal.returns-in-Number-clause-gives
returns-in-Number-clause-gives g c = λ files h. given_as (ap (λ l. literal_value c.args.line l c.args.text.now) (sym c.in-Number.is)) (c.answer.ensures.gives _ c.number.ensures files h)

pub returns-in-String-clause-gives : goal.returns-in-String-clause-gives
returns-in-String-clause-gives g c = λ files h. given_as (ap (λ l. literal_value c.args.line l c.args.text.now) (sym c.in-String.is)) (c.decode.ensures.gives files h)

pub returns-in-RawString-clause-gives : goal.returns-in-RawString-clause-gives
returns-in-RawString-clause-gives g c = λ files h. given_as (ap (λ l. literal_value c.args.line l c.args.text.now) (sym c.in-RawString.is)) (c.decode-in-RawString.ensures.gives files h)

use Rattle.std.proofs.Common.{ap, ◌∙◌, codes}
use Rattle.support.specs.declared.faults.refusal.Refusal.TheVariants as refusals
use Rattle.values.specs.printing.Printed.{is_printable}
use Rattle.world.specs.Deed.{need}
use Rattle.language_calls.specs.Messages.{need_printable}
use Rattle.world.proofs.Answering.{carries_as}
use Rattle.language_calls.proofs.Saying.{all_of}
use Rattle.language_calls.proofs.messages.need_printable.Goals as goal

pub returns : goal.returns
unfolding need_printable
returns g c = carries_as (ap (λ b. need b refusals.Arguments (codes "arguments: one can't be printed")) (c.are_printable.ensures ∙ all_of is_printable c.args.values.now)) c.need.ensures

use Rattle.std.proofs.Common.{List, ℕ, ap}
use Rattle.support.specs.declared.faults.refusal.Refusal.TheVariants as refusals
use Rattle.arguments.specs.Refused.{RefusedData, breaks}
use Rattle.arguments.proofs.rule.Rule.refuse.Goals as goal

pub returns : goal.returns
unfolding breaks
returns c =
    let refused : List ℕ → RefusedData = λ detail. record { refusal = refusals.Arguments; detail = detail } in
    ap refused c.in_ok-detail.ensures

use Rattle.std.proofs.Common.{◌∙◌, sym, ap, Option}
use Rattle.std.specs.Option.{option_map}
use Rattle.options.specs.declared.fault.OptionFault.{OptionFault}
use Rattle.options.specs.Resolves.{unless_fault, next}
use Rattle.options.specs.View.{fault_in, state_in, verdict_in}
use Rattle.options.proofs.state.State.next.Goals as goal

pub returns-in-Some : goal.returns-in-Some
unfolding next
returns-in-Some c = ap (λ (o : Option OptionFault). unless_fault (option_map fault_in o) (state_in c.args.self.now) (verdict_in c.args.verdict))
    (sym c.in-Some.is)

pub returns-in_ok-take-in-None : goal.returns-in_ok-take-in-None
unfolding next
returns-in_ok-take-in-None c = c.in_ok-take-in-None.ensures
    ∙ ap (λ (o : Option OptionFault). unless_fault (option_map fault_in o) (state_in c.args.self.now) (verdict_in c.args.verdict)) (sym c.in-None.is)

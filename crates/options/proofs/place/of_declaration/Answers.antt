use Rattle.std.proofs.Common.{◌≡◌, ◌∙◌, IfOk, sym, ap, subst}
use Rattle.std.specs.Option.{option_map}
use Rattle.options.specs.option_file.View.{option_in}
use Rattle.option_values.specs.View.{value_in}
use Rattle.options.specs.Verdicts.{of_default, of_declaration}
use Rattle.options.specs.View.{verdict_in}
use Rattle.options.proofs.place.of_declaration.Goals as goal

pub returns-in-Some : goal.returns-in-Some
unfolding of_declaration
returns-in-Some c = ap (of_default (option_in c.args.name.now c.args.declaration.now)) (ap (option_map value_in) (sym c.in-Some.is)
    ∙ c.in_ok-value.ensures c.args.name.now)

pub returns-in-None : goal.returns-in-None
unfolding of_declaration
returns-in-None c =
    subst (λ verdict. IfOk c.refuse.result (λ v. verdict_in v ≡ verdict))
    (ap (of_default (option_in c.args.name.now c.args.declaration.now)) (ap (option_map value_in) (sym c.in-None.is)
    ∙ c.in_ok-value.ensures c.args.name.now)) c.refuse.ensures

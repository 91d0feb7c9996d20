use Rattle.std.proofs.Common.{◌≡◌, ◌∙◌, IfOk, ap, subst}
use Rattle.machine_file.specs.Values as written
use Rattle.options.specs.option_file.View.{options_in}
use Rattle.options.specs.Verdicts.{of_named, of_parts, of_assignment}
use Rattle.options.specs.View.{verdict_in}
use Rattle.options.proofs.place.of_assignment.Goals as goal

pub returns-in_default : goal.returns-in_default
unfolding of_assignment
returns-in_default c =
    subst (λ verdict. IfOk c.refuse.result (λ v. verdict_in v ≡ verdict))
    (ap (of_parts (options_in c.args.known.now.declared.now) c.args.place c.args.text.now) c.in_default.ensures) c.refuse.ensures

pub returns : goal.returns
unfolding of_assignment
returns c =
    subst (λ verdict. IfOk c.of_named.result (λ v. verdict_in v ≡ verdict))
    (ap (of_named c.args.place c.in-Some.name.now (written.Text c.in-Some.value.now)) c.kind_named-kind.ensures
    ∙ ap (of_parts (options_in c.args.known.now.declared.now) c.args.place c.args.text.now) c.in-Some.ensures) c.of_named.ensures

use Rattle.std.proofs.Common.{sym, ◌∙◌, option_map, ap}
use Rattle.std.specs.Option.{option_or}
use Rattle.values.specs.language_names.Functions.{project_function_named}
use Rattle.values.specs.declared.language_names.functions.Function.TheVariants as functions
use Rattle.values.proofs.language_names.functions.function_named.Goals as goal

pub returns-in-Some : goal.returns-in-Some
returns-in-Some c =
    let other = option_map functions.OfProject (project_function_named c.args.name.now) in
    ap (λ r. option_or r other) (sym c.in-Some.is) ∙ c.named.ensures.other other

pub returns-in-None : goal.returns-in-None
returns-in-None c =
    let other = option_map functions.OfProject (project_function_named c.args.name.now) in
    c.of_project.ensures ∙ ap (option_map functions.OfProject) c.named-in-None.ensures.named
    ∙ ap (λ r. option_or r other) (sym c.in-None.is) ∙ c.named.ensures.other other

use Rattle.std.proofs.Common.{◌≡◌, ◌∙◌, ◌||◌, ap, ap₂}
use Rattle.std.proofs.lemmas.Result.{IfOk-weaker}
use Rattle.clap.specs.Words.{new_app, with_rule}
use Rattle.clap.specs.Simple.{app_of, app_of_fields}
use Rattle.command_line.proofs.definition.task.Goals as goal

pub returns-clause-app : goal.returns-clause-app
returns-clause-app c =
    let bare_is : app_of c.about.result ≡ new_app c.args.name.now = ap app_of_fields c.about.ensures ∙ c.new.ensures.app in
    IfOk-weaker c.arg-3.result _ _
    (λ command adds. adds.shape c.folder.ensures.local ∙ ap₂ with_rule
    (c.in_ok-arg-2.ensures.shape c.machine_file.ensures.local ∙ ap₂ with_rule
    (c.in_ok-arg.ensures.shape c.option.ensures.local ∙ ap₂ with_rule bare_is c.option.ensures.rule) c.machine_file.ensures.rule) c.folder.ensures.rule)
    c.arg-3.ensures

pub returns-clause-local : goal.returns-clause-local
returns-clause-local c =
    IfOk-weaker c.arg-3.result _ _
    (λ command adds. adds.globals ∙ ap₂ (λ a b. a || b)
    (c.in_ok-arg-2.ensures.globals ∙ ap₂ (λ a b. a || b)
    (c.in_ok-arg.ensures.globals ∙ ap₂ (λ a b. a || b)
    (ap (λ fields. fields.has_globals) c.about.ensures ∙ c.new.ensures.local) c.option.ensures.local) c.machine_file.ensures.local) c.folder.ensures.local)
    c.arg-3.ensures

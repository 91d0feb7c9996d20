use Rattle.std.proofs.Common.{ℕ, List, ◌≡◌, ◌∙◌, ap, true, codes}
use Rattle.std.proofs.lemmas.Result.{IfOk-weaker}
use Rattle.clap.specs.Words.{App, with_subcommand}
use Rattle.clap.specs.Simple.{app_of}
use Rattle.command_line.specs.CommandLine.{bare_app, task_app}
use Rattle.command_line.proofs.definition.command.Goals as goal

pub returns : goal.returns
returns c =
    let beside : App → (name : List ℕ) → App = λ app name. with_subcommand app (task_app name).top in
    let named_is : app_of c.in_ok-named.named ≡ bare_app =
    rw (c.in_ok-named.ensures.0, c.subcommand_required-bare.ensures, c.disable_help_subcommand.ensures, c.about.ensures)
    (ap (λ (a : App). record a { top = record a.top { disable_help_subcommand = true; subcommand_required = true } }) c.new.ensures.app) in
    let first_is : app_of c.in_ok-first.first ≡ beside bare_app (codes "setup") =
    c.in_ok-first.ensures ∙ ap (λ app. beside app (codes "setup")) named_is in
    let second_is : app_of c.in_ok-second.second ≡ beside (beside bare_app (codes "setup")) (codes "questions") =
    c.in_ok-second.ensures ∙ ap (λ app. beside app (codes "questions")) first_is in
    IfOk-weaker c.with_task-3.result _ _
    (λ command adds. adds ∙ ap (λ app. beside app (codes "fault")) second_is)
    c.with_task-3.ensures

use Rattle.std.proofs.Common.{◌∙◌, ap}
use Rattle.std.proofs.lemmas.Result.{IfOk-weaker}
use Rattle.clap.specs.Words.{App, with_subcommand}
use Rattle.clap.specs.Simple.{app_of}
use Rattle.command_line.proofs.definition.with_task.Goals as goal

pub returns : goal.returns
returns c =
    IfOk-weaker c.subcommand.result _ _
    (λ command adds. adds.shape c.in_ok-one.ensures.local
    ∙ ap (λ (a : App). with_subcommand (app_of c.args.whole) a.top) c.in_ok-one.ensures.app)
    c.subcommand.ensures

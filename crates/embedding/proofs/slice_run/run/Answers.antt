use Rattle.meson.specs.Tasks.{run_by}
use Rattle.world.specs.SettingsView.{settings_view}
use Rattle.embedding.specs.GivenView.{given_view}
use Rattle.embedding.proofs.Ran.{ends_stopped}
use Rattle.embedding.proofs.slice_run.run.Goals as goal

pub returns-clause-run : goal.returns-clause-run
returns-clause-run c = λ files options said means.
    ends_stopped c.args.task (given_view c.args.given.now) files options said c.args.room.now 0
    (run_by c.args.task files (settings_view c.in-Ok.settings) said) c.in-Err-keep_run.refused c.ending_at-in-Err-keep_run.result
    c.ending_at-in-Err-keep_run.ensures (c.in-Err-keep_run.ensures files said means.tree means.machine_file)

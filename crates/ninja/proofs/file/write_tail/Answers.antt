use Rattle.ports.specs.Outputs.{puts}
use Rattle.ninja.specs.Defaults.{default_outputs}
use Rattle.ninja.specs.Tail.{all_steps}
use Rattle.ninja.specs.Writing.{tail_text}
use Rattle.ninja.proofs.Puts.{writes_over}
use Rattle.ninja.proofs.TailSteps.{all_is}
use Rattle.ninja.proofs.file.write_tail.Goals as goal

pub returns : goal.returns
returns g c =
    writes_over (all_steps c.targets.result.now) (puts (tail_text (default_outputs c.args.project.now)))
    (all_is c.targets.result.now c.args.project.now.targets c.targets.ensures) c.write_all.ensures

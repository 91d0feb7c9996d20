use Rattle.std.proofs.Common.{ap}
use Rattle.methods.specs.Programs.{full_path}
use Rattle.methods.proofs.Values.{gives_as}
use Rattle.methods.proofs.programs.path_of.Goals as goal

pub returns : goal.returns
returns c = gives_as _ (ap (λ r. full_path r c.args.program.now) c.source_root.ensures) c.full_path.ensures

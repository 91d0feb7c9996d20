use Rattle.ports.specs.Outputs.{puts}
use Rattle.ninja.specs.Writing.{edge_text}
use Rattle.backend.proofs.Stopping.{writes_device, writes_wants}
use Rattle.backend.proofs.TargetTexts.{edge_for}
use Rattle.backend.proofs.build_file.write_compile.Goals as goal

pub returns-in_err-own : goal.returns-in_err-own
returns-in_err-own g c =
    writes_wants _ (g.O.Outputs.seen c.args.out.now) (puts (edge_text (edge_for c.args.parts.now c.args.input.now))) c.from_residual.ensures.1

pub returns-in_err-write_source : goal.returns-in_err-write_source
returns-in_err-write_source g c = writes_device _ c.from_residual-in_err-write_source.ensures.1 c.in_err-write_source.ensures

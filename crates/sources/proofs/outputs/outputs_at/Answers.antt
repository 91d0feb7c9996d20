use Rattle.std.proofs.Common.{ap, ◌∙◌}
use Rattle.std.specs.Prelude.{Some}
use Rattle.build.specs.edge.Texts.{texts}
use Rattle.build.proofs.LinkedLists.{paths_got, paths_missed}
use Rattle.sources.proofs.outputs.outputs_at.Goals as goal

pub returns-in-Some : goal.returns-in-Some
returns-in-Some c =
    ap (λ ps. Some (texts ps)) c.as_slice.ensures.value
    ∙ paths_got c.args.earlier.now c.args.number c.in-Some.linked.now c.in-Some.ensures.lookup.0 c.in-Some.ensures.lookup.1

pub returns-in-None : goal.returns-in-None
returns-in-None c = paths_missed c.args.earlier.now c.args.number c.in-None.ensures.lookup.0

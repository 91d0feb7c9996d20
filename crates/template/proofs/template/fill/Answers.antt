use Rattle.std.proofs.Common.{arith}
use Rattle.ports.specs.Tree.{bytes_at}
use Rattle.template.proofs.Passing.{fill_bytes}
use Rattle.template.specs.Given.{past}
use Rattle.template.proofs.Reading.{fill_given, nothing_left}
use Rattle.template.proofs.template.fill.Goals as goal

pub returns-clause-bytes : goal.returns-clause-bytes
returns-clause-bytes g c = λ steady. fill_bytes c.args.line.now c.read_at.new.buf (bytes_at (g.T.Tree.seen c.args.tree.now).files c.args.path.now) c.args.filled _ c.args.at _ c.read_at.result c.requires.filled c.read_at.auto.buf c.read_at.ensures.within (c.read_at.ensures.bytes steady)

pub returns-then-want-eq0-clause-given : goal.returns-then-want-eq0-clause-given
returns-then-want-eq0-clause-given g c = λ lt. past (nothing_left _ _ _ _ _ c.ask_for-want.ensures.some c.if-want-eq0.true lt)

pub returns-clause-given : goal.returns-clause-given
returns-clause-given g c = λ lt.
    fill_given g.T.Tree.gives c.args.path.now c.args.size c.args.at c.args.tree.now c.read_at.new.self c.args.line.now c.read_at.new.buf c.args.filled _ _ c.read_at.result c.requires.filled
    c.read_at.auto.buf (omega (arith, c.ask_for-want.ensures.room, c.if-want-eq0.false)) (omega (arith, c.ask_for-want.ensures.left, c.requires.at)) c.read_at.ensures.within c.read_at.ensures.gives

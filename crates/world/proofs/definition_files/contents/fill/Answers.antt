use Rattle.std.proofs.Common.{◌≤◌, ◌∙◌, length, take, drop, refl, ap, arith, rules}
use Rattle.std.proofs.lemmas.Grind.{common_steps}
use Rattle.ports.specs.Reading.{none}
use Rattle.ports.specs.Tree.{bytes_at}
use Rattle.world.proofs.Holding.{stays_on}
use Rattle.world.proofs.Pieces.{given_end, given_full, given_more, read_more}
use Rattle.world.proofs.definition_files.contents.fill.Goals as goal

pub loop-at-init : goal.loop-at-init
loop-at-init g c = record {
  within = omega arith;
  stays = search rules;
  failures = refl;
  bytes = λ files holds. refl;
  given = none;
}

pub loop-at-preserved : goal.loop-at-preserved
loop-at-preserved g c =
    let now = c.loop-at.invariant in
    let read = c.in_ok-count.ensures in
    let fits : c.in_ok-count.count ≤ length c.read_at.new.buf = grind (arith, common_steps) in
    record {
      within = grind (arith, common_steps);
      stays = stays_on now.stays read.asks.stays;
      failures = read.asks.failures ∙ now.failures;
      bytes = λ files holds.
          read_more c.loop-at.buffer c.read_at.new.buf (bytes_at files c.args.path.now) c.loop-at.at _ c.in_ok-count.count now.within fits (now.bytes files holds)
          ((read.bytes (now.stays.steady holds.steady)).bytes ∙ ap (λ all. take c.in_ok-count.count (drop c.loop-at.at (bytes_at all c.args.path.now))) (now.stays.files holds.steady ∙ holds.files));
      given = given_more g.T.Tree.gives c.args.path.now (length c.args.buffer.now) c.args.tree.now c.loop-at.buffer c.read_at.new.buf c.loop-at.at _ c.in_ok-count.count c.loop-at.tree
          c.read_at.new.self c.loop-at.auto.buffer now.within fits read.within now.given read.gives;
    }

pub returns-after-loop-at-clause-given : goal.returns-after-loop-at-clause-given
returns-after-loop-at-clause-given g c =
    let now = c.loop-at.invariant in
    given_full g.T.Tree.gives c.args.path.now (length c.args.buffer.now) c.args.tree.now c.loop-at.buffer c.loop-at.at c.loop-at.tree c.loop-at.auto.buffer now.within
    c.loop-at-test.false now.given

pub returns-then-count-eq0-clause-given : goal.returns-then-count-eq0-clause-given
returns-then-count-eq0-clause-given g c =
    given_end g.T.Tree.gives c.args.path.now (length c.args.buffer.now) c.args.tree.now c.loop-at.buffer c.read_at.new.buf c.loop-at.at _ c.in_ok-count.count c.loop-at.tree c.read_at.new.self
    c.loop-at.auto.buffer c.loop-at-test.true c.if-count-eq0.true c.loop-at.invariant.given c.in_ok-count.ensures.gives

pub returns-after-loop-at-clause-within : goal.returns-after-loop-at-clause-within
returns-after-loop-at-clause-within g c = grind (arith, common_steps)

pub returns-after-loop-at-clause-bytes : goal.returns-after-loop-at-clause-bytes
returns-after-loop-at-clause-bytes g c = grind (arith, common_steps)

pub returns-after-loop-at-clause-asks : goal.returns-after-loop-at-clause-asks
returns-after-loop-at-clause-asks g c = grind (arith, common_steps)

pub returns-then-count-eq0-clause-within : goal.returns-then-count-eq0-clause-within
returns-then-count-eq0-clause-within g c = grind (arith, common_steps)

pub returns-then-count-eq0-clause-bytes : goal.returns-then-count-eq0-clause-bytes
returns-then-count-eq0-clause-bytes g c = grind (arith, common_steps)

pub returns-then-count-eq0-clause-asks : goal.returns-then-count-eq0-clause-asks
returns-then-count-eq0-clause-asks g c = grind (arith, common_steps)

use Rattle.std.proofs.Common.{length, sym, ◌∙◌, ap}
use Rattle.values.specs.texts.Strip.{is_in}
use Rattle.values.proofs.StripLemmas.{last_none, last_kept, last_gone, shorter_back, before_last}
use Rattle.values.proofs.texts.ends.without_last.Goals as goal

pub returns-in_default : goal.returns-in_default
returns-in_default c =
    let empty = ap length (sym c.chars-left.ensures.rest) ∙ c.in_default.ensures.steps.0 in
    sym (last_none (is_in c.args.set.now) c.loop-last.rest.now empty) ∙ c.loop-last.invariant.1

pub returns-then-not-has : goal.returns-then-not-has
returns-then-not-has c =
    let rest = c.loop-last.rest.now in
    let front = c.as_str-front.result.now in
    let last = before_last rest _ _ front c.in-Some.last c.chars-left.ensures.rest c.in-Some.ensures.steps c.as_str-front.ensures in
    let stays = sym c.has.ensures ∙ c.if-not-has.true in
    sym (last_kept (is_in c.args.set.now) rest front c.in-Some.last c.loop-last.invariant.0 c.as_str-front.utf8 last stays)
    ∙ c.loop-last.invariant.1

pub loop-last-smaller : goal.loop-last-smaller
loop-last-smaller c =
    let rest = c.loop-last.rest.now in
    let front = c.as_str-front.result.now in
    shorter_back rest front c.in-Some.last
    (before_last rest _ _ front c.in-Some.last c.chars-left.ensures.rest c.in-Some.ensures.steps c.as_str-front.ensures)

pub loop-last-preserved : goal.loop-last-preserved
loop-last-preserved c =
    let rest = c.loop-last.rest.now in
    let front = c.as_str-front.result.now in
    let last = before_last rest _ _ front c.in-Some.last c.chars-left.ensures.rest c.in-Some.ensures.steps c.as_str-front.ensures in
    let goes = sym c.has.ensures ∙ c.if-not-has.false in
    let gone = last_gone (is_in c.args.set.now) rest front c.in-Some.last c.loop-last.invariant.0 c.as_str-front.utf8 last goes in
    (c.as_str-front.utf8, gone ∙ c.loop-last.invariant.1)

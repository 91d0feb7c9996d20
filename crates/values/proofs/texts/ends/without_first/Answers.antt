use Rattle.std.proofs.Common.{length, sym, ◌∙◌, ap}
use Rattle.values.specs.texts.Strip.{is_in}
use Rattle.values.proofs.StripLemmas.{first_none, first_kept, first_gone, shorter, behind_first}
use Rattle.values.proofs.texts.ends.without_first.Goals as goal

pub returns-in_default : goal.returns-in_default
returns-in_default c =
    let empty = ap length (sym c.chars-left.ensures.rest) ∙ c.in_default.ensures.steps.0.0 in
    sym (first_none (is_in c.args.set.now) c.loop-first.rest.now empty) ∙ c.loop-first.invariant.1

pub returns-then-not-has : goal.returns-then-not-has
returns-then-not-has c =
    let rest = c.loop-first.rest.now in
    let first = sym c.chars-left.ensures.rest ∙ c.in-Some.ensures.steps.0 in
    let stays = sym c.has.ensures ∙ c.if-not-has.true in
    sym (first_kept (is_in c.args.set.now) rest c.next.new.self.rest.now c.in-Some.first c.loop-first.invariant.0 first stays)
    ∙ c.loop-first.invariant.1

pub loop-first-smaller : goal.loop-first-smaller
loop-first-smaller c =
    let rest = c.loop-first.rest.now in
    let more = c.as_str-rest.result.now in
    shorter rest more c.in-Some.first
    (behind_first rest _ _ more c.in-Some.first c.chars-left.ensures.rest c.in-Some.ensures.steps.0 c.as_str-rest.ensures)

pub loop-first-preserved : goal.loop-first-preserved
loop-first-preserved c =
    let rest = c.loop-first.rest.now in
    let more = c.as_str-rest.result.now in
    let first = behind_first rest _ _ more c.in-Some.first c.chars-left.ensures.rest c.in-Some.ensures.steps.0 c.as_str-rest.ensures in
    let goes = sym c.has.ensures ∙ c.if-not-has.false in
    let gone = first_gone (is_in c.args.set.now) rest more c.in-Some.first c.loop-first.invariant.0 first goes in
    (c.as_str-rest.utf8, gone ∙ c.loop-first.invariant.1)

use Rattle.std.proofs.Common.{◌≡◌, ◌∙◌, ◌+◌, ◌<◌, ◌≤◌, ℕ, length, get_or, sym, ap, subst, arith}
use Rattle.std.specs.Str.Lines.{lines}
use Rattle.std.proofs.lemmas.Iterator.Consumers.{YieldsList-turn, YieldsList-end}
use Rattle.std.proofs.lemmas.Iterator.Splits.{YieldsList-from_lines}
use Rattle.std.proofs.lemmas.List.{length_push}
use Rattle.machine_file.specs.Files.{after}
use Rattle.machine_file.specs.View.{more_in, sections_in, said_in, said_by}
use Rattle.machine_file.proofs.Said.{line_refused, line_taken, lines_end}
use Rattle.machine_file.proofs.reader.read_lines.Goals as goal

pub returns-in-Err : goal.returns-in-Err
returns-in-Err c =
    let turn = YieldsList-turn (YieldsList-from_lines c.args.text.now cc) c.loop-line.yielded _ c.loop-line.yielded_by _ _ c.in-Some.line
    c.in-Some.is c.next.ensures.steps in
    let at = subst (λ (n : ℕ). (n < length (lines c.args.text.now))
    × (c.in-Some.line.now ≡ get_or (lines c.args.text.now) n c.in-Some.line.now)) (sym c.loop-line.invariant.counted) turn in
    line_refused (lines c.args.text.now) c.loop-line.number c.in-Some.line.now
    (said_by c.loop-line.reading.0.entries c.loop-line.reading.1.0) c.in-Err.detail.bytes.items c.loop-line.invariant.said at
    (ap more_in (sym c.in-Err.is) ∙ c.in_ok-more.ensures
    ∙ ap (after (said_by c.loop-line.reading.0.entries c.loop-line.reading.1.0) (c.loop-line.number + 1)) c.trim.ensures)

pub loop-line-preserved : goal.loop-line-preserved
loop-line-preserved c =
    let turn = YieldsList-turn (YieldsList-from_lines c.args.text.now cc) c.loop-line.yielded _ c.loop-line.yielded_by _ _ c.in-Some.line
    c.in-Some.is c.next.ensures.steps in
    let at = subst (λ (n : ℕ). (n < length (lines c.args.text.now))
    × (c.in-Some.line.now ≡ get_or (lines c.args.text.now) n c.in-Some.line.now)) (sym c.loop-line.invariant.counted) turn in
    record {
      fresh = c.in-Ok.more.fresh;
      counted = omega (arith, length_push c.loop-line.yielded c.in-Some.line, c.loop-line.invariant.counted);
      said = line_taken (lines c.args.text.now) c.loop-line.number c.in-Some.line.now
          (said_by c.loop-line.reading.0.entries c.loop-line.reading.1.0) (said_in c.in-Ok.more) c.loop-line.invariant.said at
          (ap more_in (sym c.in-Ok.is) ∙ c.in_ok-more.ensures
          ∙ ap (after (said_by c.loop-line.reading.0.entries c.loop-line.reading.1.0) (c.loop-line.number + 1)) c.trim.ensures);
    }

pub returns : goal.returns
returns c =
    let end = YieldsList-end (YieldsList-from_lines c.args.text.now cc) c.loop-line.yielded _ c.loop-line.yielded_by _ _ c.in-None.is
    c.next.ensures.steps in
    let last : length (lines c.args.text.now) ≤ c.loop-line.number = omega (arith, end.1, c.loop-line.invariant.counted) in
    lines_end (lines c.args.text.now) c.loop-line.number (said_by c.loop-line.reading.0.entries c.loop-line.reading.1.0)
    (sections_in c.in_ok-sections.sections.entries) c.loop-line.invariant.said last c.in_ok-sections.ensures

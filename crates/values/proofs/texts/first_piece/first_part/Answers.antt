use Rattle.std.proofs.Common.{◌≤◌, length, arith}
use Rattle.values.proofs.PiecesLemmas.{parts_none}
use Rattle.values.proofs.CutLemmas.{part_at}
use Rattle.values.proofs.texts.first_piece.first_part.Goals as goal

pub returns-in-Some-clause-first : goal.returns-in-Some-clause-first
returns-in-Some-clause-first c =
    let cases = c.in-Some.ensures.cases in
    let separator = c.args.separator.now in
    let text = c.args.text.now in
    let within : cases.0 ≤ length text = omega (arith, cases.5, cases.7) in
    part_at separator text c.in-Some.part.now c.in-Some.rest.now cases.0 cases.1 c.requires cases.2.0 cases.2.1.split cases.3 cases.4 within

pub returns-in-None-clause-first : goal.returns-in-None-clause-first
returns-in-None-clause-first c = parts_none c.args.separator.now c.args.text.now c.in-None.ensures.cases

use Rattle.std.proofs.Common.{◌≡◌, ◌<◌, false, length, All, arith}
use Rattle.std.specs.Prelude.{IfOk}
use Rattle.std.proofs.lemmas.Bool.Decides.{nat_tests}
use Rattle.std.proofs.lemmas.Result.{IfOk-weaker}
use Rattle.values.specs.texts.Answers.{pieces_in}
use Rattle.values.specs.texts.Joined.{joined_texts}
use Rattle.values.specs.texts.Pieces.{parts, within_items}
use Rattle.values.specs.texts.Search.{contains}
use Rattle.values.proofs.PartsLaws.{whole_answer, apart_answer}
use Rattle.values.proofs.texts.split.split_at.Goals as goal

pub returns-clause-whole : goal.returns-clause-whole
returns-clause-whole c =
    let separator = c.args.separator.now in
    let text = c.args.text.now in
    let filled : 0 < length separator = grind (arith, nat_tests) in
    IfOk-weaker c.cut_up.result (λ r. pieces_in r ≡ within_items (parts separator text))
    (λ r. IfOk (pieces_in r) (λ found. joined_texts separator found ≡ text))
    (λ r is. whole_answer separator text (pieces_in r) filled is) c.cut_up.ensures

pub returns-clause-apart : goal.returns-clause-apart
returns-clause-apart c =
    let separator = c.args.separator.now in
    let text = c.args.text.now in
    let filled : 0 < length separator = grind (arith, nat_tests) in
    IfOk-weaker c.cut_up.result (λ r. pieces_in r ≡ within_items (parts separator text))
    (λ r. IfOk (pieces_in r) (All (λ part. contains part separator ≡ false)))
    (λ r is. apart_answer separator text (pieces_in r) filled is) c.cut_up.ensures

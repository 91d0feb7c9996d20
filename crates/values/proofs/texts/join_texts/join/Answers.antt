use Rattle.std.proofs.Common.{◌+◌, ◌++◌, Err, map, sym, ◌∙◌, ap, arith}
use Rattle.std.proofs.lemmas.List.{append-nil}
use Rattle.values.specs.texts.Joined.{joined_texts}
use Rattle.values.proofs.JoinedLemmas.{pieces_from, no_pieces, next_piece, too_long, short_enough, grown}
use Rattle.values.proofs.texts.join_texts.join.Goals as goal

pub loop-piece-init : goal.loop-piece-init
loop-piece-init c =
    let appended = rw c.in_default-2.is at c.in_ok-refusal.ensures.pushed in (
      ap (λ ps. joined_texts c.args.separator.now (map (λ p. p.now) ps)) c.in-Some.ensures.cases.0
          ∙ ap (λ made. made ++ pieces_from c.args.separator.now c.in-Some.others.now 0)
          (sym (appended.0 ∙ ap (λ made. made ++ c.in-Some.first.now.now) c.empty-made.ensures)),
      appended.1,
    )

pub returns-in-Err-2 : goal.returns-in-Err-2
returns-in-Err-2 c =
    let refused = rw c.in-Err-2.is at c.in_ok-refusal-2.ensures in
    ap (λ e. Err e) refused.0
    ∙ too_long _ c.loop-piece.made _ (pieces_from c.args.separator.now c.in-Some.others.now (c.loop-piece.piece-index + 1))
    (c.loop-piece.invariant.0 ∙ ap (λ more. c.loop-piece.made ++ more)
    (next_piece c.args.separator.now c.in-Some.others.now c.loop-piece.piece-index _ c.loop-piece-test.true))
    refused.1

pub loop-piece-preserved : goal.loop-piece-preserved
loop-piece-preserved c =
    let appended = rw c.in_default-3.is at c.in_ok-refusal-2.ensures in (
      grown _ c.loop-piece.made _ (pieces_from c.args.separator.now c.in-Some.others.now (c.loop-piece.piece-index + 1)) _
          (c.loop-piece.invariant.0 ∙ ap (λ more. c.loop-piece.made ++ more)
          (next_piece c.args.separator.now c.in-Some.others.now c.loop-piece.piece-index _ c.loop-piece-test.true))
          appended.0,
      appended.1,
    )

pub returns : goal.returns
returns c =
    short_enough _ c.loop-piece.made
    (c.loop-piece.invariant.0 ∙ ap (λ more. c.loop-piece.made ++ more)
    (no_pieces c.args.separator.now c.in-Some.others.now c.loop-piece.piece-index (omega arith))
    ∙ append-nil c.loop-piece.made)
    c.loop-piece.invariant.1

use Rattle.std.proofs.Common.{◌+◌, Some, ◌∷◌, drop, ap, sym, ◌∙◌, arith}
use Rattle.values.specs.Data.{text}
use Rattle.values.specs.View.{data_of}
use Rattle.expressions.specs.Rounds.{entry_rounds}
use Rattle.expressions.proofs.Walking.{entry_behind, entry_there, values_within}
use Rattle.expressions.proofs.loops.entry_at.Goals as goal

pub returns-then-at-len : goal.returns-then-at-len
returns-then-at-len c = entry_behind c.args.dictionary.now c.args.at (omega (arith, c.if-at-len.true, c.len.ensures.len))

pub bounds-values-at : goal.bounds-values-at
bounds-values-at c = values_within c.values-values.result.now c.args.dictionary.now c.args.at c.values-values.ensures.values (omega (arith, c.if-at-len.false, c.len.ensures.len))

pub returns : goal.returns
returns c =
    entry_there c.args.dictionary.now c.args.at c.in_ok-key.key c.values-values.result.now c.index-values-at.result (omega (arith, c.if-at-len.false, c.len.ensures.len))
    (c.key.ensures ∙ ap Some (sym c.in_ok-key.ensures.cases)) c.values-values.ensures.values
    ∙ ap (λ d. (text c.in_ok-key.key, Some d) ∷ drop (c.args.at + 1) (entry_rounds c.args.dictionary.now)) (sym (c.in_ok-value.ensures.cases ∙ ap data_of c.index-values-at.is))

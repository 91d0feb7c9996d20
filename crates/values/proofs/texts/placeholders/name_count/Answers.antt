use Rattle.std.proofs.Common.{sym, ◌∙◌, length, arith}
use Rattle.values.specs.texts.Segments.{is_name_byte}
use Rattle.std.proofs.lemmas.List.Sums.{prefix_len_is}
use Rattle.values.proofs.texts.placeholders.name_count.Goals as goal

pub returns-then-not-is_name_byte-clause-count : goal.returns-then-not-is_name_byte-clause-count
returns-then-not-is_name_byte-clause-count c = sym (prefix_len_is is_name_byte c.args.bytes.now c.loop-i.i 0
    (omega arith) c.loop-i.invariant (λ _. sym c.is_name_byte.ensures ∙ c.if-not-is_name_byte.true))

pub returns-clause-count : goal.returns-clause-count
returns-clause-count c = sym (prefix_len_is is_name_byte c.args.bytes.now (length c.args.bytes.now) 0 (omega arith)
    (λ k h. c.loop-i.invariant k (omega arith)) (λ h. absurd (omega arith)))

use Rattle.std.proofs.Common.{◌∙◌, sym, ap}
use Rattle.values.specs.texts.Number.{is_numeral}
use Rattle.values.proofs.NumberLemmas.{out_of_range}
use Rattle.values.proofs.texts.number.to_int.Goals as goal

pub returns-in-Err : goal.returns-in-Err
returns-in-Err c =
    sym (out_of_range c.args.text.now (sym (c.is_numeral.ensures ∙ ap is_numeral c.as_bytes.ensures.value)
    ∙ c.if-not-is_numeral.false) c.in-Err.ensures.value.0)

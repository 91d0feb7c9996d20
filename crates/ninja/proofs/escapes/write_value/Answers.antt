use Rattle.std.proofs.Common.{◌++◌, sym}
use Rattle.ports.specs.Outputs.{puts}
use Rattle.ninja.specs.Escapes.{leading_dollar, value_rest_text, value_text}
use Rattle.ninja.proofs.Puts.{puts-append, writes_over}
use Rattle.ninja.proofs.escapes.write_value.Goals as goal

pub returns : goal.returns
unfolding value_text
returns g c =
    let value = c.args.value.now in
    writes_over (puts (leading_dollar value) ++ puts (value_rest_text value)) (puts (value_text value))
    (sym (puts-append (leading_dollar value) (value_rest_text value))) (rw c.as_bytes.ensures.value at c.write_value_bytes.ensures)

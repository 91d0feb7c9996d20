use Rattle.std.proofs.Common.{sym, ap, ◌∙◌, slice_get, arith}
use Rattle.std.proofs.lemmas.Grind.{common_steps}
use Rattle.std.proofs.lemmas.Option.{gets}
use Rattle.std.proofs.lemmas.Str.{chars-IsAscii}
use Rattle.values.proofs.long_text.ascii_char_at.Goals as goal

pub returns-in_err-byte : goal.returns-in_err-byte
returns-in_err-byte c =
    (let bytes = c.as_bytes.ensures.value in let past = c.in_err-byte.ensures.lookup in let none = c.from_residual.ensures in grind (arith, common_steps, gets))
    ∙ ap (λ cs. slice_get cs c.args.at) (sym (chars-IsAscii c.args.text.now c.requires))

pub returns : goal.returns
returns c =
    (let bytes = c.as_bytes.ensures.value in let found = c.in_ok-byte.ensures.lookup in grind (arith, common_steps, gets))
    ∙ ap (λ cs. slice_get cs c.args.at) (sym (chars-IsAscii c.args.text.now c.requires))

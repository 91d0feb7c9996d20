use Rattle.std.proofs.Common.{None, false-eqb}
use Rattle.std.proofs.lemmas.Str.Pattern.{strip_prefix_char}
use Rattle.std.proofs.Common.{lit<}
use Rattle.machine_file.proofs.Forms.{pair_form}
use Rattle.machine_file.proofs.line.form_of.Goals as goal

pub returns-in-None : goal.returns-in-None
returns-in-None c = pair_form c.args.line.now c.as_bytes-bytes.result.now c.as_bytes-bytes.ensures.value
    (false-eqb _ 0 c.if-is_empty.ensures) c.if-bytes-eq35.false (strip_prefix_char 91 c.args.line.now None c.in-None.ensures.cases
    (lit< tt))

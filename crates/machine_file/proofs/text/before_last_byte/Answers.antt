use Rattle.std.proofs.lemmas.Str.Pattern.{strip_suffix_char}
use Rattle.machine_file.proofs.Cutting.{stripped_last}
use Rattle.machine_file.proofs.text.before_last_byte.Goals as goal

pub returns : goal.returns
returns c = stripped_last c.args.last c.args.text.now c.strip_suffix.result
    (strip_suffix_char c.args.last c.args.text.now c.strip_suffix.result c.strip_suffix.ensures.cases c.requires)

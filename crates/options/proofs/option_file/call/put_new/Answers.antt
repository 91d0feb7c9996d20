use Rattle.std.proofs.Common.{◌∙◌, ap, string_bytes}
use Rattle.std.specs.Prelude.{not}
use Rattle.options.proofs.Arguments.{among_strings}
use Rattle.options.proofs.option_file.call.put_new.Goals as goal

pub returns-clause-tested : goal.returns-clause-tested
returns-clause-tested c = c.in_ok-new.ensures.added ∙ ap not (among_strings (string_bytes c.args.key) c.args.keys.now.keys)

use Rattle.std.proofs.Common.{◌∙◌, ap, string_bytes}
use Rattle.std.specs.Prelude.{not}
use Rattle.arguments.proofs.Names.{any_name}
use Rattle.arguments.proofs.reader.put_new.Goals as goal

pub returns-clause-tested : goal.returns-clause-tested
returns-clause-tested c = c.in_ok-new.ensures.added ∙ ap not (any_name (string_bytes c.args.name) c.args.names.now.keys)

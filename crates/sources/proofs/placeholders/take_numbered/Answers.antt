use Rattle.std.proofs.Common.{sym, ◌∙◌}
use Rattle.sources.proofs.Numbers.{IsNumeral-from_test}
use Rattle.sources.proofs.placeholders.take_numbered.Goals as goal

pub path_at-requires : goal.path_at-requires
path_at-requires c = IsNumeral-from_test c.args.digits.now (sym c.is_number.ensures ∙ c.if-is_number.true)

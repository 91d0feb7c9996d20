use Rattle.std.proofs.Common.{◌∙◌}
use Rattle.option_values.proofs.Known.{any_string}
use Rattle.option_values.proofs.choices.Choices.has.Goals as goal

pub returns : goal.returns
returns c = c.contains.ensures ∙ any_string c.args.text.now c.args.self.now.known.keys ∙ c.args.self.now.same c.args.text.now

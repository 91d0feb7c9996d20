use Rattle.std.proofs.Common.{◌∙◌, ap}
use Rattle.options.specs.option_file.View.{options_in}
use Rattle.options.specs.Verdicts.{or_declared, kind_named}
use Rattle.options.proofs.known_options.Known.kind_named.Goals as goal

pub returns-in-Some : goal.returns-in-Some
unfolding kind_named
returns-in-Some c = ap (or_declared (options_in c.args.self.now.declared.now) c.args.name.now) c.in-Some.ensures

pub returns-in-None : goal.returns-in-None
unfolding kind_named
returns-in-None c = c.declared_kind.ensures ∙ ap (or_declared (options_in c.args.self.now.declared.now) c.args.name.now) c.in-None.ensures

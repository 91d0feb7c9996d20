use Rattle.options.proofs.Lookups.{built_in_found}
use Rattle.options.proofs.known_options.Known.built_in_kind.Goals as goal

pub returns : goal.returns
returns c = built_in_found c.args.name.now c.args.self.now.built_ins.entries c.get.result c.args.self.now.are c.get.ensures.value

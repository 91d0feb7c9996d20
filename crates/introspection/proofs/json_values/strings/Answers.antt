use Rattle.std.proofs.Common.{string_bytes, refl}
use Rattle.build.specs.edge.Texts.{texts}
use Rattle.serde_json.specs.Data.{string}
use Rattle.introspection.proofs.Lists.{list_shown}
use Rattle.introspection.proofs.json_values.strings.Goals as goal

pub returns : goal.returns
returns c = list_shown string string_bytes c.list_of.result c.args.items.now (texts c.args.items.now) refl c.list_of.ensures

use Rattle.std.proofs.Common.{sym, ◌∙◌, bytes_eq, string_bytes}
use Rattle.build.proofs.TextLists.{list_any-map}
use Rattle.build.proofs.edge.texts.holds.Goals as goal

pub returns : goal.returns
returns c = c.contains.ensures ∙ sym (list_any-map (bytes_eq c.args.text.now) string_bytes c.args.set.now.keys)

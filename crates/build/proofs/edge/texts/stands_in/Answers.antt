use Rattle.std.proofs.Common.{sym, ◌∙◌, bytes_eq, string_bytes}
use Rattle.build.proofs.TextLists.{list_any-map}
use Rattle.build.proofs.edge.texts.stands_in.Goals as goal

pub returns : goal.returns
returns c = c.is_one_of.ensures ∙ sym (list_any-map (bytes_eq c.args.text.now) string_bytes c.args.list.now)

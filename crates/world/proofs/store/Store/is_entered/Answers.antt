use Rattle.std.proofs.Common.{ap, ◌∙◌, bytes_eq}
use Rattle.std.specs.Prelude.{is_some}
use Rattle.std.specs.List.{list_any}
use Rattle.world.proofs.Setting.{is_named}
use Rattle.world.proofs.store.Store.is_entered.Goals as goal

pub returns : goal.returns
returns c = c.is_some.ensures ∙ ap is_some c.number_of.ensures ∙ is_named c.args.folder.now c.self.inside.entered ∙ ap (λ k. list_any (bytes_eq c.args.folder.now) k.entered) c.self.view_is

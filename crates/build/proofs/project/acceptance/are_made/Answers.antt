use Rattle.std.proofs.Common.{sym, ◌∙◌}
use Rattle.build.specs.edge.Texts.{texts}
use Rattle.build.proofs.TextLists.{texts-list_all}
use Rattle.build.specs.project.World.{is_made_in}
use Rattle.build.proofs.project.acceptance.are_made.Goals as goal

pub returns : goal.returns
returns c = c.each_is_made.ensures ∙ sym (texts-list_all (is_made_in (texts c.args.taken.now.keys)) c.args.paths.now)

use Rattle.std.proofs.Common.{take, ap, ◌∙◌, arith}
use Rattle.std.proofs.lemmas.List.{with_items_is}
use Rattle.world.proofs.Pieces.{given_same}
use Rattle.world.proofs.definition_files.contents.read_file.Goals as goal

pub returns-clause-given : goal.returns-clause-given
returns-clause-given g c =
    let size = c.deref_mut.ensures.len ∙ c.in_ok-buffer.ensures.len in
    let read = with_items_is c.in_ok-buffer.buffer c.fill.new.buffer (omega (arith, c.fill.auto.buffer, c.deref_mut.ensures.len)) in
    given_same g.T.Tree.gives c.args.path.now _ c.args.size c.args.tree.now _ _ c.fill.new.tree size (c.truncate.ensures.items ∙ ap (take c.in_ok-count.count) read) c.in_ok-count.ensures.given

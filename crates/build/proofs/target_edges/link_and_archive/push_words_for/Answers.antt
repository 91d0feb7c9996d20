use Rattle.std.proofs.Common.{string_bytes, ap, ◌∙◌}
use Rattle.build.specs.edge.Texts.{texts}
use Rattle.build.specs.target_edges.Words.{search_word}
use Rattle.build.proofs.TextLists.{mapped_more}
use Rattle.build.proofs.target_edges.link_and_archive.push_words_for.Goals as goal

pub loop-folder-preserved : goal.loop-folder-preserved
loop-folder-preserved c =
    mapped_more string_bytes (search_word c.args.from.now) (texts c.args.words.now.items) c.loop-folder.words.items c.push.new.self.items c.in_ok-word.word c.args.folders.now c.loop-folder.folder-index
    c.folder-item.result c.loop-folder-test.true c.folder-item.is (c.in_ok-word.ensures ∙ ap (search_word c.args.from.now) c.deref.ensures) c.in_ok-push.ensures.items c.loop-folder.invariant

use Rattle.std.proofs.Common.{◌≡◌, ◌++◌, map, take}
use Rattle.build.specs.edge.Texts.{texts}
use Rattle.build.specs.target_edges.Words.{search_word}
use Rattle.build.proofs.target_edges.link_and_archive.push_words_for.Given as goal

abbrev pub invariant-loop-folder : goal.invariant-loop-folder
invariant-loop-folder l = texts l.words.items ≡ texts l.fn.words.items ++ map (search_word l.from) (texts (take l.folder-index l.folders))

use Rattle.std.proofs.Common.{◌≡◌, ◌++◌, take}
use Rattle.std.specs.Prelude.{flat_map}
use Rattle.build.specs.edge.Texts.{texts}
use Rattle.build.specs.target_edges.Words.{include_words}
use Rattle.build.proofs.target_edges.compile_words.push_includes.Given as goal

abbrev pub invariant-loop-folder : goal.invariant-loop-folder
invariant-loop-folder l = texts l.words.items ≡ texts l.fn.words.items ++ flat_map (include_words l.depth) (texts (take l.folder-index l.folders))

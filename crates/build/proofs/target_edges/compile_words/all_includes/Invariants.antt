use Rattle.std.proofs.Common.{◌≡◌, ◌++◌, take, string_bytes}
use Rattle.std.specs.Prelude.{flat_map}
use Rattle.build.specs.edge.Texts.{texts}
use Rattle.build.specs.target_edges.Words.{include_words}
use Rattle.build.proofs.target_edges.compile_words.all_includes.Given as goal

abbrev pub invariant-loop-lists : goal.invariant-loop-lists
invariant-loop-lists l =
    texts l.words.items
    ≡ (include_words l.depth (string_bytes l.target.folder) ++ flat_map (include_words l.depth) (texts l.target.own.include_folders.items))
    ++ flat_map (λ d. flat_map (include_words l.depth) (texts d.value.include_folders.items)) (take l.lists-index l.target.dependencies.items)

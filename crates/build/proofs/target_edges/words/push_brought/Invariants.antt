use Rattle.std.proofs.Common.{◌≡◌, ◌++◌, take}
use Rattle.std.specs.Prelude.{flat_map}
use Rattle.build.specs.edge.Texts.{texts}
use Rattle.build.specs.View.{lists_view}
use Rattle.build.specs.target_edges.Words.{texts_of}
use Rattle.build.proofs.target_edges.words.push_brought.Given as goal

abbrev pub invariant-loop-lists : goal.invariant-loop-lists
invariant-loop-lists l =
    texts l.words.items ≡ texts l.fn.words.items ++ flat_map (λ d. texts_of l.what (lists_view d.value)) (take l.lists-index l.target.dependencies.items)

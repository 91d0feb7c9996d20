use Rattle.std.proofs.Common.{◌≡◌, [], map, drop}
use Rattle.arguments.specs.Each.{each_said}
use Rattle.support.specs.paths.Folder.{strings_of}
use Rattle.world.specs.HereView.{here_view}
use Rattle.target_calls.specs.Files.{named_by}
use Rattle.target_calls.proofs.tree.paths_named.Given as goal

-- the paths so far and the texts that are left decide
abbrev pub invariant-loop-text : goal.invariant-loop-text
invariant-loop-text l =
    each_said (named_by (here_view l.here) l.wanted) (strings_of l.paths) (map (λ t. t.now) (drop l.text-index l.texts))
    ≡ each_said (named_by (here_view l.here) l.wanted) [] (map (λ t. t.now) l.texts)

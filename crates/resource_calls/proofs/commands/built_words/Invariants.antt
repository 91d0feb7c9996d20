use Rattle.std.proofs.Common.{◌≡◌, ◌++◌, map, drop}
use Rattle.build.specs.edge.Texts.{texts}
use Rattle.support.specs.paths.Below.{path_below}
use Rattle.world.specs.HereView.{here_view}
use Rattle.resource_calls.proofs.commands.built_words.Given as goal

-- what is there and what is left are all
abbrev pub invariant-loop-path : goal.invariant-loop-path
invariant-loop-path l =
    texts l.words.items ++ map (path_below (here_view l.here).build_root) (texts (drop l.path-index l.paths))
    ≡ map (path_below (here_view l.here).build_root) (texts l.paths)

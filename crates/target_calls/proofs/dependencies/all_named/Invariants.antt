use Rattle.std.proofs.Common.{◌≡◌, ◌++◌, map, drop}
use Rattle.sources.specs.SourcesView.{named_view}
use Rattle.target_calls.specs.Dependencies.{named_of}
use Rattle.target_calls.proofs.dependencies.all_named.Given as goal

-- what is there and what is left are all
abbrev pub invariant-loop-source : goal.invariant-loop-source
invariant-loop-source l = map named_view l.named.items ++ map named_of (drop l.source-index l.sources) ≡ map named_of l.sources

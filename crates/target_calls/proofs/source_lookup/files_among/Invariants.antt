use Rattle.std.proofs.Common.{◌≡◌, map, take}
use Rattle.std.specs.Prelude.{flat_map}
use Rattle.build.specs.edge.Texts.{texts}
use Rattle.sources.specs.SourcesView.{named_view}
use Rattle.target_calls.specs.Sources.{file_in}
use Rattle.target_calls.proofs.source_lookup.files_among.Given as goal

abbrev pub invariant-loop-one : goal.invariant-loop-one
invariant-loop-one l = texts l.files.items ≡ flat_map file_in (map named_view (take l.one-index l.named))

use Rattle.std.proofs.Common.{sym, ◌∙◌}
use Rattle.build.specs.edge.Holding.{is_path}
use Rattle.build.specs.DeclaredTargetViews.{declared_target_views}
use Rattle.build.specs.target_edges.Words.{library_file}
use Rattle.build.proofs.HoldingWords.{flat_all}
use Rattle.build.proofs.target_edges.link_and_archive.libraries_are_held.Goals as goal

pub returns : goal.returns
returns c = c.each_library_is_held.ensures ∙ sym (flat_all is_path (library_file (declared_target_views c.args.earlier.now)) c.args.numbers.now)

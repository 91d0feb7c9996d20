use Rattle.build.specs.project.World.{edges_in}
use Rattle.ninja.specs.Defaults.{default_outputs}
use Rattle.backend.proofs.DefaultPaths.{defaults_are_paths}
use Rattle.backend.proofs.FileEdges.{once_with_all, defaults_held, all_before, no_circle_read}
use Rattle.backend.proofs.law.meaning.Goals as goal

pub returns : goal.returns
returns c =
    let w = c.args.project.now in
    let writable = c.edges_are_writable.ensures in
    let paths = defaults_are_paths w.surroundings w.targets writable in
    let once = c.outputs_differ.ensures in
    let made = c.needs_are_made.ensures in
    let asked = defaults_held w.surroundings w.targets in
    record {
      read = c.file_law.ensures.read (edges_in w) (default_outputs w) writable paths;
      runs = c.file_law.ensures.runs (edges_in w) (default_outputs w) writable;
      once = once_with_all w once;
      made = all_before w made asked;
      asked = asked;
      no_circle = no_circle_read w once made asked c.no_circle.ensures;
    }

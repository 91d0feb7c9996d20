use Rattle.ports.proofs.Files.{known_more}
use Rattle.ports.proofs.memory.tree.known_paths.Goals as goal

pub loop-path-preserved : goal.loop-path-preserved
loop-path-preserved c = λ path.
    known_more path c.loop-path.known.keys c.insert.new.self.keys c.in-Some.path c.loop-path.yielded c.in_ok-insert.ensures.keys
    (c.loop-path.invariant path)

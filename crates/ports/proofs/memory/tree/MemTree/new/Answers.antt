use Rattle.std.proofs.Common.{◌∙◌}
use Rattle.ports.proofs.Files.{file_at-moved}
use Rattle.ports.proofs.memory.tree.MemTree.new.Goals as goal

pub loop-path-preserved : goal.loop-path-preserved
loop-path-preserved c = λ path. file_at-moved path _ _ _ _ _ _ c.in-Some.ensures.items c.in_ok-insert.ensures.entries
    ∙ c.loop-path.invariant path

use Rattle.std.proofs.Common.{refl, sym, ◌∙◌, arith}
use Rattle.byte_devices.proofs.Named.{absent}
use Rattle.byte_devices.proofs.SpelledTree.{one_read, no_next, read_before, some_left}
use Rattle.byte_devices.proofs.tree.SliceTree.new.Goals as goal
use Rattle.byte_devices.proofs.tree.SliceTree.new.Goals.{then-path_at-paths-via-then-path_at-paths, then-path_at-paths-via-else-path_at-paths+then-byte_at-contents}

pub returns-in_default-clause-bad : goal.returns-in_default-clause-bad
returns-in_default-clause-bad c = λ _. no_next _ _ _ _ _ _ _ _ c.loop-size.invariant c.loop-size-test.true refl c.in_default.ensures.none

pub returns-then-has-clause-bad : goal.returns-then-has-clause-bad
returns-then-has-clause-bad c =
    λ _. read_before _ _ _ _ _ _ _ _ _ _ c.loop-size.invariant c.loop-size-test.true refl c.in-Some.ensures.some (sym c.has.ensures ∙ c.if-has.true)

pub loop-size-preserved : goal.loop-size-preserved
loop-size-preserved c = one_read _ _ _ _ _ _ _ _ _ _ _ c.loop-size.invariant c.loop-size-test.true refl c.in-Some.ensures.some (absent _ (sym c.has.ensures ∙ c.if-has.false)) c.in_ok-add.ensures

pub returns-then-path_at-paths-clause-bad : goal.returns-then-path_at-paths-clause-bad
returns-then-path_at-paths-clause-bad c =
    λ _. some_left _ _ _ _ _ _ _ c.loop-size.invariant c.loop-size-test.false
    (elim c.then-path_at-paths.branch [
      | then-path_at-paths-via-then-path_at-paths w ↦ λ p q. omega (arith, w.if-path_at-paths)
      | then-path_at-paths-via-else-path_at-paths+then-byte_at-contents w ↦ λ p q. omega (arith, w.if-byte_at-contents)
    ])

use Rattle.std.proofs.Common.{subst}
use Rattle.world.specs.Answering.{Carries}
use Rattle.world.specs.Caller.{state_of}
use Rattle.world.specs.Deed.{required_file}
use Rattle.world.proofs.Answering.{carries_none}
use Rattle.world.proofs.caller.Caller.require_file.Goals as goal

pub returns-in_err-path : goal.returns-in_err-path
returns-in_err-path g c = carries_none c.from_residual.ensures.1

pub returns : goal.returns
returns g c =
    subst (λ p. Carries (λ u. u) (required_file p) (state_of g.T.Tree.seen g.O.Outputs.seen c.args.self.now)
    c.require_own_file.result (state_of g.T.Tree.seen g.O.Outputs.seen c.require_own_file.new.self))
    c.in_ok-path.ensures.ok c.require_own_file.ensures

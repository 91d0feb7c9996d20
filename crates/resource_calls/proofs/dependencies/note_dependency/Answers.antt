use Rattle.std.proofs.Common.{Some, ap}
use Rattle.values.specs.Data.{object}
use Rattle.world.specs.Declaring.{add_dependency}
use Rattle.world.specs.Deed.{give}
use Rattle.world.proofs.Answering.{carries_as, carries_none, carries_stop, carries_then}
use Rattle.resource_calls.specs.Dependency.{note_dependency}
use Rattle.resource_calls.proofs.dependencies.note_dependency.Goals as goal

pub returns-in_err-answer : goal.returns-in_err-answer
returns-in_err-answer g c = carries_none c.from_residual.ensures.1

pub returns-in_err-add_dependency : goal.returns-in_err-add_dependency
unfolding note_dependency
returns-in_err-add_dependency g c =
    carries_stop (carries_as (ap add_dependency c.in_ok-answer.ensures) c.in_err-add_dependency.ensures)
    c.from_residual-in_err-add_dependency.ensures.1

pub returns : goal.returns
unfolding note_dependency
returns g c =
    carries_then (carries_as (ap add_dependency c.in_ok-answer.ensures) c.in_ok-add_dependency.ensures)
    (carries_as (ap (λ o. give (Some (object o))) c.object_or.ensures) c.return_object.ensures)

use Rattle.std.proofs.Common.{Bor, List, ℕ, option_map, ap, refl, sym}
use Rattle.world.proofs.Answering.{carries_as, carries_give, carries_refuse}
use Rattle.project_calls.specs.Project.{only_c}
use Rattle.project_calls.proofs.project_call.refuse_other.Goals as goal

pub returns-in-None : goal.returns-in-None
unfolding only_c
returns-in-None g c = carries_as (ap (λ o. only_c (option_map (λ (l : Bor (List ℕ)). l.now) o)) (sym c.in-None.is)) (carries_give refl)

pub returns-in-Some : goal.returns-in-Some
unfolding only_c
returns-in-Some g c = carries_as (ap (λ o. only_c (option_map (λ (l : Bor (List ℕ)). l.now) o)) (sym c.in-Some.is)) (carries_refuse c.refuse_for.ensures)

-- Calls that declare what a project has, against their deeds.
use Rattle.std.proofs.Common.{◌≡◌, ℕ, List, Result, Ok, Err, ap, refl}
use Rattle.ports.specs.Outputs.{OutputState}
use Rattle.ports.specs.Tree.{TreeState}
use Rattle.build.specs.project.World.{WorldData}
use Rattle.build.specs.project.Refused.{RefusedData, answer_data}
use Rattle.build.specs.declared.project.refusal.ProjectError.{ProjectError}
use Rattle.world.specs.Answering.{State, Carries, IsAllowed}
use Rattle.world.specs.Declaring.{project_answer, project_declaration}
use Rattle.world.specs.Store.{world_after_change}
use Rattle.world.specs.World.{KeepsPaths, World, facts_after_declaration}
use Rattle.world.specs.declared.stop.Stop.{Stop}
use Rattle.world.proofs.Answering.{carries_as, carries_change, carries_give, carries_read, carries_refuse, carries_same, carries_then}

-- what the project answers
pub carries_allowed : {A : Type 0} (answer : Result A ProjectError) {s : State} {result : Result A Stop} → IsAllowed s.world answer result → Carries (λ a. a) (project_answer (answer_data answer)) s result s
unfolding project_answer
carries_allowed (Ok x) is = carries_same is (carries_give refl)
carries_allowed (Err refused) is = carries_refuse is

-- the project answered, and became what the call makes of it
pub carries_declared : {A : Type 0} (answer : WorldData → Result A RefusedData) (after : WorldData → WorldData) (keeps : KeepsPaths after) {w w1 : World} {names names1 : List (List ℕ)} {tree : TreeState} {out : OutputState}
    {lent : ℕ × ℕ × ℕ} (given : Result A ProjectError) {result : Result A Stop} → answer_data given ≡ answer w.facts.project → w1 ≡ world_after_change (facts_after_declaration after) w → names1 ≡ names → IsAllowed w1 given result
    → Carries (λ a. a) (project_declaration answer after keeps) (record { world = w; names = names; tree = tree; out = out; lent = lent }) result (record { world = w1; names = names1; tree = tree; out = out; lent = lent })
unfolding project_declaration
carries_declared answer after keeps given is changed named allows =
    carries_read (carries_then {view = λ u. u} {x = tt} (carries_change changed named) (carries_as (ap project_answer is) (carries_allowed given allows)))

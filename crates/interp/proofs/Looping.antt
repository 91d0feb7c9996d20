-- Loops over values that a loop can progress.
use Rattle.std.proofs.Common.{◌≡◌, ℕ, ◌≤◌, Bool, true, false, List, [], length, Option, Some, None, Ok, Err, is_some, option_map, refl, sym}
use Rattle.std.proofs.Common.{ap, ◌∙◌, arith}
use Rattle.std.specs.Prelude.{nat_le}
use Rattle.std.proofs.lemmas.Bool.Decides.{nat_tests}
use Rattle.values.specs.Data.{Data}
use Rattle.support.specs.declared.faults.refusal.Refusal.{Refusal}
use Rattle.world.specs.Plan.{Plan, refuse}
use Rattle.expressions.specs.Rounds.{HasFewRounds, Loops, rounds_in, Round, loop_rounds}
use Rattle.interp.specs.Statements.{rounds_of, rounds_within, rounds_if}
use Rattle.interp.specs.declared.flow.Flow.{Flow}

is_some-map : {A B : Type 0} (f : A → B) (o : Option A) → is_some (option_map f o) ≡ is_some o
is_some-map f None = refl
is_some-map f (Some x) = refl

counted : (line : ℕ) (round : Round → Plan Flow) (rs : List Round) (b : Bool) → nat_le (length rs) 65536 ≡ b → length rs ≤ 65536 → rounds_of round rs ≡ rounds_if b line (rounds_of round rs)
counted line round rs true e h = refl
counted line round rs false e h = absurd (grind (arith, nat_tests, e, h))

-- few rounds are never refused
allowed : (few : Bool) (line : ℕ) (round : Round → Plan Flow) (rs : List Round) → length rs ≤ 65536 → rounds_of round rs ≡ rounds_within few line round (Ok rs)
allowed false line round rs h = refl
allowed true line round rs h = counted line round rs (nat_le (length rs) 65536) refl h

-- so it is walked
pub walks : {A : Type 0} (few has : Bool) (d : Data) (line : ℕ) (round : Round → Plan Flow) (f : A → List ℕ) (second : Option A) → has ≡ is_some second → Loops has d (Ok tt) → HasFewRounds d
    → rounds_of round (rounds_in d) ≡ rounds_within few line round (loop_rounds (option_map f second) d)
walks few has d line round f second is h small =
    allowed few line round (rounds_in d) small ∙ ap (rounds_within few line round) (sym (h (option_map f second) (is_some-map f second ∙ sym is)))

-- or it is refused
pub walks_not : {A : Type 0} (few has : Bool) (d : Data) (line : ℕ) (round : Round → Plan Flow) (f : A → List ℕ) (second : Option A) (refusal : Refusal) → has ≡ is_some second → Loops has d (Err refusal)
    → refuse line refusal [] ≡ rounds_within few line round (loop_rounds (option_map f second) d)
walks_not few has d line round f second refusal is h = ap (rounds_within few line round) (sym (h (option_map f second) (is_some-map f second ∙ sym is)))

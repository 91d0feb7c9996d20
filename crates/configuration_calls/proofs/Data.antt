-- Merged configuration data, and what tests answer.
use Rattle.std.proofs.Common.{◌≡◌, ℕ, Bool, true, false, Ok, Err, List, Option, Some, None, option_map, is_some, Result, IfOk, refl, sym}
use Rattle.std.proofs.Common.{subst, ◌∙◌}
use Rattle.std.specs.Prelude.{if◌then◌else◌}
use Rattle.std.specs.declared.alloc.AllocError.{AllocError}
use Rattle.support.specs.Limits.{is_short}
use Rattle.values.specs.Limits.{within_bytes}
use Rattle.values.specs.declared.refusal.OperationRefusal.{OperationRefusal as OperationRefusal}
use Rattle.values.specs.declared.refusal.OperationRefusal.TheVariants as refusal
use Rattle.template.specs.Config.{Configuration, unfrozen_configuration}
use Rattle.world.specs.Answering.{IsAnswered}
use Rattle.world.specs.World.{World}
use Rattle.world.specs.Configuring.{merge_configured}

pub is_some-map : {A B : Type 0} (f : A → B) (o : Option A) → is_some o ≡ is_some (option_map f o)
is_some-map f None = refl
is_some-map f (Some x) = refl

-- a copy is merged as the data themselves are
pub merged_same : (number : ℕ) (c : Configuration) → merge_configured number (unfrozen_configuration c.entries) ≡ merge_configured number c
unfolding merge_configured
merged_same number c = refl

-- the same list, written otherwise
pub list_as : {X A : Type 0} (view : X → A) {xs ys : A} (r : Result X AllocError) → xs ≡ ys → IfOk r (λ v. view v ≡ xs) → IfOk r (λ v. view v ≡ ys)
list_as view r e p = subst (λ l. IfOk r (λ v. view v ≡ l)) e p

-- a text that is within the limit is itself
within_same : (b : Bool) (p t : List ℕ) (e : OperationRefusal) → ◌≡◌ {A = Result (List ℕ) OperationRefusal} (if b then Ok p else Err e) (Ok t) → t ≡ p
within_same true p t e same = cc
within_same false p t e same = absurd cc

pub answered_within : (w : World) (answer : Result (List ℕ) OperationRefusal) (p : List ℕ) {t : List ℕ} → answer ≡ within_bytes p → IsAnswered {B = List ℕ} w answer (Ok t) → t ≡ p
answered_within w (Ok u) p {t = t} e is = (let same : Ok t ≡ Ok u = is in cc) ∙ within_same (is_short p) p u refusal.Limit (sym e)
answered_within w (Err r) p e is = absurd is

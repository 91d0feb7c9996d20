-- What tests and operations answer.
use Rattle.std.proofs.Common.{◌≡◌, Result, Ok, Err, ap, sym, ◌∙◌}
use Rattle.world.specs.Answering.{Views}

pub views_same : {A R : Type 0} (given answer : Result A R) → answer ≡ given → Views (λ a. a) given answer
views_same given (Ok x) e = sym e
views_same given (Err r) e = sym e

pub two {ℓ} : {A B : Type 0} {C : Type ℓ} (f : A → B → C) {a c : A} {b d : B} → a ≡ c → b ≡ d → f a b ≡ f c d
two f {a = a} {c = c} {b = b} p q = ap (λ x. f x b) p ∙ ap (f c) q

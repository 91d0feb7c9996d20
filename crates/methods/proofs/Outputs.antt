-- Outputs one after another.
use Rattle.std.proofs.Common.{◌≡◌, ℕ, suc, ◌+◌, ◌-◌, ◌<◌, ◌≤◌, ap, arith}
use Rattle.values.specs.Data.{item, no_items, object}
use Rattle.values.specs.declared.object.Object.TheVariants as objects
use Rattle.methods.specs.Targets.{outputs_from}

pub first_of : (target count first : ℕ) → first < count
    → outputs_from target (count - first) first ≡ item (object (objects.CustomOutput target first)) (outputs_from target (count - (first + 1)) (first + 1))
first_of target count first before =
    let e : count - first ≡ suc (count - (first + 1)) = omega (arith, before) in
    ap (λ n. outputs_from target n first) e

pub none_of : (target count first : ℕ) → count ≤ first → outputs_from target (count - first) first ≡ no_items
none_of target count first past =
    let e : count - first ≡ 0 = omega (arith, past) in
    ap (λ n. outputs_from target n first) e

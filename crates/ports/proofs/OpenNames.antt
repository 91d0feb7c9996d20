-- Writing opens nothing: what is open before a run of bytes is open behind it.
use Rattle.std.proofs.Common.{◌≡◌, ℕ, List, [], ◌∷◌, Option, refl}
use Rattle.ports.specs.Outputs.{name_after, puts, logs, faults}

pub name_after-puts : (name : Option (List ℕ)) (bytes : List ℕ) → name_after name (puts bytes) ≡ name
unfolding name_after puts
name_after-puts name [] = refl
name_after-puts name (b ∷ bytes) = name_after-puts name bytes

pub name_after-logs : (name : Option (List ℕ)) (bytes : List ℕ) → name_after name (logs bytes) ≡ name
unfolding name_after logs
name_after-logs name [] = refl
name_after-logs name (b ∷ bytes) = name_after-logs name bytes

pub name_after-faults : (name : Option (List ℕ)) (bytes : List ℕ) → name_after name (faults bytes) ≡ name
unfolding name_after faults
name_after-faults name [] = refl
name_after-faults name (b ∷ bytes) = name_after-faults name bytes

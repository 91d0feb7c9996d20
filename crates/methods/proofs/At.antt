-- What the target with a number has.
use Rattle.std.proofs.Common.{◌≡◌, Option, Some, None, refl, option_map}
use Rattle.std.specs.Prelude.{option_and_then}
use Rattle.build.specs.Data.{TargetData}
use Rattle.build.specs.Libraries.{DeclaredTargetData}

pub none_at : {A : Type 0} (has : TargetData → Option A) (o : Option DeclaredTargetData) → None ≡ option_map (λ l. l.target) o → None ≡ option_and_then (λ l. has l.target) o
none_at has None e = refl
none_at has (Some l) e = absurd cc

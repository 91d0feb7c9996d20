-- A digit behind a text.
use Rattle.std.proofs.Common.{◌≡◌, ℕ, ◌<◌, List, [], ◌∷◌, ◌++◌, ap}
use Rattle.std.specs.Prelude.{encode_utf8}
use Rattle.std.proofs.lemmas.Str.{encode_ascii}

pub section_bytes : (text : List ℕ) (digit : ℕ) → digit < 128 → text ++ encode_utf8 digit ≡ text ++ digit ∷ []
section_bytes text digit h = ap (λ bytes. text ++ bytes) (encode_ascii digit h)

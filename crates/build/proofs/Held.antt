-- What can be held as a path can be held as a value.
use Rattle.std.proofs.Common.{◌≡◌, ℕ, Bool, true, false, eqb, [], ◌∷◌, refl, sym, ap, ◌∙◌, true≢false}
use Rattle.std.proofs.lemmas.Bool.{and_parts, eqb-true, false_from_ne_true}
use Rattle.build.specs.edge.Texts.{Path}
use Rattle.build.specs.edge.Holding.{path_byte_held, path_held, value_byte_held, value_held, is_path}

-- what passes a test is no number that fails it
other_than : (p : ℕ → Bool) (s b : ℕ) → p s ≡ false → p b ≡ true → eqb b s ≡ false
other_than p s b fails passes = false_from_ne_true (eqb b s) (λ e. true≢false (sym passes ∙ ap p (eqb-true b s e) ∙ fails))

byte_held : (b : ℕ) → path_byte_held b ≡ true → value_byte_held b ≡ true
byte_held b h = rw (other_than path_byte_held 0 b refl h, other_than path_byte_held 10 b refl h, other_than path_byte_held 13 b refl h) refl

bytes_held : (p : Path) → path_held p ≡ true → value_held p ≡ true
bytes_held [] h = refl
bytes_held (b ∷ bs) h =
    let k = and_parts (path_byte_held b) (path_held bs) h in
    rw (byte_held b k.0, bytes_held bs k.1) refl

pub path_as_value : (p : Path) → is_path p ≡ true → value_held p ≡ true
path_as_value [] h = absurd cc
path_as_value (b ∷ bs) h = bytes_held (b ∷ bs) h

-- Bytes that stand for themselves.
use Rattle.std.proofs.Common.{◌≡◌, ℕ, Bool, true, false, not, List, [], ◌∷◌, refl}
use Rattle.std.specs.List.{flat_map, list_all}
use Rattle.std.proofs.lemmas.Bool.{and_parts}
use Rattle.ninja.specs.Escapes.{wants_dollar}
use Rattle.ninja.specs.Places.{byte_text, stays}
use Rattle.ninja.specs.declared.escapes.EscapeMode.{EscapeMode}
use Rattle.ninja.specs.declared.escapes.EscapeMode.TheVariants.{InPath, InValue, InQuotes}
use Rattle.ninja.proofs.ShellWords.{other_than}

not_held : (x : Bool) → not x ≡ true → x ≡ false
not_held true h = absurd cc
not_held false h = refl

stays_byte : (place : EscapeMode) (b : ℕ) → stays place b ≡ true → byte_text place b ≡ b ∷ []
stays_byte InPath b h = rw (not_held (wants_dollar b) h) refl
stays_byte InValue b h = rw (other_than (stays InValue) 36 b refl h) refl
stays_byte InQuotes b h = rw (other_than (stays InQuotes) 39 b refl h, other_than (stays InQuotes) 36 b refl h) refl

pub stays_plain : (place : EscapeMode) (bs : List ℕ) → list_all (stays place) bs ≡ true → flat_map (byte_text place) bs ≡ bs
stays_plain place [] h = refl
stays_plain place (b ∷ bs) h =
    let k = and_parts (stays place b) (list_all (stays place) bs) h in
    rw (stays_byte place b k.0, stays_plain place bs k.1) refl

-- The first of names that no file may have.
use Rattle.std.proofs.Common.{◌≡◌, Bool, true, false, List, [], ◌∷◌, ◌++◌, Option, Some, refl, ap, ◌∙◌}
use Rattle.std.specs.Prelude.{if◌then◌else◌}
use Rattle.build.specs.edge.Texts.{Path, Text}
use Rattle.support.specs.paths.Names.{is_file_name}
use Rattle.target_calls.specs.FitBreaches.{bad_name, or_later}

later : (fits : Bool) (n : Text) (first rest : Option Path)
    → (if fits then or_later first rest else Some n) ≡ or_later (if fits then first else Some n) rest
later true n first rest = refl
later false n first rest = refl

-- among names and further ones
pub bad_behind : (ns ms : List Text) → bad_name (ns ++ ms) ≡ or_later (bad_name ns) (bad_name ms)
bad_behind [] ms = refl
bad_behind (n ∷ ns) ms =
    ap (λ r. if is_file_name n then r else Some n) (bad_behind ns ms) ∙ later (is_file_name n) n (bad_name ns) (bad_name ms)

-- f-strings, part by part.
use Rattle.std.proofs.Common.{◌≡◌, ℕ, List, [], Result}
use Rattle.values.specs.Limits.{within_bytes}
use Rattle.values.specs.declared.refusal.OperationRefusal.{OperationRefusal}
use Rattle.values.specs.texts.Segments.{Segment}
use Rattle.world.specs.Deed.{Files}
use Rattle.world.specs.Gives.{Holds}
use Rattle.expressions.specs.Contexts.{Leads, Stand}
use Rattle.expressions.specs.Forms.{filled_format_string}

-- of an f-string some parts are filled, by a text that may be too long already, and others are left
pub record Filled (line : ℕ) (all left : List Segment) (made : Result (List ℕ) OperationRefusal) (stand : Stand) : Type 0 where
  pub text : List ℕ
  pub short : made ≡ within_bytes text
  pub led : (files : Files) → Holds stand.tree files → Leads files (filled_format_string line [] all) stand (filled_format_string line text left) stand

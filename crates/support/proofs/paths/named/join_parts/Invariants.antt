use Rattle.std.proofs.Common.{◌≡◌, string_bytes}
use Rattle.std.specs.List.{join_with_byte}
use Rattle.support.proofs.PathTexts.{front_of}
use Rattle.support.proofs.paths.named.join_parts.Given as goal

abbrev pub invariant-loop-i : goal.invariant-loop-i
invariant-loop-i l = string_bytes l.path ≡ join_with_byte 47 (front_of l.i l.parts)

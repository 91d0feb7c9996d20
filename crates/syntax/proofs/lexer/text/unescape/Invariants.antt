use Rattle.std.proofs.Common.{length, string_bytes}
use denote.Text.{Utf8}
use denote.Shadow.{shadow}
use Rattle.syntax.proofs.Texts.{StillUnescapes}
use Rattle.syntax.proofs.lexer.text.unescape.Given as goal

abbrev pub invariant-loop-whole : goal.invariant-loop-whole
invariant-loop-whole l = record { text : shadow (Utf8 l.rest); still : StillUnescapes l.text (string_bytes l.whole) l.rest }

abbrev pub decreases-loop-whole : goal.decreases-loop-whole
decreases-loop-whole l = length l.rest

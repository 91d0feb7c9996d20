use Rattle.std.proofs.Common.{◌≡◌, drop}
use Rattle.std.specs.Str.{chars, encode_utf8_all}
use Rattle.std.specs.Str.Iter.{chars_rest}
use Rattle.values.proofs.texts.part.without_chars.Given as goal

abbrev pub invariant-each : goal.invariant-each
invariant-each l = chars_rest l.rest ≡ encode_utf8_all (drop l.counter (chars l.text))

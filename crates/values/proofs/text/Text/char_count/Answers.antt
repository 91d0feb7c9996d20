use Rattle.std.proofs.Common.{rules, length, sym, ap, ◌∙◌}
use Rattle.std.proofs.lemmas.Str.{chars-IsAscii, chars_from_encodes}
use Rattle.values.proofs.text.Text.char_count.Goals as goal

pub returns-then-is_ascii : goal.returns-then-is_ascii
returns-then-is_ascii c = ap length (c.as_str-text.ensures.text ∙ sym (chars-IsAscii c.args.self.now c.if-is_ascii.ensures))

pub returns : goal.returns
returns c = search (rules, chars_from_encodes)

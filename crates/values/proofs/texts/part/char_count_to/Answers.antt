use Rattle.std.proofs.Common.{sym, ◌∙◌, ap, take, length, length-take}
use Rattle.std.specs.Str.{chars}
use Rattle.std.proofs.lemmas.Str.{chars_from_encodes}
use Rattle.values.proofs.texts.part.char_count_to.Goals as goal

pub returns : goal.returns
returns c =
    let front = take c.args.most (chars c.args.text.now) in
    c.char_count.ensures
    ∙ ap length (sym (chars_from_encodes front c.first_chars.result.now c.first_chars.utf8 (sym c.first_chars.ensures)))
    ∙ length-take c.args.most (chars c.args.text.now)

use Rattle.std.proofs.Common.{sym, ◌∙◌, ap}
use Rattle.std.specs.Str.{encode_utf8_all}
use Rattle.std.proofs.lemmas.Str.{encodes-chars}
use Rattle.values.specs.texts.Strip.{is_in, without_last}
use Rattle.values.proofs.texts.ends.without_both.Goals as goal

pub returns : goal.returns
returns c =
    sym (encodes-chars c.without_last.result.now c.without_last.utf8)
    ∙ ap encode_utf8_all (c.without_last.ensures ∙ ap (without_last (is_in c.args.set.now)) c.without_first.ensures)

use Rattle.std.proofs.Common.{ap, ◌∙◌}
use Rattle.std.proofs.lemmas.Str.{IsUtf8-from_ascii}
use Rattle.std.proofs.lemmas.Str.Ascii.{IsAscii-from_all}
use Rattle.template.specs.Config.{value_of}
use Rattle.template.proofs.Define.{name_byte_ascii}
use Rattle.template.proofs.config.ConfigData.value_at.Goals as goal

pub returns-in-Ok : goal.returns-in-Ok
returns-in-Ok c = c.get.ensures ∙ ap (value_of c.args.self.now.entries) c.in-Ok.ensures.cases.0

pub returns-in-Err : goal.returns-in-Err
returns-in-Err c = absurd (c.in-Err.ensures.cases.0 (IsUtf8-from_ascii c.args.name.now (IsAscii-from_all c.args.name.now (λ k d lt. name_byte_ascii _ (c.requires k d lt)))))

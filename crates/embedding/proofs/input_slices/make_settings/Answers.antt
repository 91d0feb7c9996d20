use Rattle.std.proofs.Common.{◌∙◌}
use Rattle.embedding.proofs.Settings.{settings_as, texts_same}
use Rattle.embedding.proofs.input_slices.make_settings.Goals as goal

pub returns-in-Ok-new : goal.returns-in-Ok-new
returns-in-Ok-new c = λ options spelled.
    c.in-Ok-new.ensures.settings ∙ settings_as _ _ _ _ _ _ c.in-Ok.ensures.cases.0 c.in-Ok-from_utf8.ensures.cases.0
    (texts_same c.args.given.now.words.now _ options c.in-Ok-texts.ensures.texts spelled)

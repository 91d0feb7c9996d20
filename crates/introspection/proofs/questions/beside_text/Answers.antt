use Rattle.std.proofs.Common.{string_bytes}
use Rattle.std.proofs.lemmas.Result.{IfOk-weaker}
use Rattle.serde_json.proofs.FreeTexts.{text_of_value}
use Rattle.machine_file.specs.QuestionsView.{all_shown_in}
use Rattle.introspection.specs.Questions.{beside_text, shown_beside}
use Rattle.introspection.proofs.Asking.{plain_beside}
use Rattle.introspection.proofs.questions.beside_text.Goals as goal

pub returns : goal.returns
unfolding beside_text
returns c =
    let asides = all_shown_in c.args.asides.now in
    IfOk-weaker c.printed.result _ _ (λ s h. text_of_value (shown_beside asides) h.0 (string_bytes s) h.1 h.2 (plain_beside asides).floats) c.printed.ensures

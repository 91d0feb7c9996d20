use Rattle.std.proofs.Common.{string_bytes}
use Rattle.std.proofs.lemmas.Result.{IfOk-weaker}
use Rattle.serde_json.proofs.FreeTexts.{text_of_value}
use Rattle.introspection.specs.Questions.{line_of, line_text}
use Rattle.introspection.specs.QuestionsView.{line_in}
use Rattle.introspection.proofs.Asking.{plain_line}
use Rattle.introspection.proofs.questions.QuestionLine.text.Goals as goal

pub returns : goal.returns
unfolding line_text
returns c =
    let l = line_in c.args.self.now in
    let file = c.args.file.now in
    IfOk-weaker c.printed.result _ _
    (λ s h. text_of_value (line_of l file c.args.place) h.0 (string_bytes s) h.1 h.2 (plain_line l file c.args.place).floats) c.printed.ensures

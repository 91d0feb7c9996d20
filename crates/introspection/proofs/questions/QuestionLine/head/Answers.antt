use Rattle.std.proofs.Common.{string_bytes}
use Rattle.std.proofs.lemmas.Result.{IfOk-weaker}
use Rattle.serde_json.proofs.FreeTexts.{text_of_value}
use Rattle.introspection.specs.Questions.{head_of, head_text}
use Rattle.introspection.specs.QuestionsView.{line_in}
use Rattle.introspection.proofs.Asking.{plain_head}
use Rattle.introspection.proofs.questions.QuestionLine.head.Goals as goal

pub returns : goal.returns
unfolding head_text
returns c =
    let l = line_in c.args.self.now in
    IfOk-weaker c.printed.result _ _ (λ s h. text_of_value (head_of l) h.0 (string_bytes s) h.1 h.2 (plain_head l).floats) c.printed.ensures

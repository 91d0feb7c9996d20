use Rattle.std.proofs.Common.{◌∙◌, ◌++◌, ap, ap₂, codes, map, refl, sym}
use Rattle.std.proofs.lemmas.Result.{IfOk-weaker}
use Rattle.machine_file.specs.Questions.{answer_to}
use Rattle.machine_file.specs.QuestionsView.{all_shown_in, topic_in}
use Rattle.machine_file.specs.View.{machine_in, strings_in}
use Rattle.introspection.specs.Questions.{option_line, topic_lines}
use Rattle.introspection.proofs.Asking.{options_said}
use Rattle.introspection.proofs.questions.question_lines.Goals as goal

pub returns-in-Options : goal.returns-in-Options
returns-in-Options c =
    let ss = machine_in c.args.machine.now in
    let asides = all_shown_in c.args.asides.now in
    IfOk-weaker c.option_lines.result _ _
    (λ lines is. is
    ∙ ap₂ (λ a b. a ++ b)
    (ap (λ ns. map (option_line ss asides (codes "built-in options")) (strings_in ns)) c.deref.ensures.value
    ∙ sym (options_said ss asides (codes "built-in options") (strings_in c.in-Options.built_in.items) refl))
    (ap (λ ns. map (option_line ss asides (codes "project options")) (strings_in ns)) c.deref-in-Options.ensures.value
    ∙ sym (options_said ss asides (codes "project options") (strings_in c.in-Options.declared.items) refl))
    ∙ ap (λ t. topic_lines (topic_in t) (answer_to ss (topic_in t)) asides) (sym c.in-Options.is))
    c.option_lines.ensures

use Rattle.std.proofs.Common.{Err, ap, ap₂, subst, ◌∙◌}
use Rattle.std.specs.Prelude.{option_map}
use Rattle.ports.specs.Outputs.{Writes, logs}
use Rattle.backend.specs.BuildFile.{ending_of}
use Rattle.support.specs.View.{fault_view}
use Rattle.machine_file.specs.View.{machine_in}
use Rattle.meson.specs.QuestionLines.{asked_text}
use Rattle.meson.specs.Questions.{ending_with, questions_text}
use Rattle.meson.proofs.Tellings.{room_then, short_lines, stopped_lines, told_lines}
use Rattle.meson.proofs.question_run.Asking.tell.Goals as goal

pub end-requires : goal.end-requires
end-requires g c =
    let old = g.O.Outputs.seen c.args.out.now in
    let mid = g.O.Outputs.seen c.log_questions.new.out in
    let text = ap₂ (λ m asked. questions_text (machine_in m) asked) c.deref.ensures c.questions.ensures in
    room_then (logs (asked_text c.args.self.now)) old mid c.log_questions.result c.in-Ok.is
    (subst (λ t. Writes old (logs t) (ending_of c.log_questions.result) mid) text c.log_questions.ensures) c.requires

pub returns-in-Ok : goal.returns-in-Ok
returns-in-Ok g c =
    let old = g.O.Outputs.seen c.args.out.now in
    let mid = g.O.Outputs.seen c.log_questions.new.out in
    let text = ap₂ (λ m asked. questions_text (machine_in m) asked) c.deref.ensures c.questions.ensures in
    told_lines (logs (asked_text c.args.self.now)) (ending_with (option_map fault_view c.args.self.now.fault)) c.end.result
    old mid (g.O.Outputs.seen c.end.new.out) c.log_questions.result c.in-Ok.is
    (subst (λ t. Writes old (logs t) (ending_of c.log_questions.result) mid) text c.log_questions.ensures) c.end.ensures

pub returns-in-Err-Device : goal.returns-in-Err-Device
returns-in-Err-Device g c =
    let old = g.O.Outputs.seen c.args.out.now in
    let new = g.O.Outputs.seen c.log_questions.new.out in
    let text = ap₂ (λ m asked. questions_text (machine_in m) asked) c.deref.ensures c.questions.ensures in
    stopped_lines (logs (asked_text c.args.self.now)) (ending_with (option_map fault_view c.args.self.now.fault)) old new c.log_questions.result
    (c.in-Err-Device.is ∙ ap Err c.in-Err-Device.field-0-is)
    (subst (λ t. Writes old (logs t) (ending_of c.log_questions.result) new) text c.log_questions.ensures)

pub returns-in-Err-Memory : goal.returns-in-Err-Memory
returns-in-Err-Memory g c =
    let old = g.O.Outputs.seen c.args.out.now in
    let new = g.O.Outputs.seen c.log_questions.new.out in
    let text = ap₂ (λ m asked. questions_text (machine_in m) asked) c.deref.ensures c.questions.ensures in
    short_lines (logs (asked_text c.args.self.now)) (ending_with (option_map fault_view c.args.self.now.fault)) old new c.log_questions.result
    (c.in-Err-Memory.is ∙ ap Err c.in-Err-Memory.field-0-is)
    (subst (λ t. Writes old (logs t) (ending_of c.log_questions.result) new) text c.log_questions.ensures)

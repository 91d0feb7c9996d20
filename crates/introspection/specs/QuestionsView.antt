-- Defines the lines of questions, without their place in memory.
use Rattle.std.specs.Prelude.{option_map}
use Rattle.machine_file.specs.QuestionsView.{all_shown_in}
use Rattle.machine_file.specs.View.{entries_of, value_in}
use Rattle.introspection.specs.Questions as plain
use Rattle.introspection.specs.declared.questions.QuestionLine.{QuestionLine}
use Rattle.introspection.specs.declared.questions.Reply.{Reply}
use Rattle.introspection.specs.declared.questions.Reply.TheVariants as reply

-- Returns an answer of the machine file as plain data: the value of the key or the entries of the section, if the file has it.
abbrev pub reply_in : Reply → plain.Reply
reply_in (reply.Value v) = plain.Value (option_map (λ v. value_in v.now) v)
reply_in (reply.Section s) = plain.Section (option_map (λ s. entries_of s.now) s)

-- Returns a line of questions as plain data, with each borrowed text as its bytes.
abbrev pub line_in : QuestionLine → plain.Line
line_in l = record {
  section = l.section.now;
  key = option_map (λ k. k.now) l.key;
  reply = reply_in l.reply;
  asides = all_shown_in l.asides.now;
}

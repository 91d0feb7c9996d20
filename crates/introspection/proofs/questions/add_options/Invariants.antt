use Rattle.std.proofs.Common.{◌≡◌, ◌++◌, map, take}
use Rattle.machine_file.specs.QuestionsView.{all_shown_in}
use Rattle.machine_file.specs.View.{machine_in, strings_in}
use Rattle.introspection.specs.Questions.{option_line}
use Rattle.introspection.specs.QuestionsView.{line_in}
use Rattle.introspection.proofs.questions.add_options.Given as goal

abbrev pub invariant-loop-name : goal.invariant-loop-name
invariant-loop-name l = map line_in l.lines.items ≡ map line_in l.fn.lines.items
    ++ map (option_line (machine_in l.machine) (all_shown_in l.asides) l.section) (strings_in (take l.name-index l.names))

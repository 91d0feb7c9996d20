use Rattle.std.proofs.Common.{◌≡◌, map, take}
use Rattle.arguments.specs.Arguments.{arguments_data}
use Rattle.machine_file.specs.QuestionsView.{asides_in}
use Rattle.resources.specs.Beside.{asides_named}
use Rattle.resources.proofs.question_context.asides_named.Given as goal

abbrev pub invariant-loop-name : goal.invariant-loop-name
invariant-loop-name l = asides_in l.asides.items ≡ asides_named (map (λ n. n.now) (take l.name-index l.names)) (arguments_data l.arguments)

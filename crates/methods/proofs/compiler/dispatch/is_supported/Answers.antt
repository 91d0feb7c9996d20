use Rattle.std.proofs.Common.{◌≡◌, ℕ, List, IfOk, subst}
use Rattle.machine_file.specs.Questions.{answer_to}
use Rattle.machine_file.specs.View.{machine_in}
use Rattle.methods.specs.CompilerSaid.{argument_topic, is_true}
use Rattle.methods.proofs.compiler.dispatch.is_supported.Goals as goal

pub returns : goal.returns
returns c =
    subst (λ (t : List ℕ). IfOk c.is_true.result (λ b. b ≡ is_true (answer_to (machine_in c.args.machine.now) (argument_topic t)))) c.text_of.ensures
    c.is_true.ensures

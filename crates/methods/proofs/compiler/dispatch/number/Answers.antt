use Rattle.std.proofs.Common.{Some, map, ap, ◌∙◌}
use Rattle.values.specs.Data.{integer}
use Rattle.arguments.specs.Arguments.{arguments_data}
use Rattle.machine_file.specs.Questions.{answer_to, check_topic}
use Rattle.world.proofs.Answering.{carries_give, carries_none, carries_stop, carries_then}
use Rattle.methods.specs.CompilerMethods.{number}
use Rattle.methods.specs.CompilerSaid.{integer_answer}
use Rattle.methods.proofs.Asking.{asked_of}
use Rattle.methods.proofs.compiler.dispatch.number.Goals as goal

pub returns-in_err-texts : goal.returns-in_err-texts
returns-in_err-texts g c = carries_none c.from_residual.ensures.1

pub returns-in_err-ask_check : goal.returns-in_err-ask_check
unfolding number
returns-in_err-ask_check g c =
    carries_stop (asked_of c.args.caller.now.store.now.machine c.args.method.now (arguments_data c.args.arguments.now) (ap (map (λ t. t.now)) c.deref.ensures.value ∙ c.in_ok-texts.ensures) c.in_err-ask_check.ensures.deed)
    c.from_residual-in_err-ask_check.ensures.1

pub returns-in_err-number : goal.returns-in_err-number
unfolding number
returns-in_err-number g c =
    carries_then (asked_of c.args.caller.now.store.now.machine c.args.method.now (arguments_data c.args.arguments.now) (ap (map (λ t. t.now)) c.deref.ensures.value ∙ c.in_ok-texts.ensures) c.in_ok-ask_check.ensures.deed)
    (carries_none c.from_residual-in_err-number.ensures.1)

pub returns : goal.returns
unfolding number
returns g c =
    let m = c.args.caller.now.store.now.machine in
    carries_then (asked_of c.args.caller.now.store.now.machine c.args.method.now (arguments_data c.args.arguments.now) (ap (map (λ t. t.now)) c.deref.ensures.value ∙ c.in_ok-texts.ensures) c.in_ok-ask_check.ensures.deed)
    (carries_give (ap Some (c.in_ok-number.ensures
    ∙ ap (λ n. integer (integer_answer (answer_to n (check_topic c.args.method.now (map (λ t. t.now) c.deref-2.result.now))))) (c.machine.ensures ∙ c.in_ok-ask_check.ensures.machine)
    ∙ ap (λ ts. integer (integer_answer (answer_to m (check_topic c.args.method.now (map (λ t. t.now) ts))))) c.deref-2.ensures.value
    ∙ ap (λ ts. integer (integer_answer (answer_to m (check_topic c.args.method.now ts)))) c.in_ok-texts.ensures)))

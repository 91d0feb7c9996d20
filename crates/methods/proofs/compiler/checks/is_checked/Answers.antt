use Rattle.std.proofs.Common.{map, ap, ◌∙◌}
use Rattle.arguments.specs.Arguments.{arguments_data}
use Rattle.machine_file.specs.Questions.{answer_to, check_topic}
use Rattle.world.proofs.Answering.{carries_give, carries_none, carries_stop, carries_then}
use Rattle.methods.specs.CompilerChecks.{is_checked}
use Rattle.methods.specs.CompilerSaid.{is_true}
use Rattle.methods.proofs.Asking.{asked_of}
use Rattle.methods.proofs.compiler.checks.is_checked.Goals as goal

pub returns-in_err-texts : goal.returns-in_err-texts
returns-in_err-texts g c = carries_none c.from_residual.ensures.1

pub returns-in_err-ask_check : goal.returns-in_err-ask_check
unfolding is_checked
returns-in_err-ask_check g c =
    carries_stop (asked_of c.args.caller.now.store.now.machine c.args.method.now (arguments_data c.args.arguments.now) (ap (map (λ t. t.now)) c.deref.ensures.value ∙ c.in_ok-texts.ensures) c.in_err-ask_check.ensures.deed)
    c.from_residual-in_err-ask_check.ensures.1

pub returns-in_err-is_so : goal.returns-in_err-is_so
unfolding is_checked
returns-in_err-is_so g c =
    carries_then (asked_of c.args.caller.now.store.now.machine c.args.method.now (arguments_data c.args.arguments.now) (ap (map (λ t. t.now)) c.deref.ensures.value ∙ c.in_ok-texts.ensures) c.in_ok-ask_check.ensures.deed)
    (carries_none c.from_residual-in_err-is_so.ensures.1)

pub returns : goal.returns
unfolding is_checked
returns g c =
    let m = c.args.caller.now.store.now.machine in
    carries_then (asked_of c.args.caller.now.store.now.machine c.args.method.now (arguments_data c.args.arguments.now) (ap (map (λ t. t.now)) c.deref.ensures.value ∙ c.in_ok-texts.ensures) c.in_ok-ask_check.ensures.deed)
    (carries_give (c.in_ok-is_so.ensures
    ∙ ap (λ n. is_true (answer_to n (check_topic c.args.method.now (map (λ t. t.now) c.deref-2.result.now)))) (c.machine.ensures ∙ c.in_ok-ask_check.ensures.machine)
    ∙ ap (λ ts. is_true (answer_to m (check_topic c.args.method.now (map (λ t. t.now) ts)))) c.deref-2.ensures.value
    ∙ ap (λ ts. is_true (answer_to m (check_topic c.args.method.now ts))) c.in_ok-texts.ensures))

use Rattle.std.proofs.Common.{◌+◌, Bor, Some, map, ap, refl, sym, ◌∙◌}
use Rattle.arguments.specs.Given.{text_or_none}
use Rattle.values.specs.Data.{items_append}
use Rattle.values.specs.View.{data_of, items_of}
use Rattle.values.specs.declared.value.Value.{Value}
use Rattle.machine_file.specs.Questions.{answer_to}
use Rattle.world.proofs.Answering.{carries_give, carries_none, carries_then}
use Rattle.world.proofs.Leading.{leads_start, leads_on, leads_end, leads_stop, leads_as}
use Rattle.methods.specs.CompilerMethods.{argument_if_supported, supported_arguments}
use Rattle.methods.specs.CompilerSaid.{argument_topic}
use Rattle.methods.proofs.Supported.{all_from, supported-drop, supported-end}
use Rattle.methods.proofs.compiler.dispatch.keep_supported.Goals as goal

pub loop-value-init : goal.loop-value-init
loop-value-init g c =
    leads_as (ap (λ vs. supported_arguments (items_of vs) (map (λ (v : Bor Value). data_of v.now) c.args.values.now)) (sym c.new-taken.ensures.items)) leads_start

pub returns-in_err-ask_argument : goal.returns-in_err-ask_argument
returns-in_err-ask_argument g c =
    let l = c.loop-value in
    leads_stop (leads_as (supported-drop (items_of l.taken.items) c.args.values.now l.value-index c.value-item.result c.loop-value-test.true c.value-item.is) l.invariant)
    c.in_err-ask_argument.ensures.deed c.from_residual.ensures.1

pub returns-in_err-keep : goal.returns-in_err-keep
returns-in_err-keep g c =
    let l = c.loop-value in
    leads_end (leads_as (supported-drop (items_of l.taken.items) c.args.values.now l.value-index c.value-item.result c.loop-value-test.true c.value-item.is) l.invariant)
    (carries_then c.in_ok-ask_argument.ensures.deed (carries_none c.from_residual-in_err-keep.ensures.1))

pub loop-value-preserved : goal.loop-value-preserved
loop-value-preserved g c =
    let l = c.loop-value in
    let d = data_of c.value-item.result.now in
    leads_as (ap (λ ts. supported_arguments ts (all_from c.args.values.now (l.value-index + 1)))
    (sym (c.in_ok-keep.ensures ∙ ap (λ m. items_append (items_of l.taken.items) (argument_if_supported d (answer_to m (argument_topic (text_or_none (Some d))))))
    (c.machine.ensures ∙ c.in_ok-ask_argument.ensures.machine))))
    (leads_on (leads_as (supported-drop (items_of l.taken.items) c.args.values.now l.value-index c.value-item.result c.loop-value-test.true c.value-item.is) l.invariant)
    c.in_ok-ask_argument.ensures.deed)

pub returns : goal.returns
returns g c =
    let l = c.loop-value in
    leads_end (leads_as (supported-end (items_of l.taken.items) c.args.values.now l.value-index c.loop-value-test.false) l.invariant) (carries_give refl)

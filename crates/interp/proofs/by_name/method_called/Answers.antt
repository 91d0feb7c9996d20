use Rattle.std.proofs.Common.{Bor, option_map, Some, ap, sym, ◌∙◌}
use Rattle.arguments.specs.Arguments.{arguments_data}
use Rattle.values.specs.View.{data_of}
use Rattle.values.specs.declared.object.Object.{Object}
use Rattle.world.proofs.Answering.{carries_as, carries_give, carries_none}
use Rattle.interp.specs.ByName.{method_called_by, method_called_on, method_called_unless}
use Rattle.interp.proofs.by_name.method_called.Goals as goal

pub returns-in_err-disabler_method : goal.returns-in_err-disabler_method
returns-in_err-disabler_method g c = carries_none c.from_residual.ensures.1

pub returns-then-is_disabler : goal.returns-then-is_disabler
returns-then-is_disabler g c =
    carries_as (ap (λ b. method_called_by b (data_of c.args.receiver.now) c.args.name.now (arguments_data c.args.arguments.now))
    (sym c.if-is_disabler.true ∙ c.is_disabler.ensures)) (carries_give (ap Some c.in_ok-disabler_method.ensures))

pub returns-in_err-of_object : goal.returns-in_err-of_object
returns-in_err-of_object g c = carries_none c.from_residual-in_err-of_object.ensures.1

pub returns-then-gives_disabler : goal.returns-then-gives_disabler
returns-then-gives_disabler g c =
    carries_as (ap (λ b. method_called_by b (data_of c.args.receiver.now) c.args.name.now (arguments_data c.args.arguments.now))
    (sym c.if-is_disabler.false ∙ c.is_disabler.ensures))
    (carries_as (ap (λ b. method_called_unless b (data_of c.args.receiver.now) c.args.name.now (arguments_data c.args.arguments.now))
    (sym c.if-gives_disabler.true ∙ c.gives_disabler.ensures)) (carries_give (ap Some c.in_ok-of_object.ensures)))

pub returns-in-Some : goal.returns-in-Some
returns-in-Some g c =
    carries_as (ap (λ b. method_called_by b (data_of c.args.receiver.now) c.args.name.now (arguments_data c.args.arguments.now))
    (sym c.if-is_disabler.false ∙ c.is_disabler.ensures))
    (carries_as (ap (λ b. method_called_unless b (data_of c.args.receiver.now) c.args.name.now (arguments_data c.args.arguments.now))
    (sym c.if-gives_disabler.false ∙ c.gives_disabler.ensures))
    (carries_as (ap (λ o. method_called_on o (data_of c.args.receiver.now) c.args.name.now (arguments_data c.args.arguments.now))
    (sym (ap (option_map (λ (b : Bor Object). b.now)) c.in-Some.is) ∙ c.as_object.ensures)) c.object_method.ensures))

pub returns-in-None : goal.returns-in-None
returns-in-None g c =
    carries_as (ap (λ b. method_called_by b (data_of c.args.receiver.now) c.args.name.now (arguments_data c.args.arguments.now))
    (sym c.if-is_disabler.false ∙ c.is_disabler.ensures))
    (carries_as (ap (λ b. method_called_unless b (data_of c.args.receiver.now) c.args.name.now (arguments_data c.args.arguments.now))
    (sym c.if-gives_disabler.false ∙ c.gives_disabler.ensures))
    (carries_as (ap (λ o. method_called_on o (data_of c.args.receiver.now) c.args.name.now (arguments_data c.args.arguments.now))
    (sym (ap (option_map (λ (b : Bor Object). b.now)) c.in-None.is) ∙ c.as_object.ensures)) c.value_method.ensures))

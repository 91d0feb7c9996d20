use Rattle.std.proofs.Common.{ap, Err, List, ℕ, Result, refl, subst, sym, ◌∙◌}
use Rattle.support.specs.declared.faults.refusal.Refusal.{Refusal}
use Rattle.values.specs.Data.{Items, entry_values, keys_in}
use Rattle.values.specs.View.{items_of}
use Rattle.values.specs.declared.refusal.OperationRefusal.{OperationRefusal as OperationRefusal}
use Rattle.arguments.specs.Arguments.{arguments_data}
use Rattle.arguments.specs.Rules.{breach_message}
use Rattle.arguments.specs.Stops.{Gives}
use Rattle.arguments.specs.declared.rule.Rule.TheVariants as rules
use Rattle.world.specs.Deed.{refuse}
use Rattle.world.specs.Operation.{of_operation}
use Rattle.world.proofs.Answering.{carries_as, carries_give, carries_none, carries_refuse}
use Rattle.project_calls.specs.Defaults.{entries_given, first_unprinted, printed_all}
use Rattle.project_calls.specs.DefaultsView.{strings_of}
use Rattle.project_calls.specs.Project.{defaults_printed, printed_or}
use Rattle.project_calls.proofs.project_call.print_defaults.Goals as goal

pub returns-in-Ok : goal.returns-in-Ok
unfolding defaults_printed printed_or
returns-in-Ok g c =
    let entries = entries_given (arguments_data c.args.arguments.now) in
    let said = sym c.in-Ok.ensures ∙ ap printed_all c.values_given-values.ensures in
    carries_as (ap (λ (r : Result (List (List ℕ)) OperationRefusal). printed_or r (first_unprinted (keys_in entries) (entry_values entries))) said)
    (carries_give refl)

pub returns-in_err-name-in-Err-Operation : goal.returns-in_err-name-in-Err-Operation
returns-in_err-name-in-Err-Operation g c = carries_none c.from_residual.ensures.1

pub returns-in_ok-name-in-Err-Operation : goal.returns-in_ok-name-in-Err-Operation
unfolding defaults_printed printed_or
returns-in_ok-name-in-Err-Operation g c =
    let entries = entries_given (arguments_data c.args.arguments.now) in
    let given = subst (λ s. Gives strings_of (printed_all (items_of c.values_given-values.result.now)) (Err s)) c.in-Err-Operation.field-0-is
    c.in-Err-Operation.ensures in
    let said = sym given ∙ ap printed_all c.values_given-values.ensures in
    let named = c.in_ok-name-in-Err-Operation.ensures
    ∙ ap (λ (ns : List (List ℕ)). first_unprinted ns (items_of c.values_given-values.result.now)) c.keys_given-keys.ensures
    ∙ ap (λ (ds : Items). first_unprinted (keys_in entries) ds) c.values_given-values.ensures in
    carries_as (ap (λ (r : Refusal). refuse r (breach_message rules.IsPrinted c.in_ok-name-in-Err-Operation.name.now)) c.of_operation.ensures
    ∙ ap (λ (n : List ℕ). refuse (of_operation c.in-Err-Operation.refusal) (breach_message rules.IsPrinted n)) named
    ∙ ap (λ (r : Result (List (List ℕ)) OperationRefusal). printed_or r (first_unprinted (keys_in entries) (entry_values entries))) said)
    (carries_refuse c.refuse_for.ensures)

pub returns-in-Err-Arguments : goal.returns-in-Err-Arguments
returns-in-Err-Arguments g c =
    absurd (subst (λ s. Gives strings_of (printed_all (items_of c.values_given-values.result.now)) (Err s)) c.in-Err-Arguments.field-0-is c.in-Err-Arguments.ensures)

pub returns-in-Err-Memory : goal.returns-in-Err-Memory
returns-in-Err-Memory g c = carries_none refl

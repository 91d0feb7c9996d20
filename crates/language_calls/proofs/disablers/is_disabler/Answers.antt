use Rattle.std.proofs.Common.{Bor, Some, option_map, false, ap, sym, ◌∙◌}
use Rattle.std.specs.Prelude.{unwrap_or}
use Rattle.values.specs.Data.{boolean, is_disabler}
use Rattle.values.specs.View.{data_of}
use Rattle.values.specs.declared.value.Value.{Value}
use Rattle.language_calls.specs.Disablers.{tell_disabler}
use Rattle.world.proofs.Answering.{carries_give}
use Rattle.language_calls.proofs.disablers.is_disabler.Goals as goal

pub returns-in-Some : goal.returns-in-Some
unfolding tell_disabler
returns-in-Some g c = carries_give (ap (λ b. Some (boolean b)) c.is_disabler.ensures ∙ (ap (λ o. Some (boolean (unwrap_or (option_map is_disabler o) false))) (sym (ap (option_map (λ (v : Bor Value). data_of v.now)) c.in-Some.is) ∙ c.argument.ensures)))

pub returns-in-None : goal.returns-in-None
unfolding tell_disabler
returns-in-None g c = carries_give (ap (λ o. Some (boolean (unwrap_or (option_map is_disabler o) false))) (sym (ap (option_map (λ (v : Bor Value). data_of v.now)) c.in-None.is) ∙ c.argument.ensures))

use Rattle.std.proofs.Common.{Bor, option_map, ap, sym, ◌∙◌}
use Rattle.values.specs.View.{data_of}
use Rattle.values.specs.declared.value.Value.{Value}
use Rattle.language_calls.specs.Variables.{variable_or}
use Rattle.world.proofs.Answering.{carries_as}
use Rattle.language_calls.proofs.variables.variable_or.Goals as goal

pub returns-then-is_predefined : goal.returns-then-is_predefined
unfolding variable_or
returns-then-is_predefined g c =
    carries_as (ap (λ b. variable_or b c.args.name.now (option_map (λ (v : Bor Value). data_of v.now) c.args.fallback)) (sym c.if-is_predefined.true ∙ c.is_predefined.ensures)) c.thing.ensures

pub returns-else-is_predefined : goal.returns-else-is_predefined
unfolding variable_or
returns-else-is_predefined g c =
    carries_as (ap (λ b. variable_or b c.args.name.now (option_map (λ (v : Bor Value). data_of v.now) c.args.fallback)) (sym c.if-is_predefined.false ∙ c.is_predefined.ensures)) c.set_or.ensures

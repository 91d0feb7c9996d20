use Rattle.std.proofs.Common.{◌≡◌, ◌<◌, ◌≤◌, ℤ, pos, List, [], ◌∷◌, length, map, ap, subst, ◌∙◌, arith, rules}
use Rattle.std.specs.Int.{w128}
use Rattle.std.proofs.lemmas.Grind.{common_steps, elements}
use Rattle.std.proofs.lemmas.Int.{to_z-of_z}
use Rattle.arguments.specs.Arguments.{ArgumentsData, arguments_data}
use Rattle.arguments.specs.Stops.{Gives}
use Rattle.values.specs.View.{data_of}
use Rattle.values.specs.declared.value.Value.{Value}
use Rattle.language_calls.specs.Range.{integer_at, range_answer, range_of}
use Rattle.language_calls.proofs.ranges.range_of.Goals as goal

-- the range of two arguments
two_given : (vs : List Value) (a : ArgumentsData) (start stop : ℤ) → 2 ≤ length vs → length vs < 3 → start ≡ integer_at 0 a → stop ≡ integer_at 1 a
    → range_answer start stop (pos 1) ≡ range_of (map data_of vs) a
two_given [] a start stop least below first second = absurd (omega (arith, least))
two_given (v ∷ []) a start stop least below first second = absurd (omega (arith, least))
two_given (v ∷ u ∷ []) a start stop least below first second = ap (λ z. range_answer z stop (pos 1)) first ∙ ap (λ z. range_answer (integer_at 0 a) z (pos 1)) second
two_given (v ∷ u ∷ w ∷ vs) a start stop least below first second = absurd (omega (arith, below))

pub returns-in-len1 : goal.returns-in-len1
returns-in-len1 c = grind (arith, elements)

pub returns-in-len2 : goal.returns-in-len2
returns-in-len2 c =
    let given = ap (λ (vs : List Value). length vs) c.as_slice.ensures.value in
    let start = to_z-of_z w128 c.integer_at-first.result (search rules) ∙ c.integer_at-first.ensures in
    let stop = to_z-of_z w128 c.integer_at-second.result (search rules) ∙ c.integer_at-second.ensures in
    subst (λ answer. Gives data_of answer c.range_answer-in-len2.result)
    (two_given c.args.arguments.now.positional.items (arguments_data c.args.arguments.now) _ _ (omega (arith, given, c.in-len2.len_at_least))
    (omega (arith, given, c.in-len2.len_below)) start stop) c.range_answer-in-len2.ensures

pub returns-in_default : goal.returns-in_default
returns-in_default c = grind (arith, common_steps)

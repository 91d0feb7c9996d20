-- Defines which branch a condition chooses: "If statements" of the page "Syntax".
use Rattle.std.specs.Prelude.{ℕ, Bool, true, false, [], Option, Some, None}
use Rattle.support.specs.declared.faults.refusal.Refusal.TheVariants as refusals
use Rattle.world.specs.Plan.{Plan, give, refuse}
use Rattle.expressions.specs.declared.conditions.Choice.{Choice}
use Rattle.expressions.specs.declared.conditions.Choice.TheVariants.{Body, Others, Skip}

-- Skips everything if the condition is a disabler, and otherwise refuses it, since it is not a boolean.
abbrev pub choice_without : ℕ → Bool → Plan Choice
choice_without line true = give Skip
choice_without line false = refuse line refusals.Type []

-- Returns the branch that a condition chooses, by its boolean, if it is one, and by whether it is a disabler.
abbrev pub choice_of : ℕ → Option Bool → Bool → Plan Choice
choice_of line (Some true) disabled = give Body
choice_of line (Some false) disabled = give Others
choice_of line None disabled = choice_without line disabled

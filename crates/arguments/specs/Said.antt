-- Chains steps that read arguments. Each step has a result, or the refusal of what breaks a rule.
use Rattle.std.specs.Prelude.{ℕ, Bool, List, Option, Some, None, Result, Ok, Err, if◌then◌else◌}
use Rattle.std.specs.Option.{ok_or}
pub use Rattle.support.specs.ResultSteps.{◌>>=◌}
use Rattle.arguments.specs.Refused.{RefusedData, breaks}
use Rattle.arguments.specs.declared.rule.Rule.{Rule}

-- A step of reading arguments has a result, or a refusal with its detail.
abbrev pub Said : Type 0 → Type 0
Said A = Result A RefusedData

-- Returns the value that was found, and otherwise the refusal that this text, or the keyword with this name, breaks the rule.
abbrev pub found_value : {A : Type 0} → Option A → Rule → List ℕ → Said A
found_value a rule text = ok_or a (breaks rule text)

-- Succeeds if a condition is true, and otherwise refuses: this text, or the keyword with this name, breaks the rule.
abbrev pub kept_rule : Bool → Rule → List ℕ → Said (Unit {0})
kept_rule is_kept rule text = if is_kept then Ok tt else Err (breaks rule text)

-- Succeeds if nothing breaks a rule, and otherwise refuses.
abbrev pub no_breach : Option (Rule × List ℕ) → Said (Unit {0})
no_breach None = Ok tt
no_breach (Some broken) = Err (breaks broken.0 broken.1)

-- Defines the refusal of a value that names nothing.
use Rattle.std.specs.Prelude.{ℕ, List, [], Option}
use Rattle.arguments.specs.Said.{Said, found_value}
use Rattle.arguments.specs.declared.rule.Rule.{Rule}
use Rattle.values.specs.Data.{Data, text}

-- Returns the text of a value, which is empty for any other type.
abbrev pub text_said : Data → List ℕ
text_said (text t) = t
text_said _ = []

-- Returns what a value names. A value that names nothing breaks this rule.
abbrev pub named_by : {A : Type 0} → Rule → (Data → Option A) → Data → Said A
named_by rule f d = found_value (f d) rule (text_said d)

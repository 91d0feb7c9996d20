-- Reads the arguments of a call. These definitions are total: the row of the call already makes sure that each argument has the right type.
use Rattle.std.specs.Prelude.{ℕ, ℤ, Bool, List, [], codes, drop, slice_get, Option, Some, None, unwrap_or, option_and_then, if◌then◌else◌}
use Rattle.values.specs.Data.{Data, boolean, boolean_in, integer_in, text_in, object}
use Rattle.values.specs.declared.object.Feature.{Feature}
use Rattle.values.specs.declared.object.Feature.TheVariants as features
use Rattle.values.specs.declared.object.Object.TheVariants as objects
use Rattle.arguments.specs.Arguments.{ArgumentsData}
use Rattle.values.specs.Flat.{flat, flat_all}
use Rattle.arguments.specs.Row.{value_named}
use Rattle.arguments.specs.declared.readers.Requirement.{Requirement}
use Rattle.arguments.specs.declared.readers.Requirement.TheVariants as requirements

-- Returns the positional argument at an index.
abbrev pub argument : ℕ → ArgumentsData → Option Data
argument i a = slice_get a.positional i

-- Returns the value of a keyword.
abbrev pub keyword : List ℕ → ArgumentsData → Option Data
keyword name a = value_named name a.named

-- Returns the text of a value, which is empty if there is none.
abbrev pub text_or_none : Option Data → List ℕ
text_or_none d = unwrap_or (option_and_then text_in d) []

-- Returns the texts in a value, with lists flattened.
abbrev pub texts_in : Option Data → List (List ℕ)
texts_in None = []
texts_in (Some d) = flat d

-- Returns the text at an index, which is empty if there is none.
abbrev pub text_at : ℕ → ArgumentsData → List ℕ
text_at i a = text_or_none (argument i a)

-- Returns the text at an index, and the default if there is none.
abbrev pub text_or : ℕ → List ℕ → ArgumentsData → List ℕ
text_or i default a = unwrap_or (option_and_then text_in (argument i a)) default

-- Returns the boolean at an index, and the default if there is none.
abbrev pub flag_at : ℕ → Bool → ArgumentsData → Bool
flag_at i default a = unwrap_or (option_and_then boolean_in (argument i a)) default

-- Returns the text of a keyword, which is empty if it is absent.
abbrev pub text_of : List ℕ → ArgumentsData → List ℕ
text_of name a = text_or_none (keyword name a)

-- Returns the text of a keyword, and none if it is absent.
abbrev pub text_given : List ℕ → ArgumentsData → Option (List ℕ)
text_given name a = option_and_then text_in (keyword name a)

-- Returns the boolean of a keyword, and the default if it is absent.
abbrev pub flag : List ℕ → Bool → ArgumentsData → Bool
flag name default a = unwrap_or (option_and_then boolean_in (keyword name a)) default

-- Returns the integer of a keyword, and the default if it is absent.
abbrev pub integer_of : List ℕ → ℤ → ArgumentsData → ℤ
integer_of name default a = unwrap_or (option_and_then integer_in (keyword name a)) default

-- Returns the texts of a keyword, and none if it is absent.
abbrev pub texts : List ℕ → ArgumentsData → List (List ℕ)
texts name a = texts_in (keyword name a)

-- Returns the texts in the positional arguments from an index on.
abbrev pub texts_from : ℕ → ArgumentsData → List (List ℕ)
texts_from i a = flat_all (drop i a.positional)

-- ---- the keyword `required`

-- Returns the requirement of a boolean.
abbrev pub of_boolean : Bool → Requirement
of_boolean is_required = if is_required then requirements.Required else requirements.Optional

-- Returns the requirement of a feature: an enabled one requires, an automatic one does not, and for a disabled one nothing is looked up.
abbrev pub of_feature : Feature → Requirement
of_feature features.Enabled = requirements.Required
of_feature features.Auto = requirements.Optional
of_feature features.Disabled = requirements.Disabled

-- Returns the requirement of a boolean or a feature.
abbrev pub requirement_in : Data → Option Requirement
requirement_in (boolean b) = Some (of_boolean b)
requirement_in (object (objects.Feature feature)) = Some (of_feature feature)
requirement_in _ = None

-- Returns the requirement that the keyword `required` gives, and the default if the keyword is absent.
abbrev pub requirement : Requirement → ArgumentsData → Requirement
requirement default a = unwrap_or (option_and_then requirement_in (keyword (codes "required") a)) default

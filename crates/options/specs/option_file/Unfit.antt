-- Defines why a call of `option` declares no option: the first fault of its arguments, in their order.
use Rattle.std.specs.Prelude.{ℕ, Bool, not, List, [], ◌∷◌, Option, Some, None, codes, is_some, if◌then◌else◌}
use Rattle.syntax.specs.ExpressionTree.{ArgumentTree, ArgumentTrees, MoreArguments, NoArgument}
use Rattle.option_values.specs.BuiltIns.{is_built_in}
use Rattle.option_values.specs.declared.kind.OptionType.{OptionType}
use Rattle.option_values.specs.declared.kind.OptionType.TheVariants as types
use Rattle.options.specs.option_file.Given.{Given, Text, given_of_argument}
use Rattle.options.specs.option_file.Keywords.{Keywords, bound_in, choices_in, keyword_named, type_in}
use Rattle.options.specs.option_file.Misfits.{MisfitData, RefusedData, Nameless, NoName, BuiltIn, TooMany, Unknown}
use Rattle.options.specs.option_file.Misfits.{NoPlain, NoType, NoChoices, NoBound, Missing, refused_as}
use Rattle.options.specs.option_file.Names.{is_option_name}
use Rattle.options.specs.declared.option_file.keyword.OptionKeyword.{OptionKeyword}
use Rattle.options.specs.declared.option_file.keyword.OptionKeyword.TheVariants as words

-- Returns the arguments as a list.
abbrev pub list_of_arguments : ArgumentTrees → List ArgumentTree
list_of_arguments NoArgument = []
list_of_arguments (MoreArguments key e more) = (key, e) ∷ list_of_arguments more

-- Returns the first refusal, or else the later one.
abbrev pub or_later : Option RefusedData → Option RefusedData → Option RefusedData
or_later (Some r) later = Some r
or_later None later = later

-- Returns the first refusal, or else the last one.
abbrev pub or_last : Option RefusedData → RefusedData → RefusedData
or_last (Some r) last = r
or_last None last = last

-- Refuses with this misfit unless the condition is true.
abbrev pub unless : Bool → MisfitData → Option RefusedData
unless is_so m = if is_so then None else Some (refused_as m)

-- ---- the name

-- Refuses a name that an option of a project can't have.
abbrev pub name_refused : List ℕ → Option RefusedData
name_refused name = if is_option_name name then unless (not (is_built_in name)) (BuiltIn name) else Some (refused_as (NoName name))

-- Refuses what is no text, or no name that an option of a project can have.
abbrev pub given_refused : Option Given → Option RefusedData
given_refused (Some (Text name)) = name_refused name
given_refused _ = Some (refused_as Nameless)

-- ---- the other arguments, each by its keyword

-- Refuses what a keyword can't give.
abbrev pub noted_refused : List ℕ → OptionKeyword → Given → Option RefusedData
noted_refused key words.Kind g = unless (is_some (type_in g)) (NoType key)
noted_refused key words.Choices g = unless (is_some (choices_in g)) (NoChoices key)
noted_refused key words.Min g = unless (is_some (bound_in g)) (NoBound key)
noted_refused key words.Max g = unless (is_some (bound_in g)) (NoBound key)
noted_refused key words.Value g = None
noted_refused key words.NoEffect g = None

-- Refuses a keyword with something other than plain values, or with what it can't give.
abbrev pub plain_refused : List ℕ → OptionKeyword → Option Given → Option RefusedData
plain_refused key keyword None = Some (refused_as (NoPlain key))
plain_refused key keyword (Some g) = noted_refused key keyword g

-- Refuses an unknown keyword, or what a known one can't give.
abbrev pub keyword_refused : List ℕ → Option OptionKeyword → Option Given → Option RefusedData
keyword_refused key None g = Some (refused_as (Unknown key))
keyword_refused key (Some keyword) g = plain_refused key keyword g

-- Refuses an argument without a keyword, or with a wrong one.
abbrev pub argument_refused : ArgumentTree → Option RefusedData
argument_refused (None, e) = Some (refused_as TooMany)
argument_refused (Some key, e) = keyword_refused key (keyword_named key) (given_of_argument e)

-- Returns the refusal of the first wrong argument.
abbrev pub first_refused : List ArgumentTree → Option RefusedData
first_refused [] = None
first_refused (a ∷ others) = or_later (argument_refused a) (first_refused others)

-- ---- a required keyword

-- Returns the keyword that an option of this type lacks.
abbrev pub needed_by : Option OptionType → MisfitData
needed_by None = Missing (codes "type")
needed_by (Some types.Combo) = Missing (codes "choices")
needed_by (Some t) = Missing (codes "value")

-- Returns the refusal of a missing keyword.
abbrev pub missing_keyword_refusal : Option Keywords → RefusedData
missing_keyword_refusal None = refused_as Nameless
missing_keyword_refusal (Some k) = refused_as (needed_by k.kind)

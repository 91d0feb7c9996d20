-- Defines what a call of `option` declares.
use Rattle.std.specs.Prelude.{ℕ, Bool, false, not, ◌||◌, ◌&&◌, List, [], ◌∷◌, ◌++◌, Option, Some, None, Result, Ok, Err, if◌then◌else◌}
use Rattle.std.specs.Option.{option_map, option_and_then}
use Rattle.syntax.specs.ExpressionTree.{ArgumentTree, ArgumentTrees, NoArgument, MoreArguments, arguments}
use Rattle.support.specs.Among.{is_among}
use Rattle.option_values.specs.BuiltIns.{is_built_in}
use Rattle.options.specs.declared.option_file.keyword.OptionKeyword.{OptionKeyword}
use Rattle.options.specs.option_file.Declarations.{Declaration}
use Rattle.options.specs.option_file.Given.{Given, Text, given_of_argument}
use Rattle.options.specs.option_file.Keywords.{Keywords, nothing_given, keyword_named, is_left_out, noted_keywords, asked_by}
use Rattle.options.specs.option_file.Misfits.{RefusedData, LeftOut, Nameless, Twice, refused_as}
use Rattle.options.specs.option_file.Names.{is_option_name}
use Rattle.options.specs.option_file.Unfit.{first_refused, given_refused, missing_keyword_refusal, list_of_arguments, or_last}

-- Returns whether an argument's keyword, if it has one, is among these.
abbrev pub stands_key : List (List ℕ) → Option (List ℕ) → Bool
stands_key keys None = false
stands_key keys (Some key) = is_among keys key

-- Returns the keywords, with one more if there is one.
abbrev pub with_key : List (List ℕ) → Option (List ℕ) → List (List ℕ)
with_key keys None = keys
with_key keys (Some key) = keys ++ key ∷ []

-- Returns whether a keyword is among these or occurred before.
abbrev pub gives_twice : List (List ℕ) → ArgumentTrees → Bool
gives_twice keys NoArgument = false
gives_twice keys (MoreArguments key e more) = stands_key keys key || gives_twice (with_key keys key) more

-- Returns whether an argument's keyword is left out.
abbrev pub is_left_out_key : Option (List ℕ) → Bool
is_left_out_key None = false
is_left_out_key (Some key) = is_left_out key

-- Returns whether a keyword occurs that is left out.
abbrev pub gives_left_out : ArgumentTrees → Bool
gives_left_out NoArgument = false
gives_left_out (MoreArguments key e more) = is_left_out_key key || gives_left_out more

-- Returns whether a project may give an option this name.
abbrev pub is_free_name : List ℕ → Bool
is_free_name name = is_option_name name && not (is_built_in name)

-- Returns the name of an option, if a text gives one that a project may use.
abbrev pub name_in : Option Given → Option (List ℕ)
name_in (Some (Text name)) = if is_free_name name then Some name else None
name_in _ = None

-- Adds a known keyword and what it gives.
abbrev pub with_keyword : Keywords → Option OptionKeyword → Option Given → Option Keywords
with_keyword k (Some keyword) (Some g) = noted_keywords k keyword g
with_keyword k (Some keyword) None = None
with_keyword k None g = None

-- Adds one more argument, which a known keyword gives.
abbrev pub with_argument : Keywords → ArgumentTree → Option Keywords
with_argument k (None, e) = None
with_argument k (Some key, e) = with_keyword k (keyword_named key) (given_of_argument e)

-- Adds what these arguments give to that of earlier ones, if known keywords give them all.
abbrev pub keywords_from : Keywords → ArgumentTrees → Option Keywords
keywords_from k NoArgument = Some k
keywords_from k (MoreArguments key e more) = option_and_then (λ next. keywords_from next more) (with_argument k (key, e))

-- Returns an option of this name with these keywords.
abbrev pub with_name : ℕ → List ℕ → Keywords → Option Declaration
with_name line name k = option_map (λ a. record { name = name; kind = a.0; value = a.1; line = line }) (asked_by k)

-- Returns the option that these arguments declare: its name, followed by keywords.
abbrev pub option_of : ℕ → ArgumentTrees → Option Declaration
option_of line (MoreArguments None e more) =
    option_and_then (λ name. option_and_then (with_name line name) (keywords_from nothing_given more)) (name_in (given_of_argument e))
option_of line (MoreArguments (Some key) e more) = None
option_of line NoArgument = None

-- ---- faults of the arguments

-- Returns the keyword, or an empty text if there is none.
abbrev pub key_said : Option (List ℕ) → List ℕ
key_said None = []
key_said (Some key) = key

-- Returns the first keyword that is among these or occurred before.
abbrev pub first_twice : List (List ℕ) → List ArgumentTree → List ℕ
first_twice keys [] = []
first_twice keys (a ∷ others) = if stands_key keys a.0 then key_said a.0 else first_twice (with_key keys a.0) others

-- Returns the first keyword that is left out.
abbrev pub first_left_out : List ArgumentTree → List ℕ
first_left_out [] = []
first_left_out (a ∷ others) = if is_left_out_key a.0 then key_said a.0 else first_left_out others

-- Returns the first faulty argument after the name, or else a missing keyword.
abbrev pub others_unfit : List ArgumentTree → RefusedData
others_unfit others = or_last (first_refused others) (missing_keyword_refusal (keywords_from nothing_given (arguments others)))

-- Returns what is wrong with the name, or else with the other arguments.
abbrev pub first_unfit : ArgumentTree → List ArgumentTree → RefusedData
first_unfit (Some key, e) others = refused_as Nameless
first_unfit (None, e) others = or_last (given_refused (given_of_argument e)) (others_unfit others)

-- Returns the fault of the name, or else of the other arguments.
abbrev pub unfit : List ArgumentTree → RefusedData
unfit [] = refused_as Nameless
unfit (a ∷ others) = first_unfit a others

-- Returns the declaration if there is one, and else the fault.
abbrev pub or_fault : RefusedData → Option Declaration → Result Declaration RefusedData
or_fault refused (Some d) = Ok d
or_fault refused None = Err refused

-- Returns the option that a call on this line declares, or what is wrong with it. A keyword that occurs twice is reported first, then one
-- that is left out, then everything else.
abbrev pub call_declares : ℕ → ArgumentTrees → Result Declaration RefusedData
call_declares line given_arguments =
    if gives_twice [] given_arguments then Err (refused_as (Twice (first_twice [] (list_of_arguments given_arguments))))
    else (if gives_left_out given_arguments then Err (refused_as (LeftOut (first_left_out (list_of_arguments given_arguments))))
    else or_fault (unfit (list_of_arguments given_arguments)) (option_of line given_arguments))

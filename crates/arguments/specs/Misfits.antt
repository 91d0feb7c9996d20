-- Defines what is wrong with the arguments of a call, by its row, and the message about it.
use Rattle.std.specs.Prelude.{ℕ, ◌+◌, nat_le, ◌&&◌, ◌||◌, List, [], ◌∷◌, ◌++◌, length, codes, decimal}
use Rattle.std.specs.Prelude.{Option, Some, None, is_none, Result, Ok, Err, bytes_eq, if◌then◌else◌}
use Rattle.std.specs.List.{list_any}
use Rattle.support.specs.Among.{is_among}
use Rattle.support.specs.declared.faults.refusal.Refusal.{Refusal}
use Rattle.support.specs.declared.faults.refusal.Refusal.TheVariants as refusals
use Rattle.values.specs.Data.{Data}
use Rattle.arguments.specs.Arguments.{ArgumentsData}
use Rattle.arguments.specs.Refused.{RefusedData}
use Rattle.arguments.specs.Row.{KeywordData, RowData, common_left_out, is_of, keyword_kind, kind_at, value_named}
use Rattle.arguments.specs.Words.{kind_words, value_words}
use Rattle.arguments.specs.declared.row.ArgumentKind.{ArgumentKind}

-- The reasons why a row does not accept arguments.
pub data MisfitData : Type 0 where
  -- A keyword occurs twice.
  Twice : List ℕ → MisfitData
  -- A keyword is not supported.
  LeftOut : List ℕ → MisfitData
  -- There are fewer positional arguments than needed: the first number is needed, the second given.
  TooFew : ℕ → ℕ → MisfitData
  -- There are more positional arguments than this number, which the call takes.
  TooMany : ℕ → MisfitData
  -- The positional argument at an index has another type than this kind.
  Place : ℕ → ArgumentKind → Data → MisfitData
  -- The call does not take a keyword with this name.
  Unknown : List ℕ → MisfitData
  -- The value of a keyword has another type than this kind.
  Keyword : List ℕ → ArgumentKind → Data → MisfitData
  -- A required keyword is missing.
  Missing : List ℕ → MisfitData

-- ---- the first misfit

-- Returns the first misfit, and otherwise the other one.
abbrev pub or_else : Option MisfitData → Option MisfitData → Option MisfitData
or_else (Some m) other = Some m
or_else None other = other

-- Returns the first keyword that is among these names or occurs again.
abbrev pub again : List (List ℕ) → List (List ℕ × Data) → Option MisfitData
again names [] = None
again names (n ∷ ns) = if list_any (bytes_eq n.0) names then Some (Twice n.0) else again (names ++ n.0 ∷ []) ns

-- Returns the first keyword that occurs twice.
abbrev pub twice : List (List ℕ × Data) → Option MisfitData
twice ns = again [] ns

-- Returns the first keyword that is among those that are never supported, or among these.
abbrev pub left_out : List (List ℕ) → List (List ℕ × Data) → Option MisfitData
left_out names [] = None
left_out names (n ∷ ns) = if is_among common_left_out n.0 || is_among names n.0 then Some (LeftOut n.0) else left_out names ns

-- Returns the misfit of too few positional arguments.
abbrev pub too_few : ℕ → ℕ → Option MisfitData
too_few needed given = if nat_le needed given then None else Some (TooFew needed given)

-- Checks the positional argument at an index by the kind that the row has for it, if there is one.
abbrev pub at_place : ℕ → Option ArgumentKind → Data → Option MisfitData
at_place i None d = Some (TooMany i)
at_place i (Some kind) d = if is_of kind d then None else Some (Place i kind d)

-- Returns the first misfit among the positional arguments from this index on.
abbrev pub positional_misfit : RowData → ℕ → List Data → Option MisfitData
positional_misfit row i [] = None
positional_misfit row i (d ∷ ds) = or_else (at_place i (kind_at row i) d) (positional_misfit row (i + 1) ds)

-- Checks the value of a keyword by the kind that the row has for it, if there is one.
abbrev pub of_keyword : List ℕ → Option ArgumentKind → Data → Option MisfitData
of_keyword name None d = Some (Unknown name)
of_keyword name (Some kind) d = if is_of kind d then None else Some (Keyword name kind d)

-- Returns the first misfit among the keyword arguments.
abbrev pub keyword_misfit : List KeywordData → List (List ℕ × Data) → Option MisfitData
keyword_misfit ks [] = None
keyword_misfit ks (n ∷ ns) = or_else (of_keyword n.0 (keyword_kind n.0 ks) n.1) (keyword_misfit ks ns)

-- Returns the first required keyword that is missing.
abbrev pub missing_keyword : List KeywordData → List (List ℕ × Data) → Option MisfitData
missing_keyword [] ns = None
missing_keyword (k ∷ ks) ns = if k.is_needed && is_none (value_named k.name ns) then Some (Missing k.name) else missing_keyword ks ns

-- Returns the first misfit apart from repeated keywords. In this order: an unsupported keyword, too few arguments, a superfluous or wrong
-- positional argument, an unknown or wrong keyword, and a missing keyword.
abbrev pub unfit : RowData → ArgumentsData → Option MisfitData
unfit row a = or_else (left_out row.left_out a.named) (or_else (too_few row.needed (length a.positional))
    (or_else (positional_misfit row 0 a.positional) (or_else (keyword_misfit row.keywords a.named) (missing_keyword row.keywords a.named))))

-- Returns the first misfit. A repeated keyword comes before all others.
abbrev pub misfit : RowData → ArgumentsData → Option MisfitData
misfit row a = or_else (twice a.named) (unfit row a)

-- ---- the refusal

-- Returns the refusal of a misfit: E11 for a repeated keyword, E23 for an unsupported one, and E9 for all others.
abbrev pub refusal_of : MisfitData → Refusal
refusal_of (Twice name) = refusals.Duplicate
refusal_of (LeftOut name) = refusals.LeftOut
refusal_of _ = refusals.Arguments

-- Returns a message about a keyword.
abbrev pub keyword_is : List ℕ → List ℕ → List ℕ
keyword_is name words = codes "keyword '" ++ (name ++ (codes "': " ++ words))

-- Returns the message that an argument must be of one kind, and is of another.
abbrev pub takes : ArgumentKind → Data → List ℕ
takes kind d = codes "takes " ++ (kind_words kind ++ (codes ", and got " ++ value_words d))

-- Returns the message about a misfit. Arguments are counted from 1.
abbrev pub words_of : MisfitData → List ℕ
words_of (Twice name) = keyword_is name (codes "occurs twice")
words_of (LeftOut name) = keyword_is name (codes "is left out")
words_of (TooFew needed given) = codes "arguments: needs " ++ (decimal needed ++ (codes ", and got " ++ decimal given))
words_of (TooMany most) = codes "arguments: takes " ++ (decimal most ++ codes ", and got more")
words_of (Place i kind d) = codes "argument " ++ (decimal (i + 1) ++ (codes ": " ++ takes kind d))
words_of (Unknown name) = keyword_is name (codes "there is none")
words_of (Keyword name kind d) = keyword_is name (takes kind d)
words_of (Missing name) = keyword_is name (codes "is missing, and is needed")

-- Returns the refusal of a misfit with its message.
abbrev pub refused_as : MisfitData → RefusedData
refused_as m = record { refusal = refusal_of m; detail = words_of m }

-- Succeeds if there is no misfit, and otherwise refuses.
abbrev pub no_misfit : Option MisfitData → Result (Unit {0}) RefusedData
no_misfit None = Ok tt
no_misfit (Some m) = Err (refused_as m)

-- Checks arguments by a row.
abbrev pub arguments_check : RowData → ArgumentsData → Result (Unit {0}) RefusedData
arguments_check row a = no_misfit (misfit row a)

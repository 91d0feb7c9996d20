-- Defines in words what is wrong with a statement of an option file.
use Rattle.std.specs.Prelude.{ℕ, List, ◌++◌, codes}
use Rattle.support.specs.declared.faults.refusal.Refusal.{Refusal}
use Rattle.support.specs.declared.faults.refusal.Refusal.TheVariants as refusals

-- A reason why a statement of an option file is refused.
pub data MisfitData : Type 0 where
  -- The statement is no call of `option`.
  NoCall : MisfitData
  -- A keyword that occurs twice, and one that is left out.
  Twice : (key : List ℕ) → MisfitData
  LeftOut : (key : List ℕ) → MisfitData
  -- An option of this name was declared before.
  Again : (name : List ℕ) → MisfitData
  -- No text gives the name of the option, or the text is no valid name, or it is that of a built-in option.
  Nameless : MisfitData
  NoName : (text : List ℕ) → MisfitData
  BuiltIn : (name : List ℕ) → MisfitData
  -- A further argument without a keyword.
  TooMany : MisfitData
  -- An unknown keyword, and one with something other than plain values.
  Unknown : (key : List ℕ) → MisfitData
  NoPlain : (key : List ℕ) → MisfitData
  -- A keyword whose value is no type, no choices, or no bound.
  NoType : (key : List ℕ) → MisfitData
  NoChoices : (key : List ℕ) → MisfitData
  NoBound : (key : List ℕ) → MisfitData
  -- A required keyword that is missing.
  Missing : (key : List ℕ) → MisfitData

-- The refusal of a statement, and its details.
pub record RefusedData : Type 0 where
  pub refusal : Refusal
  pub detail : List ℕ

-- Returns E23 for a keyword that is left out, and else E15.
abbrev pub refusal_of : MisfitData → Refusal
refusal_of (LeftOut key) = refusals.LeftOut
refusal_of _ = refusals.OptionValue

-- Returns the text in single quotes, a colon, a space and these words.
abbrev pub text_is : List ℕ → List ℕ → List ℕ
text_is text words = codes "'" ++ (text ++ (codes "': " ++ words))

-- Returns `keyword`, the key in single quotes, a colon and these words.
abbrev pub keyword_is : List ℕ → List ℕ → List ℕ
keyword_is key words = codes "keyword '" ++ (key ++ (codes "': " ++ words))

-- Returns the details in words.
abbrev pub words_of : MisfitData → List ℕ
words_of NoCall = codes "statement: is no call of option"
words_of (Twice key) = keyword_is key (codes "occurs twice")
words_of (LeftOut key) = keyword_is key (codes "is left out")
words_of (Again name) = codes "option '" ++ (name ++ codes "': occurs twice")
words_of Nameless = codes "arguments: needs the name of an option"
words_of (NoName text) = text_is text (codes "is no name of an option")
words_of (BuiltIn name) = text_is name (codes "is the name of a built-in option")
words_of TooMany = codes "arguments: takes 1, and got more"
words_of (Unknown key) = keyword_is key (codes "there is none")
words_of (NoPlain key) = keyword_is key (codes "takes a plain value")
words_of (NoType key) = keyword_is key (codes "takes the name of a type")
words_of (NoChoices key) = keyword_is key (codes "takes a list of texts")
words_of (NoBound key) = keyword_is key (codes "takes an integer")
words_of (Missing key) = keyword_is key (codes "is missing, and is needed")

-- Returns the refusal with its details.
abbrev pub refused_as : MisfitData → RefusedData
refused_as m = record { refusal = refusal_of m; detail = words_of m }

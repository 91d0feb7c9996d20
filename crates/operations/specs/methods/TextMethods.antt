-- Defines the methods of texts: the type `str` of the page "Reference manual".
use Rattle.std.specs.Prelude.{ℕ, List, [], map, nat_eq, Result, Ok, codes}
use Rattle.std.specs.Char.{to_ascii_lowercase, to_ascii_uppercase}
use Rattle.std.specs.List as lists
use Rattle.values.specs.declared.refusal.OperationRefusal.{OperationRefusal}
use Rattle.values.specs.Data.{Data, boolean, integer, text}
use Rattle.values.specs.Limits.{within}
use Rattle.values.specs.texts.Search as search
use Rattle.values.specs.texts.Joined.{joined_texts, replaced_text}
use Rattle.values.specs.texts.Letters.{underscorified_text}
use Rattle.values.specs.texts.Number.{integer_of}
use Rattle.values.specs.texts.Part.{part}
use Rattle.values.specs.texts.Pieces as pieces
use Rattle.values.specs.texts.Strip.{stripped_text, is_blank, is_among}
use Rattle.versions.specs.Condition.{meets}
use Rattle.values.specs.declared.language_names.value_methods.TextMethod.{TextMethod}
use Rattle.values.specs.declared.language_names.value_methods.TextMethod.TheVariants as method
use Rattle.operations.specs.methods.Steps.{◌>>=◌, result_of_method}
use Rattle.operations.specs.methods.Arguments.{no_arguments, one_text, two_texts, bounds}
use Rattle.operations.specs.methods.FlatTexts.{flat_texts}
use Rattle.operations.specs.methods.Formatted.{formatted_text}
use Rattle.operations.specs.operators.TextLists.{text_list}
use Rattle.values.specs.language_names.ValueMethods.{text_method_named}

-- Defines `contains`.
abbrev pub contains : List ℕ → List Data → Result Data OperationRefusal
contains t arguments = do
  s ← one_text arguments
  Ok (boolean (search.contains t s))

-- Defines `startswith`.
abbrev pub starts_with : List ℕ → List Data → Result Data OperationRefusal
starts_with t arguments = do
  s ← one_text arguments
  Ok (boolean (lists.starts_with nat_eq t s))

-- Defines `endswith`.
abbrev pub ends_with : List ℕ → List Data → Result Data OperationRefusal
ends_with t arguments = do
  s ← one_text arguments
  Ok (boolean (lists.ends_with nat_eq t s))

-- Defines `format`.
abbrev pub format : List ℕ → List Data → Result Data OperationRefusal
format t arguments = do
  s ← formatted_text t arguments
  within (text s)

-- Defines `join`: the receiver separates the texts of the arguments.
abbrev pub join : List ℕ → List Data → Result Data OperationRefusal
join t arguments = do
  ts ← flat_texts arguments
  within (text (joined_texts t ts))

-- Defines `replace`.
abbrev pub replace : List ℕ → List Data → Result Data OperationRefusal
replace t arguments = do
  both ← two_texts arguments
  s ← replaced_text t both.0 both.1
  within (text s)

-- Defines `split`, which splits at white space if it has no argument.
abbrev pub split : List ℕ → List Data → Result Data OperationRefusal
split t [] = do
  found ← pieces.within_items (pieces.words t)
  text_list found
split t arguments = do
  separator ← one_text arguments
  found ← pieces.split_at t separator
  text_list found

-- Defines `splitlines`.
abbrev pub split_lines : List ℕ → List Data → Result Data OperationRefusal
split_lines t arguments = do
  _ ← no_arguments arguments
  found ← pieces.within_items (pieces.lines t)
  text_list found

-- Defines `strip`, which removes white space if it has no argument.
abbrev pub strip : List ℕ → List Data → Result Data OperationRefusal
strip t [] = within (text (stripped_text is_blank t))
strip t arguments = do
  set ← one_text arguments
  within (text (stripped_text (is_among set) t))

-- Defines `substring`.
abbrev pub substring : List ℕ → List Data → Result Data OperationRefusal
substring t arguments = do
  ends ← bounds arguments
  within (text (part ends.0 ends.1 t))

-- Defines `to_int`.
abbrev pub to_int : List ℕ → List Data → Result Data OperationRefusal
to_int t arguments = do
  _ ← no_arguments arguments
  z ← integer_of t
  Ok (integer z)

-- Defines `to_lower`.
abbrev pub to_lower : List ℕ → List Data → Result Data OperationRefusal
to_lower t arguments = do
  _ ← no_arguments arguments
  within (text (map to_ascii_lowercase t))

-- Defines `to_upper`.
abbrev pub to_upper : List ℕ → List Data → Result Data OperationRefusal
to_upper t arguments = do
  _ ← no_arguments arguments
  within (text (map to_ascii_uppercase t))

-- Defines `underscorify`.
abbrev pub underscorify : List ℕ → List Data → Result Data OperationRefusal
underscorify t arguments = do
  _ ← no_arguments arguments
  within (text (underscorified_text t))

-- Defines `version_compare`.
abbrev pub version_compare : List ℕ → List Data → Result Data OperationRefusal
version_compare t arguments = do
  condition ← one_text arguments
  Ok (boolean (meets t condition))

-- Describes in words what a method of a text takes.
abbrev pub argument_words : TextMethod → List ℕ
argument_words method.Contains = codes "one text"
argument_words method.StartsWith = codes "one text"
argument_words method.EndsWith = codes "one text"
argument_words method.Format = codes "values that are no objects and hold none"
argument_words method.Join = codes "texts and lists of texts"
argument_words method.Replace = codes "two texts, of which the first is not empty"
argument_words method.Split = codes "no arguments, or one text that is not empty"
argument_words method.SplitLines = codes "no arguments"
argument_words method.Strip = codes "no arguments, or one text"
argument_words method.Substring = codes "at most two integers"
argument_words method.ToInt = codes "no arguments, of a text that is an integer"
argument_words method.ToLower = codes "no arguments"
argument_words method.ToUpper = codes "no arguments"
argument_words method.Underscorify = codes "no arguments"
argument_words method.VersionCompare = codes "one text"

-- Returns the result of a method of a text.
abbrev pub call : TextMethod → List ℕ → List Data → Result Data OperationRefusal
call method.Contains t arguments = contains t arguments
call method.StartsWith t arguments = starts_with t arguments
call method.EndsWith t arguments = ends_with t arguments
call method.Format t arguments = format t arguments
call method.Join t arguments = join t arguments
call method.Replace t arguments = replace t arguments
call method.Split t arguments = split t arguments
call method.SplitLines t arguments = split_lines t arguments
call method.Strip t arguments = strip t arguments
call method.Substring t arguments = substring t arguments
call method.ToInt t arguments = to_int t arguments
call method.ToLower t arguments = to_lower t arguments
call method.ToUpper t arguments = to_upper t arguments
call method.Underscorify t arguments = underscorify t arguments
call method.VersionCompare t arguments = version_compare t arguments

-- Returns the result of the method of a text with this name.
abbrev pub answer : List ℕ → List ℕ → List Data → Result Data OperationRefusal
answer t name arguments = result_of_method (text_method_named name) (λ m. call m t arguments)

-- Defines the arguments that the methods of the compiler take.
use Rattle.std.specs.Prelude.{List, [], ◌∷◌, ◌++◌, codes}
use Rattle.arguments.specs.declared.row.ArgumentKind.TheVariants.{Any, Requirement, Text, Texts}
use Rattle.arguments.specs.Row.{KeywordData, RowData, optional, row, with_others}
use Rattle.values.specs.declared.language_names.object_methods.CompilerMethod.{CompilerMethod}
use Rattle.values.specs.declared.language_names.object_methods.CompilerMethod.TheVariants as methods

-- Returns the keywords of all methods that check something. Values of any type are accepted and ignored, since the machine file has the
-- answers.
abbrev pub asking_keywords : List KeywordData
asking_keywords =
    optional (codes "prefix") Any
    ∷ optional (codes "dependencies") Any
    ∷ optional (codes "args") Any
    ∷ optional (codes "include_directories") Any
    ∷ optional (codes "dirs") Any
    ∷ []

-- Returns these keywords and `required`.
abbrev pub check_keywords : List KeywordData
check_keywords = asking_keywords ++ optional (codes "required") Requirement ∷ []

-- Returns the arguments that a method takes.
abbrev pub row_of : CompilerMethod → RowData
row_of methods.Check = row (Text ∷ []) 1 check_keywords
row_of methods.CheckInside = row (Text ∷ Text ∷ []) 2 check_keywords
row_of methods.FindLibrary = row (Text ∷ []) 1 check_keywords
row_of methods.Id = row [] 0 []
row_of methods.Number = row (Text ∷ []) 1 asking_keywords
-- Texts, or lists of texts of any depth.
row_of methods.SupportedArguments = with_others Texts (row [] 0 asking_keywords)
row_of methods.Version = row [] 0 []

-- Defines the rows of `project` and `get_option`: the arguments that each takes.
use Rattle.std.specs.Prelude.{List, [], ◌∷◌, codes}
use Rattle.arguments.specs.declared.row.ArgumentKind.TheVariants.{Any, Text, Texts, TextsOrDictionary}
use Rattle.arguments.specs.Row.{KeywordData, RowData, optional, row, with_others}

-- Returns the keywords of `project`.
abbrev pub project_keywords : List KeywordData
project_keywords =
    optional (codes "version") Text
    ∷ optional (codes "license") Texts
    ∷ optional (codes "default_options") TextsOrDictionary
    ∷ optional (codes "meson_version") Any
    ∷ []

-- Returns the row of `project`: a name and languages.
abbrev pub project_row : RowData
project_row = with_others Texts (row (Text ∷ []) 1 project_keywords)

-- Returns the row of `get_option`: the name of an option.
abbrev pub get_option_row : RowData
get_option_row = row (Text ∷ []) 1 []

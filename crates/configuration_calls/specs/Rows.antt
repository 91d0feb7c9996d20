-- Defines the rows of the functions and of the methods: the arguments that each takes.
use Rattle.std.specs.Prelude.{List, [], ◌∷◌, codes}
use Rattle.arguments.specs.declared.row.ArgumentKind.TheVariants as kinds
use Rattle.arguments.specs.declared.row.Piece.TheVariants as pieces
use Rattle.arguments.specs.Row.{KeywordData, RowData, leaving_out, required_keyword, optional, row}
use Rattle.values.specs.declared.language_names.object_methods.ConfigurationMethod.{ConfigurationMethod}
use Rattle.values.specs.declared.language_names.object_methods.ConfigurationMethod.TheVariants as methods

-- Returns the row of `configuration_data(dictionary)`, whose argument is optional.
abbrev pub configuration_data_row : RowData
configuration_data_row = row (kinds.Dictionary ∷ []) 0 []

-- Returns the keywords of `configure_file`. A value of any type for `encoding` is accepted and ignored.
abbrev pub file_keywords : List KeywordData
file_keywords =
    required_keyword (codes "output") kinds.Text
    ∷ required_keyword (codes "configuration") kinds.Configuration
    ∷ optional (codes "input") (kinds.Flat pieces.Path)
    ∷ optional (codes "install_dir") kinds.Text
    ∷ optional (codes "format") kinds.Any
    ∷ optional (codes "encoding") kinds.Any
    ∷ []

-- Returns the row of `configure_file()`. The keywords `command` and `copy` are not supported.
abbrev pub configure_file_row : RowData
configure_file_row = leaving_out (codes "command" ∷ codes "copy" ∷ []) (row [] 0 file_keywords)

-- Returns the row of `configure_file()` with another `format` than `'meson'`, which is not supported.
abbrev pub other_format_row : RowData
other_format_row = leaving_out (codes "command" ∷ codes "copy" ∷ codes "format" ∷ []) (row [] 0 file_keywords)

-- ---- methods

-- Returns the keyword `description`. A value of any type is accepted and ignored.
abbrev pub description_keyword : List KeywordData
description_keyword = optional (codes "description") kinds.Any ∷ []

-- Returns the row of a method.
abbrev pub row_of : ConfigurationMethod → RowData
-- `get(name, fallback)`
row_of methods.Get = row (kinds.Text ∷ kinds.Any ∷ []) 1 []
row_of methods.GetUnquoted = row (kinds.Text ∷ kinds.Any ∷ []) 1 []
-- `has(name)`
row_of methods.Has = row (kinds.Text ∷ []) 1 []
row_of methods.Keys = row [] 0 []
-- `merge_from(other)`
row_of methods.MergeFrom = row (kinds.ConfigurationData ∷ []) 1 []
-- `set(name, value)`
row_of methods.Set = row (kinds.Text ∷ kinds.Setting ∷ []) 2 description_keyword
row_of methods.Set10 = row (kinds.Text ∷ kinds.Boolean ∷ []) 2 description_keyword
row_of methods.SetQuoted = row (kinds.Text ∷ kinds.Text ∷ []) 2 description_keyword

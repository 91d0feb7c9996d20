-- Defines the rows of the functions: the arguments that each takes.
use Rattle.std.specs.Prelude.{List, [], ◌∷◌, ◌++◌, codes}
use Rattle.arguments.specs.declared.row.ArgumentKind.TheVariants.{Any, Boolean, Flat, IntegerOrText, Text, Texts}
use Rattle.arguments.specs.declared.row.Piece.TheVariants as pieces
use Rattle.arguments.specs.Row.{KeywordData, RowData, required_keyword, optional, row, with_others}

-- Returns the row of `files(texts..)`.
abbrev pub files_row : RowData
files_row = with_others Texts (row [] 0 [])

-- Returns the row of `include_directories(texts..)`. A value of any type for `is_system` is accepted and ignored.
abbrev pub include_directories_row : RowData
include_directories_row = with_others Texts (row [] 0 (optional (codes "is_system") Any ∷ []))

-- Returns the row of `add_project_arguments(texts..)` and `add_project_link_arguments(texts..)`.
abbrev pub project_words_row : RowData
project_words_row = with_others Texts (row [] 0 (required_keyword (codes "language") Texts ∷ []))

-- Returns the keywords of all build targets.
abbrev pub target_keywords : List KeywordData
target_keywords =
    optional (codes "sources") (Flat pieces.Source)
    ∷ optional (codes "include_directories") (Flat pieces.Folder)
    ∷ optional (codes "c_args") Texts
    ∷ optional (codes "link_args") Texts
    ∷ optional (codes "link_with") (Flat pieces.BuildTarget)
    ∷ optional (codes "dependencies") (Flat pieces.Dependency)
    ∷ optional (codes "install") Boolean
    ∷ optional (codes "install_dir") Text
    ∷ optional (codes "build_by_default") Boolean
    ∷ []

-- Returns the further keywords of a shared library.
abbrev pub version_keywords : List KeywordData
version_keywords =
    optional (codes "version") Text
    ∷ optional (codes "soversion") IntegerOrText
    ∷ []

-- Returns the row of `executable(name, sources..)` and `static_library(name, sources..)`.
abbrev pub target_row : RowData
target_row = with_others (Flat pieces.Source) (row (Text ∷ []) 1 target_keywords)

-- Returns the row of `shared_library(name, sources..)` and `library(name, sources..)`.
abbrev pub shared_library_row : RowData
shared_library_row = with_others (Flat pieces.Source) (row (Text ∷ []) 1 (target_keywords ++ version_keywords))

-- Returns the keywords of `custom_target`.
abbrev pub custom_target_keywords : List KeywordData
custom_target_keywords =
    required_keyword (codes "output") Texts
    ∷ required_keyword (codes "command") (Flat pieces.CommandWord)
    ∷ optional (codes "input") (Flat pieces.Source)
    ∷ optional (codes "depend_files") (Flat pieces.Source)
    ∷ optional (codes "depends") (Flat pieces.Target)
    ∷ optional (codes "capture") Boolean
    ∷ optional (codes "depfile") Text
    ∷ optional (codes "build_by_default") Boolean
    ∷ optional (codes "install") Boolean
    ∷ optional (codes "install_dir") Text
    ∷ []

-- Returns the row of `custom_target(name)`.
abbrev pub custom_target_row : RowData
custom_target_row = row (Text ∷ []) 1 custom_target_keywords

-- Defines the rows of the functions: the arguments that each takes.
use Rattle.std.specs.Prelude.{List, [], ◌∷◌, ◌++◌, codes}
use Rattle.arguments.specs.declared.row.ArgumentKind.TheVariants.{Any, Boolean, Command, Flat, Integer, Requirement, Text, Texts}
use Rattle.arguments.specs.declared.row.ArgumentKind.TheVariants.{TextsOrDictionary}
use Rattle.arguments.specs.declared.row.Piece.TheVariants as pieces
use Rattle.arguments.specs.Row.{KeywordData, RowData, optional, row, with_others}

-- Returns the keywords of all functions that find something. A value of any type for `native` is accepted and ignored.
abbrev pub finding_keywords : List KeywordData
finding_keywords =
    optional (codes "required") Requirement
    ∷ optional (codes "disabler") Boolean
    ∷ optional (codes "native") Any
    ∷ []

-- Returns the keywords of `dependency`. Values of any type for `method`, `static` and `include_type` are accepted and ignored.
abbrev pub dependency_keywords : List KeywordData
dependency_keywords =
    finding_keywords ++ optional (codes "version") Texts
    ∷ optional (codes "method") Any
    ∷ optional (codes "static") Any
    ∷ optional (codes "include_type") Any
    ∷ []

-- Returns the row of `dependency(names..)`.
abbrev pub dependency_row : RowData
dependency_row = with_others Text (row (Text ∷ []) 1 dependency_keywords)

-- Returns the keywords of `declare_dependency`.
abbrev pub declare_dependency_keywords : List KeywordData
declare_dependency_keywords =
    optional (codes "include_directories") (Flat pieces.Folder)
    ∷ optional (codes "compile_args") Texts
    ∷ optional (codes "link_args") Texts
    ∷ optional (codes "link_with") (Flat pieces.BuildTarget)
    ∷ optional (codes "sources") (Flat pieces.Source)
    ∷ optional (codes "dependencies") (Flat pieces.Dependency)
    ∷ optional (codes "version") Text
    ∷ []

-- Returns the row of `declare_dependency()`.
abbrev pub declare_dependency_row : RowData
declare_dependency_row = row [] 0 declare_dependency_keywords

-- Returns the row of `find_program(names..)`.
abbrev pub find_program_row : RowData
find_program_row = with_others Text (row (Text ∷ []) 1 finding_keywords)

-- Returns the keywords of `install_headers`.
abbrev pub install_headers_keywords : List KeywordData
install_headers_keywords =
    optional (codes "install_dir") Text
    ∷ optional (codes "subdir") Text
    ∷ []

-- Returns the row of `install_headers(files..)`: texts and files, in lists of any depth.
abbrev pub install_headers_row : RowData
install_headers_row = with_others (Flat pieces.Path) (row [] 0 install_headers_keywords)

-- Returns the row of `install_data(files..)`.
abbrev pub install_data_row : RowData
install_data_row = with_others (Flat pieces.Path) (row [] 0 (optional (codes "install_dir") Text ∷ []))

-- Returns the row of `install_man(files..)`.
abbrev pub install_man_row : RowData
install_man_row = install_data_row

-- Returns the keywords of `test`. Values of any type for `depends`, `workdir` and `is_parallel` are accepted and ignored.
abbrev pub test_keywords : List KeywordData
test_keywords =
    optional (codes "args") (Flat pieces.Word)
    ∷ optional (codes "env") TextsOrDictionary
    ∷ optional (codes "should_fail") Boolean
    ∷ optional (codes "suite") Texts
    ∷ optional (codes "timeout") Integer
    ∷ optional (codes "depends") Any
    ∷ optional (codes "workdir") Any
    ∷ optional (codes "is_parallel") Any
    ∷ []

-- Returns the row of `test(name, program)`.
abbrev pub test_row : RowData
test_row = row (Text ∷ Command ∷ []) 2 test_keywords

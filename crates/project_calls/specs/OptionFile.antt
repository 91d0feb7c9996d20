-- Defines how the option file of a project is read.
use Rattle.std.specs.Prelude.{ℕ, List, [], ◌∷◌, codes, Result, Ok, Err, refl}
use Rattle.std.specs.Str.{is_utf8}
use Rattle.syntax.specs.Parsed.{parsed_file}
use Rattle.syntax.specs.Tree.{FileTree, Statements, NoStatement, MoreStatements}
use Rattle.support.specs.declared.faults.refusal.Refusal.TheVariants as refusals
use Rattle.options.specs.option_file.Declarations.{Declaration}
use Rattle.options.specs.option_file.Declares.{file_declares}
use Rattle.options.specs.option_file.Fault.{DeclareFaultData}
use Rattle.world.specs.Details.{refuse_line_about}
use Rattle.world.specs.DefinitionFiles.{spelled_by, tree_or_fault}
use Rattle.world.specs.Finding.{FoundData, nothing, too_long, bytes, find}
use Rattle.world.specs.World.{with_place}
use Rattle.world.specs.Deed.{Deed, give, refuse, read, change, ◌>>=◌}

-- An option file: its path, and the options that it declares.
pub record OptionFileData : Type 0 where
  pub path : List ℕ
  pub declared : List Declaration

-- Returns the statements of a file as a list.
abbrev pub list_of_statements : Statements → FileTree
list_of_statements NoStatement = []
list_of_statements (MoreStatements s ss) = s ∷ list_of_statements ss

-- Returns the options declared by statements of the present file, or refuses the first fault at its line.
unfoldable pub declared_or_fault : Result (List Declaration) DeclareFaultData → Deed (List Declaration)
declared_or_fault (Ok options) = give options
declared_or_fault (Err fault) = refuse_line_about fault.line fault.refusal fault.detail

-- Returns the options declared by a text of the present file.
unfoldable pub text_declares : List ℕ → Deed (List Declaration)
text_declares text = do
  body ← tree_or_fault (parsed_file text)
  declared_or_fault (file_declares (list_of_statements body))

-- Returns the options declared by the bytes of the present file.
unfoldable pub bytes_declare : List ℕ → Deed (List Declaration)
bytes_declare bs = do
  body ← spelled_by (is_utf8 bs) bs
  declared_or_fault (file_declares (list_of_statements body))

-- Returns the options declared by the present file, from what was found there. Refuses with E22 at its first line, then E1 to E4, and then
-- E15 and E23.
unfoldable pub declared_in : FoundData → Deed (List Declaration)
declared_in nothing = give []
declared_in too_long = refuse refusals.Limit []
declared_in (bytes bs) = bytes_declare bs

-- Returns the options declared by the file at this path, from what was found there. The present place is restored afterwards.
unfoldable pub declared_at : List ℕ → FoundData → Deed OptionFileData
declared_at path found = do
  outer ← read
  _ ← change (with_place path [] 1) (λ facts. refl)
  options ← declared_in found
  _ ← change (with_place outer.file outer.folder outer.line) (λ facts. refl)
  give (record { path = path; declared = options })

-- Returns the option file, by what was found at the new path.
unfoldable pub option_file_by : FoundData → Deed OptionFileData
option_file_by nothing = do
  old ← find (codes "meson_options.txt")
  declared_at (codes "meson_options.txt") old
option_file_by found = declared_at (codes "meson.options") found

-- Returns the option file: `meson.options`, or if that is absent `meson_options.txt`.
unfoldable pub option_file : Deed OptionFileData
option_file = do
  found ← find (codes "meson.options")
  option_file_by found

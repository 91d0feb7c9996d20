-- Defines single declared options, without their place in memory.
use Rattle.std.specs.Prelude.{ℕ, List, map, string_bytes, String}
use Rattle.std.specs.Option.{option_map}
use Rattle.std.specs.declared.alloc.Global.{Global}
use denote.Ref.{Bor}
use Rattle.option_values.specs.View.{strings_in, kind_in}
use Rattle.options.specs.declared.option_file.declaration.DeclaredValue.{DeclaredValue}
use Rattle.options.specs.declared.option_file.declaration.DeclaredValue.TheVariants as written
use Rattle.options.specs.declared.option_file.declaration.Declaration.{Declaration}
use Rattle.options.specs.option_file.Declarations as plain
use Rattle.options.specs.option_file.Given as given

-- Returns the value that an argument gives as plain data, with each string as its bytes.
abbrev pub given_in : DeclaredValue → given.Given
given_in (written.Text text) = given.Text (string_bytes text)
given_in (written.Boolean boolean) = given.Boolean boolean
given_in (written.Integer number) = given.Integer number
given_in (written.Texts items) = given.Texts (strings_in items.items)
given_in written.Other = given.Other

-- Returns an option that a call declares, with its name.
abbrev pub option_in : List ℕ → Declaration → plain.Declaration
option_in name d = record { name = name; kind = kind_in d.kind; value = option_map given_in d.value; line = d.line }

-- Returns a name and its declaration in the code's table as one plain declaration.
abbrev pub entry_in : String Global × Declaration → plain.Declaration
entry_in e = option_in (string_bytes e.0) e.1

-- Returns an option with its name, as both are shown.
abbrev pub shown_in : Bor (List ℕ) × Bor Declaration → plain.Declaration
shown_in e = option_in e.0.now e.1.now

-- Returns the declarations of the code's table as plain data, in the same order.
abbrev pub entries_in : List (String Global × Declaration) → List plain.Declaration
entries_in entries = map entry_in entries

-- Defines how sections and keys of a machine file are looked up.
use Rattle.std.specs.Prelude.{ℕ, List, [], ◌∷◌, ◌++◌, Option, Some, None, codes, if◌then◌else◌, bytes_eq, unwrap_or}
use Rattle.std.specs.List.{flat_map}
use Rattle.syntax.specs.lexer.Bytes.{space}
use Rattle.std.specs.Option.{option_map, option_and_then}
use Rattle.machine_file.specs.Files.{Entry, Section}
use Rattle.machine_file.specs.Readers.{text_said}
use Rattle.machine_file.specs.Values.{Value}

-- Returns the entries of the section with this name.
abbrev pub entries_at : List Section → List ℕ → Option (List Entry)
entries_at [] name = None
entries_at (s ∷ ss) name = if bytes_eq name s.name then Some s.entries else entries_at ss name

-- Returns the entry with this key.
abbrev pub entry_at : List Entry → List ℕ → Option Entry
entry_at [] key = None
entry_at (e ∷ es) key = if bytes_eq key e.key then Some e else entry_at es key

-- Returns the value of a key in a section.
abbrev pub value_at : List Section → List ℕ → List ℕ → Option Value
value_at sections section key =
    option_map (λ e. e.value) (option_and_then (λ entries. entry_at entries key) (entries_at sections section))

-- Returns the text of a key in a section, or else `default`.
abbrev pub text_or : List Section → (section key default : List ℕ) → List ℕ
text_or sections section key default = unwrap_or (option_and_then text_said (value_at sections section key)) default

-- Returns the entries of the section of a dependency.
abbrev pub dependency_at : List Section → List ℕ → Option (List Entry)
dependency_at sections name = entries_at sections (codes "dependency " ++ name)

-- Returns the key of a check of the compiler: the method, and each argument after a space.
abbrev pub check_key : List ℕ → List (List ℕ) → List ℕ
check_key method arguments = method ++ flat_map (λ argument. space ∷ argument) arguments

-- Returns the answer to a check of the compiler.
abbrev pub check_at : List Section → List ℕ → List (List ℕ) → Option Value
check_at sections method arguments = value_at sections (codes "checks") (check_key method arguments)

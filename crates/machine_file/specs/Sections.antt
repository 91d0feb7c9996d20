-- Defines the sections of a machine file, and which keys and values each accepts.
use Rattle.std.specs.Prelude.{ℕ, Bool, true, false, ◌&&◌, List, [], ◌∷◌, length, Option, Some, None, nat_eq, nat_lt, codes, if◌then◌else◌}
use Rattle.std.specs.Prelude.{bytes_eq}
use Rattle.std.specs.Option.{option_and_then}
use Rattle.std.specs.List.{starts_with}
use Rattle.syntax.specs.lexer.Bytes.{space}
use Rattle.support.specs.Among.{is_among}
use Rattle.machine_file.specs.Texts.{cut_first}
use Rattle.machine_file.specs.Values.{Value, Text, Integer, Boolean, Texts}
use Rattle.machine_file.specs.declared.section.SectionKind.{SectionKind}
use Rattle.machine_file.specs.declared.section.SectionKind.TheVariants as Kinds
use Rattle.machine_file.specs.declared.section.Expected.{Expected}
use Rattle.machine_file.specs.declared.section.Expected.TheVariants as Wants

-- Returns whether this is `dependency`, a space and a name.
abbrev pub is_dependency : List ℕ → Bool
is_dependency name = starts_with nat_eq name (codes "dependency ") && nat_lt 11 (length name)

-- Returns the kind of the section with this name, if there is one.
unfoldable pub kind_of : List ℕ → Option SectionKind
kind_of name =
    if bytes_eq name (codes "binaries") then Some Kinds.Binaries
    else (if is_among (codes "built-in options" ∷ codes "project options" ∷ []) name then Some Kinds.Options
    else (if bytes_eq name (codes "host_machine") then Some Kinds.HostMachine
    else (if bytes_eq name (codes "compiler") then Some Kinds.Compiler
    else (if bytes_eq name (codes "checks") then Some Kinds.Checks
    else (if bytes_eq name (codes "properties") then Some Kinds.Properties
    else (if is_dependency name then Some Kinds.Dependency
    else None))))))

-- Returns what a key of `[host_machine]` takes.
abbrev pub of_host_machine : List ℕ → Option Expected
of_host_machine key =
    if is_among (codes "system" ∷ codes "cpu_family" ∷ codes "cpu" ∷ codes "endian" ∷ []) key then Some Wants.Text else None

-- Returns what a key of `[compiler]` takes.
abbrev pub of_compiler : List ℕ → Option Expected
of_compiler key = if is_among (codes "id" ∷ codes "version" ∷ []) key then Some Wants.Text else None

-- Returns what a key of a dependency's section takes.
abbrev pub of_dependency : List ℕ → Option Expected
of_dependency key =
    if bytes_eq key (codes "version") then Some Wants.Text
    else (if is_among (codes "compile_args" ∷ codes "link_args" ∷ []) key then Some Wants.Texts
    else None)

-- Returns whether a check of the compiler has a boolean answer.
unfoldable pub true_or_false : List ℕ → Bool
true_or_false = is_among (codes "has_header" ∷ codes "check_header" ∷ codes "has_function" ∷ codes "has_type" ∷ codes "has_argument"
    ∷ codes "has_link_argument" ∷ codes "has_member" ∷ codes "has_header_symbol" ∷ codes "find_library" ∷ [])

-- Returns the type of the answer to a check of the compiler, if there is such a check.
abbrev pub of_method : List ℕ → Option Expected
of_method method =
    if true_or_false method then Some Wants.Boolean
    else (if is_among (codes "sizeof" ∷ codes "alignment" ∷ []) method then Some Wants.Integer
    else None)

-- Returns the type of the answer to a check, given its key: a method, a space and its arguments.
abbrev pub of_check : List ℕ → Option Expected
of_check key = option_and_then (λ parts. of_method parts.0) (cut_first space key)

-- Returns what a key of a section takes, if the section knows the key.
abbrev pub expected_of_key : SectionKind → List ℕ → Option Expected
expected_of_key Kinds.Binaries key = Some Wants.Words
expected_of_key Kinds.Options key = Some Wants.Any
expected_of_key Kinds.HostMachine key = of_host_machine key
expected_of_key Kinds.Compiler key = of_compiler key
expected_of_key Kinds.Dependency key = of_dependency key
expected_of_key Kinds.Checks key = of_check key
expected_of_key Kinds.Properties key = Some Wants.Any

-- Returns whether a value has the type that the key requires. The words of a program are a text, or a list with at least one.
abbrev pub fits : Expected → Value → Bool
fits Wants.Any v = true
fits Wants.Words (Text text) = true
fits Wants.Words (Texts (item ∷ items)) = true
fits Wants.Words _ = false
fits Wants.Text (Text text) = true
fits Wants.Text _ = false
fits Wants.Texts (Texts items) = true
fits Wants.Texts _ = false
fits Wants.Boolean (Boolean boolean) = true
fits Wants.Boolean _ = false
fits Wants.Integer (Integer number) = true
fits Wants.Integer _ = false

-- Returns whether the value has the type that its key takes. The type is absent for an unknown key, which takes no value.
abbrev pub knows_as : Option Expected → Value → Bool
knows_as None v = false
knows_as (Some want) v = fits want v

-- Returns whether a section knows the key and takes the value.
unfoldable pub knows : SectionKind → List ℕ → Value → Bool
knows kind key v = knows_as (expected_of_key kind key) v

-- Returns whether a section's keys are cut from their values at the last equals sign of the line, and not at the first.
abbrev pub cuts_last : SectionKind → Bool
cuts_last Kinds.Checks = true
cuts_last _ = false

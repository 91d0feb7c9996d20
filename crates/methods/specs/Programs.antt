-- Defines the methods of a program: the type `external_program` of the page "Reference manual".
use Rattle.std.specs.Prelude.{ℕ, Bool, true, false, List, [], ◌∷◌, Option, Some, None, Result, Ok, Err}
use Rattle.values.specs.Data.{Data, boolean, text}
use Rattle.values.specs.Limits.{within}
use Rattle.values.specs.declared.object.Program.{Program}
use Rattle.values.specs.declared.object.Program.TheVariants as programs
use Rattle.values.specs.declared.refusal.OperationRefusal.{OperationRefusal}
use Rattle.values.specs.declared.refusal.OperationRefusal.TheVariants as refusal
use Rattle.values.specs.declared.language_names.object_methods.ProgramMethod.{ProgramMethod}
use Rattle.values.specs.declared.language_names.object_methods.ProgramMethod.TheVariants.{Found, FullPath}
use Rattle.values.specs.language_names.ObjectMethods.{program_method_named}
use Rattle.support.specs.paths.Below.{path_below}

-- Holds if a program was found.
abbrev pub is_found : Program → Bool
is_found programs.NotFound = false
is_found p = true

-- Returns the first word of a command, and E9 if it is empty.
abbrev pub first_word : List (List ℕ) → Result Data OperationRefusal
first_word [] = Err refusal.Arguments
first_word (word ∷ words) = Ok (text word)

-- Returns the first word of the machine file's command, or the absolute path of a file below the source root. Refuses a program that was
-- not found with E9.
abbrev pub full_path : List ℕ → Program → Result Data OperationRefusal
full_path source_root programs.NotFound = Err refusal.Arguments
full_path source_root (programs.Words words) = first_word words
full_path source_root (programs.File path) = within (text (path_below source_root path))

-- Returns the result of a method of a program, or E8 if there is none.
abbrev pub answer_by : Option ProgramMethod → List ℕ → Program → Result Data OperationRefusal
answer_by None source_root p = Err refusal.UnknownMethod
answer_by (Some Found) source_root p = Ok (boolean (is_found p))
answer_by (Some FullPath) source_root p = full_path source_root p

-- Returns the result of the method of a program with this name.
abbrev pub answer : List ℕ → Program → List ℕ → Result Data OperationRefusal
answer source_root p name = answer_by (program_method_named name) source_root p

-- Defines `find_program`, which finds a program in the machine file or in the source directory.
use Rattle.std.specs.Prelude.{Bool, true, false, List, [], ◌∷◌, Option, Some, None, codes, option_map}
use Rattle.std.specs.Option.{option_transpose}
use Rattle.arguments.specs.Arguments.{ArgumentsData}
use Rattle.values.specs.Flat.{flat_all}
use Rattle.arguments.specs.declared.rule.Rule.TheVariants as rules
use Rattle.arguments.specs.Given.{text_at}
use Rattle.arguments.specs.declared.readers.Requirement.{Requirement}
use Rattle.arguments.specs.declared.readers.Requirement.TheVariants as requirements
use Rattle.values.specs.Data.{Data, object}
use Rattle.values.specs.Limits.{within_bytes}
use Rattle.values.specs.declared.object.Object.TheVariants as objects
use Rattle.values.specs.declared.object.Program.{Program}
use Rattle.values.specs.declared.object.Program.TheVariants as programs
use Rattle.build.specs.edge.Texts.{Path, Text}
use Rattle.support.specs.declared.faults.refusal.Refusal.TheVariants as refusals
use Rattle.support.specs.paths.Paths.{tree_path}
use Rattle.machine_file.specs.Questions.{Key, question_about}
use Rattle.resources.specs.Fitting.{program_words}
use Rattle.values.specs.Copies.{within_texts}
use Rattle.world.specs.Deed.{Deed, give, refuse, read, consult, ◌>>=◌, answer_or_refusal, there}
use Rattle.world.specs.Ruled.{ruled_value}
use Rattle.resource_calls.specs.Required.{missing_object, required_by}

-- Returns the program at a path in the source directory.
unfoldable pub file_program : Path → Deed (Option Program)
file_program path = do
  p ← answer_or_refusal (within_bytes path)
  give (Some (programs.File p))

-- Returns the program at a path if the file is present.
unfoldable pub program_at : Path → Bool → Deed (Option Program)
program_at path false = give None
program_at path true = file_program path

-- Returns the path that a name in the present definition file refers to, and refuses one outside the source directory with E9.
unfoldable pub named_path : Text → Deed Path
named_path name = do
  facts ← read
  ruled_value (tree_path facts.settings.source_root facts.folder name) rules.NamesFile name

-- Returns the program at that path if the file is present. The path counts as looked at.
unfoldable pub file_named : Text → Deed (Option Program)
file_named name = do
  path ← named_path name
  found ← there path
  program_at path found

-- Returns the program with the command that `[binaries]` of the machine file has, and otherwise the file with this name.
unfoldable pub words_or_file : Option (List Text) → Text → Deed (Option Program)
words_or_file (Some words) name = give (Some (programs.Words words))
words_or_file None name = file_named name

-- Returns the program with a name: that of the machine file, and otherwise a file. Refuses a command that is too large with E22.
unfoldable pub program_named : Text → Deed (Option Program)
program_named name = do
  answer ← consult (question_about (Key (codes "binaries") name))
  words ← answer_or_refusal (option_transpose (option_map within_texts (program_words answer)))
  words_or_file words name

-- Returns the program that was found, and otherwise looks further.
abbrev pub or_else : Option Program → Deed (Option Program) → Deed (Option Program)
or_else (Some p) others = give (Some p)
or_else None others = others

-- Returns the first program that is found. The names are looked up one after another.
unfoldable pub first_program : List Text → Deed (Option Program)
first_program [] = give None
first_program (name ∷ names) = do
  p ← program_named name
  or_else p (first_program names)

-- Returns the first program that is found. Nothing is looked up if `required` is a disabled feature.
unfoldable pub program_wanted : Requirement → ArgumentsData → Deed (Option Program)
program_wanted requirements.Disabled a = give None
program_wanted _ a = first_program (flat_all a.positional)

-- Returns the program as a value.
unfoldable pub found_program : Program → Deed (Option Data)
found_program p = give (Some (object (objects.Program p)))

-- Returns the result for a program that was not found.
unfoldable pub missing_program : ArgumentsData → Deed (Option Data)
missing_program a = give (Some (object (missing_object a (objects.Program programs.NotFound))))

-- Returns the result if no name is found. Refuses with E17 of the first name if the program is required.
unfoldable pub no_program : Requirement → ArgumentsData → Deed (Option Data)
no_program requirements.Required a = refuse refusals.NotFound (text_at 0 a)
no_program _ a = missing_program a

-- Returns the program that was found, or the result if none was.
unfoldable pub program_result : ArgumentsData → Option Program → Deed (Option Data)
program_result a (Some p) = found_program p
program_result a None = no_program (required_by a) a

-- Returns the first program that is found, of those that the arguments name (`find_program`). Refuses with E17 if none is found and one is
-- required.
unfoldable pub find_program : ArgumentsData → Deed (Option Data)
find_program a = do
  p ← program_wanted (required_by a) a
  program_result a p

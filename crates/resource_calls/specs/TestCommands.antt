-- Defines the command of a test. Files and targets become absolute paths.
use Rattle.std.specs.Prelude.{Bool, true, false, List, [], ◌∷◌, map, Option, Some, None, option_and_then, codes, if◌then◌else◌}
use Rattle.arguments.specs.Arguments.{ArgumentsData}
use Rattle.arguments.specs.Given.{argument}
use Rattle.arguments.specs.Leaves.{leaves_named}
use Rattle.support.specs.OptionSteps.{◌>>=◌}
use Rattle.values.specs.Data.{Data, text, object}
use Rattle.values.specs.declared.object.Program.{Program}
use Rattle.values.specs.declared.object.Program.TheVariants as programs
use Rattle.build.specs.edge.Texts.{Path, Text}
use Rattle.support.specs.paths.Below.{path_below}
use Rattle.build.specs.Data.{BuildData}
use Rattle.build.specs.Files.{file_path, is_library}
use Rattle.arguments.specs.Each.{all_behind}
use Rattle.sources.specs.Things.{ThingData, a_file, a_program, a_target, all_outputs, an_output, thing_of}
use Rattle.world.specs.Here.{HereData}

-- ---- things of the project, as command-line arguments

-- Returns the thing that a value refers to.
abbrev pub thing_in : HereData → Data → Option ThingData
thing_in here (object o) = thing_of here.earlier o
thing_in here _ = None

-- Returns the absolute path of a file.
abbrev pub file_word : HereData → Path → Bool → Text
file_word here path true = path_below here.build_root path
file_word here path false = path_below here.source_root path

-- Returns the absolute path of a target's file.
abbrev pub target_word : HereData → BuildData → Text
target_word here t = path_below here.build_root (file_path t)

-- Returns a command of one argument.
abbrev pub one_word : Text → List Text
one_word w = w ∷ []

-- Returns the arguments for a file, a target or outputs of one, and none for a program.
abbrev pub words_of : HereData → ThingData → Option (List Text)
words_of here (a_program p) = None
words_of here (a_file path is_built) = Some (one_word (file_word here path is_built))
words_of here (a_target t) = Some (one_word (target_word here t))
words_of here (all_outputs paths) = Some (map (path_below here.build_root) paths)
words_of here (an_output path) = Some (one_word (path_below here.build_root path))

-- ---- the program

-- Returns the command of a program, and none if it was not found.
abbrev pub words_of_program : HereData → Program → Option (List Text)
words_of_program here programs.NotFound = None
words_of_program here (programs.Words words) = Some words
words_of_program here (programs.File path) = Some (one_word (path_below here.source_root path))

-- Returns the path of an executable, and none for a library.
abbrev pub word_if_executable : HereData → BuildData → Option (List Text)
word_if_executable here t = if is_library t.kind then None else Some (one_word (target_word here t))

-- Returns the command that calls a thing, and none if it cannot run.
abbrev pub command_words : HereData → ThingData → Option (List Text)
command_words here (a_program p) = words_of_program here p
command_words here (a_target t) = word_if_executable here t
command_words here thing = words_of here thing

-- Returns the command that calls the program of a value, and none if it cannot run.
abbrev pub command_of : HereData → Data → Option (List Text)
command_of here d = option_and_then (command_words here) (thing_in here d)

-- ---- arguments

-- Returns the arguments for a value given to the program: a text, a file, a target or an output of one.
abbrev pub argument_words : HereData → Data → Option (List Text)
argument_words here (text t) = Some (one_word t)
argument_words here d = option_and_then (words_of here) (thing_in here d)

-- ---- the command

-- Returns the program and its arguments.
abbrev pub command_given : HereData → ArgumentsData → Option (List Text)
command_given here a = do
  program ← argument 1 a
  words ← command_of here program
  all_behind (argument_words here) words (leaves_named (codes "args") a)

-- Defines which programs the machine uses.
use Rattle.std.specs.Prelude.{ℕ, List, [], ◌∷◌, Option, Some, None, codes}
use Rattle.machine_file.specs.Questions.{Answer, Key, question_about, value_of_answer}
use Rattle.machine_file.specs.Readers.{words_said}
use Rattle.machine_file.specs.Values.{Value}
use Rattle.world.specs.Deed.{Deed, give, consult, ◌>>=◌}

-- Returns the command in a value, or the default as its only argument.
abbrev pub words_or : Option Value → List ℕ → List (List ℕ)
words_or None default = default ∷ []
words_or (Some value) default = words_said value

-- Returns the command of a program by the machine file's answer, or the default.
abbrev pub program_by : Answer → List ℕ → List (List ℕ)
program_by answer default = words_or (value_of_answer answer) default

-- Returns the command of a program from `[binaries]` of the machine file, or the default.
unfoldable pub program : List ℕ → List ℕ → Deed (List (List ℕ))
program name default = do
  answer ← consult (question_about (Key (codes "binaries") name))
  give (program_by answer default)

-- The programs that every build has, each as a command line of one or more arguments.
pub record ProgramsData : Type 0 where
  pub compiler : List (List ℕ)
  pub archiver : List (List ℕ)

-- Returns the compiler and the archiver. The compiler is requested first.
unfoldable pub programs : Deed ProgramsData
programs = do
  compiler ← program (codes "c") (codes "cc")
  archiver ← program (codes "ar") (codes "ar")
  give (record { compiler = compiler; archiver = archiver })

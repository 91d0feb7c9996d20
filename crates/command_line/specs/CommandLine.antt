-- Defines what a command line asks for: `meson setup [-Dname=value].. [--native-file FILE] BUILDDIR`, or `meson questions` or `meson fault`
-- with the same arguments.
use Rattle.std.specs.Prelude.{◌≡◌, ◌≢◌, ◌⊎◌, ⊤, ℕ, Bool, true, List, [], Option, Some, None, codes, map, unwrap_or, option_map}
use Rattle.std.specs.Prelude.{if◌then◌else◌, Result, Ok, Err, string_bytes}
use Rattle.std.specs.Str.{bytes_eq}
use Rattle.clap.specs.Words.{App, Row, Rule, IsAmong, all_of, fault_of, first_of, new_app, new_rule, subcommand_of, with_rule}
use Rattle.clap.specs.Words.{with_subcommand}
use Rattle.clap.specs.declared.builder.action.ArgAction.TheVariants.{Append, Set}
use Rattle.clap.specs.declared.builder.command.Command.{Command}
use Rattle.clap.specs.declared.builder.command.Command.TheViews.{out-Command}
use Rattle.clap.specs.declared.error.kind.ErrorKind.{ErrorKind}
use Rattle.clap.specs.declared.error.kind.ErrorKind.TheVariants as kind
use Rattle.support.specs.paths.BuildFolders.{names_build_folder, tidy_path}
use Rattle.command_line.specs.declared.line.Line.{Line}
use Rattle.command_line.specs.declared.line.Task.{Task}
use Rattle.command_line.specs.declared.line.Task.TheVariants.{Setup, Questions, Fault}
use Rattle.command_line.specs.declared.fault.LineFault.{LineFault}
use Rattle.command_line.specs.declared.fault.LineFault.TheVariants.{Help, Usage, Memory}

-- ---- the command, as `clap` knows it

-- Returns the option `-D NAME=VALUE`, which may occur any number of times.
abbrev pub option_rule : Rule
option_rule = record (new_rule (codes "option")) { short = Some 68; value_names = 1; action = Some Append }

-- Returns the option `--native-file FILE`, which may occur once.
abbrev pub machine_file_rule : Rule
machine_file_rule = record (new_rule (codes "native-file")) {
  long = Some (codes "native-file");
  value_names = 1;
  action = Some Set;
}

-- Returns the argument `BUILDDIR`, which is required.
abbrev pub folder_rule : Rule
folder_rule = record (new_rule (codes "folder")) { value_names = 1; required = true; action = Some Set }

-- Returns the subcommand of a task with this name, with the arguments that each task has.
abbrev pub task_app : List ℕ → App
task_app name = with_rule (with_rule (with_rule (new_app name) option_rule) machine_file_rule) folder_rule

-- Returns `meson` by itself, which requires a subcommand and has none for help.
abbrev pub bare_app : App
bare_app = record (new_app (codes "meson")) {
  top = record (new_app (codes "meson")).top { disable_help_subcommand = true; subcommand_required = true };
}

-- Returns the command `meson` with its subcommands `setup`, `questions` and `fault`.
abbrev pub meson_app : App
meson_app = with_subcommand (with_subcommand (with_subcommand bare_app (task_app (codes "setup")).top) (task_app (codes "questions")).top)
    (task_app (codes "fault")).top

-- Returns whether an argument of the command or of a subcommand is global.
abbrev pub has_globals : Command → Bool
has_globals command = (out-Command command).has_globals

-- ---- how `clap` parses the words, the first of which is the program's name

-- Returns the kinds of error with which a parse may end, or none if it succeeds.
abbrev pub faults_of : List (List ℕ) → List ErrorKind
faults_of words = fault_of meson_app words

-- Returns the name of the task that a successful parse found, and the values of its arguments.
abbrev pub found_by : List (List ℕ) → List ℕ × List Row
found_by words = unwrap_or (subcommand_of meson_app words) ([], [])

-- Returns the task of the subcommand with this name, and `Setup` for any name other than `questions` and `fault`.
abbrev pub task_named : List ℕ → Task
task_named name =
    if bytes_eq name (codes "questions") then Questions
    else if bytes_eq name (codes "fault") then Fault
    else Setup

-- ---- what a line gives

-- The task of a command line, and the values of its arguments.
pub record Given : Type 0 where
  pub task : Task
  -- The values of `-D`, in order.
  pub words : List (List ℕ)
  -- The path that `--native-file` gives, as the user wrote it.
  pub machine_file : Option (List ℕ)
  -- The path of the build directory, without empty parts and `.`.
  pub folder : List ℕ

-- Returns the values of the arguments of a task, or none if nothing can be built in the folder. The last argument is the path of the folder
-- as the user wrote it.
abbrev pub given_with : Task → List Row → List ℕ → Option Given
given_with task rows path = if names_build_folder path then Some (record {
  task = task;
  words = unwrap_or (all_of (codes "option") rows) [];
  machine_file = first_of (codes "native-file") rows;
  folder = tidy_path path;
}) else None

-- Returns the values that the parse found for the arguments of a task, if something can be built in the folder.
abbrev pub given_to : Task → List Row → Option Given
given_to task rows = given_with task rows (unwrap_or (first_of (codes "folder") rows) [])

-- Returns what the words give, if the parse succeeds.
abbrev pub given_in : List (List ℕ) → Option Given
given_in words = given_to (task_named (found_by words).0) (found_by words).1

-- Returns a line of the code as plain data, with each string as its bytes.
abbrev pub given_by : Line → Given
given_by line = record {
  task = line.task;
  words = map string_bytes line.words.items;
  machine_file = option_map string_bytes line.machine_file;
  folder = string_bytes line.folder;
}

-- Holds if the result is a line with these values, or the refusal of a folder in which nothing can be built.
abbrev pub Gives : Task → List Row → Result Line LineFault → Type 0
Gives task rows (Ok line) = given_to task rows ≡ Some (given_by line)
Gives task rows (Err (Help text)) = ⊥
Gives task rows (Err (Usage text)) = given_to task rows ≡ None
Gives task rows (Err (Memory error)) = ⊤

-- Holds if the fault refuses the words, or if no memory was left for its text.
abbrev pub IsRefusal : LineFault → Type 0
IsRefusal (Help text) = ⊥
IsRefusal (Usage text) = ⊤
IsRefusal (Memory error) = ⊤

-- Holds if the fault is the one for this kind of error of `clap`: help, a refusal, or a lack of memory.
abbrev pub FaultOfKind : ErrorKind → LineFault → Type 0
FaultOfKind found (Help text) = found ≡ kind.DisplayHelp
FaultOfKind found (Usage text) = (found ≢ kind.DisplayHelp) × (found ≢ kind.OutOfMemory)
FaultOfKind found (Memory error) = ⊤

-- Holds if the words are no valid command line: `clap` finds a fault other than a call for help, or nothing can be built in the folder.
abbrev pub IsRefused : List (List ℕ) → Type 0
IsRefused words = ((fault : ErrorKind) × IsAmong fault (faults_of words) × (fault ≢ kind.DisplayHelp))
    ⊎ ((faults_of words ≡ []) × (given_in words ≡ None))

-- Holds if the words are a valid command line.
abbrev pub IsLine : List (List ℕ) → Type 0
IsLine words = (faults_of words ≡ []) × ((given : Given) × (given_in words ≡ Some given))

-- Holds if the words are a valid command line, or if `clap` finds a call for help in them.
abbrev pub IsTaken : List (List ℕ) → Type 0
IsTaken words = IsLine words ⊎ IsAmong kind.DisplayHelp (faults_of words)

-- Holds if a line comes only from a successful parse, with the values that it found, and if help and refusals come only where they are due.
abbrev pub Answers : List (List ℕ) → Result Line LineFault → Type 0
Answers words (Ok line) = (faults_of words ≡ []) × (given_in words ≡ Some (given_by line))
Answers words (Err (Help text)) = IsAmong kind.DisplayHelp (faults_of words)
Answers words (Err (Usage text)) = IsRefused words
Answers words (Err (Memory error)) = ⊤

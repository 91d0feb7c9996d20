-- Defines a project's facts and targets as plain data, without their place in memory.
use Rattle.std.specs.Prelude.{ℕ, ℤ, Bool, false, List, [], Option}
use Rattle.build.specs.edge.Texts.{Path, Text}
use Rattle.build.specs.declared.facts.OptionType.{OptionType}
use Rattle.build.specs.declared.target.TargetKind.{TargetKind}

-- ---- facts

-- The flags are the values of the options that decide the words of commands.
pub record FlagsData : Type 0 where
  pub warning_level : ℕ
  pub is_werror : Bool
  pub c_std : Text
  pub optimization : Text
  pub is_debug : Bool
  pub c_args : List Text
  pub c_link_args : List Text

-- Returns the flags of a project before `project` is called: all are off, empty or 0.
abbrev pub unset_flags : FlagsData
unset_flags = record {
  warning_level = 0;
  is_werror = false;
  c_std = [];
  optimization = [];
  is_debug = false;
  c_args = [];
  c_link_args = [];
}

-- The value of an option in the form of its type. The choice of a combo and the state of a feature are texts.
pub data OptionData : Type 0 where
  text : (value : Text) → OptionData
  boolean : (value : Bool) → OptionData
  integer : (value : ℤ) → OptionData
  texts : (value : List Text) → OptionData

-- An option as it is listed.
pub record OptionEntryData : Type 0 where
  pub name : Text
  pub kind : OptionType
  pub value : OptionData

-- The facts of a project come from the call of `project`, the options and the machine file.
pub record FactsData : Type 0 where
  pub name : Text
  pub version : Text
  pub license : List Text
  -- How many folders the build directory is below the source root.
  pub depth : ℕ
  -- The absolute paths of the source directory and of the build directory.
  pub source_root : Path
  pub build_root : Path
  -- The words of the compiler's command, and of the archiver's.
  pub compiler : List Text
  pub archiver : List Text
  pub flags : FlagsData
  -- Every option: the built-in ones in the order of their table, then those that the project declares.
  pub options : List OptionEntryData

-- The facts and the arguments of a project, on which the edges of all its targets depend.
pub record SurroundingsData : Type 0 where
  pub facts : FactsData
  -- The arguments of `add_project_arguments` and `add_project_link_arguments`.
  pub arguments : List Text
  pub link_arguments : List Text

-- ---- targets

-- A source that a target names: a file, or outputs of one earlier target.
pub data SourceData : Type 0 where
  -- A file of the source tree.
  Tree : (path : Path) → SourceData
  -- An output of `configure_file`.
  Built : (path : Path) → SourceData
  -- Outputs of an earlier target.
  Made : (paths : List Path) → SourceData

-- The lists of a target itself, or those that a dependency adds.
pub record ListsData : Type 0 where
  pub sources : List SourceData
  -- Folders of the source tree. The empty path is its root.
  pub include_folders : List Path
  pub compile_args : List Text
  pub link_args : List Text
  -- The numbers of libraries.
  pub link_with : List ℕ

-- An executable or a library.
pub record BuildData : Type 0 where
  pub kind : TargetKind
  -- The folder of the definition file.
  pub folder : Path
  pub name : Text
  -- The target's own lists, and those that each of its dependencies adds.
  pub own : ListsData
  pub dependencies : List ListsData
  -- The keywords `version` and `soversion` of a shared library.
  pub version : Option Text
  pub soversion : Option Text
  -- Whether Ninja builds the target by default (`build_by_default`), and whether it is installed.
  pub is_default : Bool
  pub is_installed : Bool

-- A custom target, with its placeholders replaced.
pub record CustomData : Type 0 where
  pub name : Text
  pub folder : Path
  -- The names of files of the folder.
  pub outputs : List Text
  pub inputs : List SourceData
  -- Files and targets in the command, `depends`, `depend_files`.
  pub needs : List SourceData
  pub words : List Text
  -- Whether the first output receives what the command prints.
  pub captures : Bool
  -- The name of a file of the folder.
  pub depfile : Option Text
  -- The length of the longest of its lists.
  pub longest : ℕ
  -- Whether Ninja builds the target by default, and whether it is installed.
  pub is_default : Bool
  pub is_installed : Bool

-- A declared target: an executable or a library, or a custom target.
pub data TargetData : Type 0 where
  Build : (target : BuildData) → TargetData
  Custom : (target : CustomData) → TargetData

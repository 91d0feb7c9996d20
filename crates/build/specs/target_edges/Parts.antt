-- Defines the compile edges of a target in parts, the shared and the own ones, and what is checked of the parts of edges.
use Rattle.std.specs.Prelude.{Bool, true, false, ◌&&◌, List, [], ◌∷◌, ◌++◌, codes, Option, Some, None}
use Rattle.std.specs.List.{list_all}
use Rattle.build.specs.edge.Texts.{Path, Text}
use Rattle.build.specs.edge.Paths.{object_path}
use Rattle.build.specs.edge.Data.{EdgeData}
use Rattle.build.specs.edge.Holding.{is_path, path_held, value_held, is_some_list}
use Rattle.build.specs.edge.Parts.{SharedData, OwnData, edge_of_parts}
use Rattle.build.specs.declared.edge.rule.EdgeRule.TheVariants as rule
use Rattle.build.specs.Data.{FlagsData, SurroundingsData, SourceData, Tree, Built, Made, BuildData, CustomData}
use Rattle.build.specs.Sources.{InputData, items_of_dependencies, generated_paths}

-- Returns the words up to the first that names the object.
abbrev pub front_words : (words : List Text) → List Text
front_words words = words ++ (codes "-MD" ∷ codes "-MQ" ∷ [])

-- Returns the words after them.
abbrev pub last_words : (object depfile source : Path) → List Text
last_words object depfile source = object ∷ codes "-MF" ∷ depfile ∷ codes "-o" ∷ object ∷ codes "-c" ∷ source ∷ []

-- Returns the parts that the compile edges of a target share: the words up to the first object, and the generated paths as order-only
-- inputs.
abbrev pub compile_shared : (front : List Text) (generated : List Path) → SharedData
compile_shared front generated = record { rule = rule.CCompile; order_only = generated; words = front }

-- Returns the own parts of the edge that compiles a source to an object. Its depfile is the object's path, followed by `.d`.
abbrev pub compile_own : (object source : Path) → OwnData
compile_own object source = record {
  output = object;
  input = source;
  words = last_words object (object ++ codes ".d") source;
  description = codes "Compiling C object " ++ object;
  depfile = object ++ codes ".d";
}

-- Returns the edge of an input, for the target whose file is `file`.
abbrev pub joined_edge : (front : List Text) (generated : List Path) (file : Path) → InputData → EdgeData
joined_edge front generated file i = edge_of_parts (compile_shared front generated) (compile_own (object_path file i.name) i.path)

-- Returns whether there is a first word, if something is compiled.
abbrev pub has_first : {W I : Type 0} → (words : List W) (inputs : List I) → Bool
has_first [] [] = true
has_first [] (i ∷ is) = false
has_first (w ∷ ws) is = true

-- Returns whether the list is empty.
abbrev pub is_none : {X : Type 0} → List X → Bool
is_none [] = true
is_none (x ∷ xs) = false

-- Returns whether `build.ninja` can hold what the edges share.
abbrev pub shared_held : (front : List Text) (generated : List Path) → Bool
shared_held front generated = list_all is_path generated && list_all value_held front

-- Returns whether `build.ninja` can hold the paths of a source.
abbrev pub source_held : SourceData → Bool
source_held (Tree path) = path_held path
source_held (Built path) = is_path path
source_held (Made paths) = list_all is_path paths

-- Returns whether it can hold the path of a depfile of the folder.
abbrev pub depfile_held : Path → Option Text → Bool
depfile_held folder None = true
depfile_held folder (Some name) = value_held folder && value_held name

-- Returns whether it can hold a command, which needs a word.
abbrev pub command_held : CustomData → Bool
command_held t = is_some_list t.words && (list_all value_held t.words && depfile_held t.folder t.depfile)

-- Returns whether it can hold all of a custom target with these outputs.
abbrev pub custom_held : CustomData → (outputs : List Path) → Bool
custom_held t outputs =
    is_some_list outputs
    && (list_all is_path outputs && (list_all source_held t.inputs && (list_all source_held t.needs && command_held t)))

-- Returns whether it can hold the options for compiling.
abbrev pub options_held : FlagsData → Bool
options_held f = value_held f.c_std && value_held f.optimization

-- Returns whether it can hold the include folders.
abbrev pub includes_held : BuildData → Bool
includes_held t =
    value_held t.folder
    && (list_all value_held t.own.include_folders && list_all value_held (items_of_dependencies (λ l. l.include_folders) t))

-- Returns whether it can hold the arguments of compile commands.
abbrev pub arguments_held : SurroundingsData → BuildData → Bool
arguments_held s t =
    list_all value_held s.arguments
    && (list_all value_held (items_of_dependencies (λ l. l.compile_args) t)
    && (list_all value_held s.facts.flags.c_args && list_all value_held t.own.compile_args))

-- Returns whether it can hold all words of compile commands.
abbrev pub words_held : SurroundingsData → BuildData → Bool
words_held s t =
    list_all value_held s.facts.compiler && (includes_held t && (options_held s.facts.flags && arguments_held s t))

-- Returns whether it can hold what the compile edges of a target share.
abbrev pub compiles_held : SurroundingsData → BuildData → Bool
compiles_held s t = list_all is_path (generated_paths t) && words_held s t

-- Returns whether it can hold the edge of an archive.
abbrev pub archive_held : (archiver : List Text) (file : Path) (objects : List Path) → Bool
archive_held archiver file objects = is_path file && (list_all is_path objects && list_all value_held archiver)

-- Returns whether it can hold the edge of a file that the compiler links with libraries and further words.
abbrev pub link_held : (compiler words : List Text) (file : Path) (objects libraries : List Path) → Bool
link_held compiler words file objects libraries =
    is_path file
    && (list_all is_path objects
    && (list_all is_path libraries && (list_all value_held compiler && list_all value_held words)))

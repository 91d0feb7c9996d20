-- Defines the words of the commands that compile, link and archive.
use Rattle.std.specs.Prelude.{ℕ, Bool, nat_le, List, [], ◌∷◌, ◌++◌, map, flat_map, bytes_eq, codes, Option, Some, None, if◌then◌else◌}
use Rattle.build.specs.edge.Texts.{Path, Text, first_kept}
use Rattle.build.specs.edge.Folders.{build_folder, source_folder}
use Rattle.build.specs.Data.{FlagsData, SurroundingsData, ListsData, BuildData}
use Rattle.build.specs.Sources.{items_of_dependencies, list_with_dependencies}
use Rattle.build.specs.Files.{is_static, is_shared, is_library, file_path, so_name}
use Rattle.build.specs.Libraries.{DeclaredTargetData, build_at}
use Rattle.build.specs.declared.target.TargetKind.{TargetKind}
use Rattle.build.specs.declared.target.TargetKind.TheVariants.{Executable, StaticLibrary, SharedLibrary}
use Rattle.build.specs.declared.target_edges.words.Brought.{Brought}
use Rattle.build.specs.declared.target_edges.words.Brought.TheVariants.{IncludeFolders, CompileArgs, LinkArgs}
use Rattle.build.specs.target_edges.Ways.{relative_way}

-- Returns the texts of this kind that a dependency adds.
abbrev pub texts_of : Brought → ListsData → List Text
texts_of IncludeFolders l = l.include_folders
texts_of CompileArgs l = l.compile_args
texts_of LinkArgs l = l.link_args

-- Returns the word if the condition is true.
abbrev pub word_if : Bool → Text → List Text
word_if test word = if test then word ∷ [] else []

-- ---- compiling

-- Returns the words for a folder. The compiler looks for headers in the folder of the build directory and in that of the source tree.
abbrev pub include_words : ℕ → Path → List Text
include_words depth folder = (codes "-I" ++ build_folder folder) ∷ (codes "-I" ++ source_folder depth folder) ∷ []

-- Returns the words for the target's folder, its `include_directories`, and those of its dependencies.
abbrev pub includes : ℕ → BuildData → List Text
includes depth t =
    first_kept (include_words depth t.folder ++ flat_map (include_words depth) (list_with_dependencies (λ l. l.include_folders) t))

-- Returns the word of this front and an option's value, unless the value is the one without a word.
abbrev pub value_words : Text → Text → Text → List Text
value_words front value none = if bytes_eq value none then [] else (front ++ value) ∷ []

-- Returns the words of a warning level.
abbrev pub warning_words : ℕ → List Text
warning_words level =
    word_if (nat_le 1 level) (codes "-Wall")
    ++ (word_if (nat_le 2 level) (codes "-Wextra") ++ word_if (nat_le 3 level) (codes "-Wpedantic"))

-- Returns the words of the options for compiling.
abbrev pub option_words : FlagsData → List Text
option_words f =
    warning_words f.warning_level
    ++ (word_if f.is_werror (codes "-Werror")
    ++ (value_words (codes "-std=") f.c_std (codes "none")
    ++ (value_words (codes "-O") f.optimization (codes "plain") ++ word_if f.is_debug (codes "-g"))))

-- Returns the arguments of the project, of the dependencies, of the option `c_args`, and of the target.
abbrev pub argument_words : SurroundingsData → BuildData → List Text
argument_words s t = s.arguments ++ (items_of_dependencies (λ l. l.compile_args) t ++ (s.facts.flags.c_args ++ t.own.compile_args))

-- Returns the words of the target's compile commands, up to those that differ between sources.
abbrev pub compile_words : SurroundingsData → BuildData → List Text
compile_words s t =
    s.facts.compiler
    ++ (includes s.facts.depth t ++ (option_words s.facts.flags ++ (word_if (is_library t.kind) (codes "-fPIC") ++ argument_words s t)))

-- ---- linking

-- Returns the file of a library, if there is one.
abbrev pub file_in : Option BuildData → List Path
file_in None = []
file_in (Some t) = file_path t ∷ []

-- Returns the file of the library with a number.
abbrev pub library_file : List DeclaredTargetData → ℕ → List Path
library_file earlier n = file_in (build_at earlier n)

-- Returns the folder of a target that is a shared library.
abbrev pub shared_folder_in : Option BuildData → List Path
shared_folder_in None = []
shared_folder_in (Some t) = if is_shared t.kind then t.folder ∷ [] else []

-- Returns the folder of a shared library.
abbrev pub shared_folder : List DeclaredTargetData → ℕ → List Path
shared_folder earlier n = shared_folder_in (build_at earlier n)

-- Returns the link arguments that the dependencies of a static library add.
abbrev pub static_arguments_in : Option BuildData → List Text
static_arguments_in None = []
static_arguments_in (Some t) = if is_static t.kind then items_of_dependencies (λ l. l.link_args) t else []

-- Returns the link arguments of a static library's dependencies.
abbrev pub static_arguments : List DeclaredTargetData → ℕ → List Text
static_arguments earlier n = static_arguments_in (build_at earlier n)

-- Returns the files of the libraries with these numbers.
abbrev pub library_files : List DeclaredTargetData → List ℕ → List Path
library_files earlier ns = flat_map (library_file earlier) ns

-- Returns the argument that makes a program look for a shared library, from its own folder to the library's.
abbrev pub search_word : Path → Path → Text
search_word from to = codes "-Wl,-rpath,$ORIGIN" ++ relative_way from to

-- Returns such an argument for each folder of a shared library.
abbrev pub search_words : List DeclaredTargetData → Path → List ℕ → List Text
search_words earlier from ns = map (search_word from) (first_kept (flat_map (shared_folder earlier) ns))

-- Returns the words for a shared library, which has a name of its own.
abbrev pub shared_library_words : BuildData → List Text
shared_library_words t = codes "-shared" ∷ codes "-fPIC" ∷ (codes "-Wl,-soname," ++ so_name t) ∷ []

-- Returns the words for a target of this kind, which only a shared library needs.
abbrev pub shared_words : TargetKind → BuildData → List Text
shared_words Executable t = []
shared_words StaticLibrary t = []
shared_words SharedLibrary t = shared_library_words t

-- Returns the arguments of the option `c_link_args`, of the project, of the target, of its dependencies, and of the dependencies of its
-- static libraries.
abbrev pub link_arguments : SurroundingsData → List DeclaredTargetData → List ℕ → BuildData → List Text
link_arguments s earlier ns t =
    s.facts.flags.c_link_args
    ++ (s.link_arguments ++ (t.own.link_args ++ (items_of_dependencies (λ l. l.link_args) t ++ flat_map (static_arguments earlier) ns)))

-- Returns what follows the objects: the files of the libraries, the search paths of the shared ones, and arguments.
abbrev pub library_words : SurroundingsData → List DeclaredTargetData → List ℕ → BuildData → List Text
library_words s earlier ns t = library_files earlier ns ++ (search_words earlier t.folder ns ++ link_arguments s earlier ns t)

-- Returns the words of the command that links objects and libraries into a file.
abbrev pub link_words : SurroundingsData → List DeclaredTargetData → List ℕ → BuildData → (file : Path) (objects : List Path) → List Text
link_words s earlier ns t file objects =
    s.facts.compiler
    ++ (shared_words t.kind t
    ++ (codes "-o" ∷ file ∷ (objects ++ library_words s earlier ns t)))

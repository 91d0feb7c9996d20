-- Defines the sources of a target, and which of them are compiled.
use Rattle.std.specs.Prelude.{ℕ, Bool, false, ◌||◌, not, List, [], ◌∷◌, ◌++◌, map, flat_map, nat_eq, codes, if◌then◌else◌}
use Rattle.std.specs.List.{list_any, ends_with}
use Rattle.build.specs.edge.Texts.{Path, holds, first_kept}
use Rattle.build.specs.edge.Paths.{source_path}
use Rattle.build.specs.Data.{SourceData, Tree, Built, Made, ListsData, BuildData}

-- Returns the items that the target's dependencies add to a list.
abbrev pub items_of_dependencies : {X : Type 0} → (ListsData → List X) → BuildData → List X
items_of_dependencies list t = flat_map list t.dependencies

-- Returns a list of the target, followed by the items of its dependencies.
abbrev pub list_with_dependencies : {X : Type 0} → (ListsData → List X) → BuildData → List X
list_with_dependencies list t = list t.own ++ items_of_dependencies list t

-- Returns all sources of the target, its own first.
abbrev pub all_sources : BuildData → List SourceData
all_sources t = list_with_dependencies (λ l. l.sources) t

-- ---- compiled sources

-- A path from the build directory, and from its own root: the source root or the build directory.
pub record InputData : Type 0 where
  pub path : Path
  pub name : Path

-- Returns whether the path ends in `.c`, as a C source does.
abbrev pub is_c : Path → Bool
is_c path = ends_with nat_eq path (codes ".c")

-- Returns whether the path ends in `.h`, as a header does.
abbrev pub is_header : Path → Bool
is_header path = ends_with nat_eq path (codes ".h")

-- Returns the input of a file in the build directory.
abbrev pub own_input : Path → InputData
own_input path = record { path = path; name = path }

-- Returns the inputs of a source.
abbrev pub inputs_in : ℕ → SourceData → List InputData
inputs_in depth (Tree path) = record { path = source_path depth path; name = path } ∷ []
inputs_in depth (Built path) = own_input path ∷ []
inputs_in depth (Made paths) = map own_input paths

-- Returns the input if it is a C source.
abbrev pub c_input : InputData → List InputData
c_input i = if is_c i.name then i ∷ [] else []

-- Returns the inputs of a source that are C sources.
abbrev pub c_inputs_in : ℕ → SourceData → List InputData
c_inputs_in depth s = flat_map c_input (inputs_in depth s)

-- Appends the input, unless the list has its path.
abbrev pub put_input : List InputData → InputData → List InputData
put_input kept i = if holds i.path (map (λ k. k.path) kept) then kept else kept ++ i ∷ []

-- Appends the inputs, each unless the list has its path.
abbrev pub put_inputs : List InputData → List InputData → List InputData
put_inputs kept [] = kept
put_inputs kept (i ∷ is) = put_inputs (put_input kept i) is

-- Returns the inputs that are compiled, in the order in which they are first named.
abbrev pub compiled_inputs : ℕ → BuildData → List InputData
compiled_inputs depth t = put_inputs [] (flat_map (c_inputs_in depth) (all_sources t))

-- ---- sources that are only made earlier

-- Returns the path unless it is a C source.
abbrev pub if_not_c : Path → List Path
if_not_c path = if is_c path then [] else path ∷ []

-- Returns the outputs of a custom target that are no C sources.
abbrev pub generated_in : SourceData → List Path
generated_in (Tree path) = []
generated_in (Built path) = []
generated_in (Made paths) = flat_map if_not_c paths

-- Returns the outputs of custom targets that are among the sources but are not compiled, each once.
abbrev pub generated_paths : BuildData → List Path
generated_paths t = first_kept (flat_map generated_in (all_sources t))

-- ---- allowed sources

-- Returns whether a file is neither a C source nor a header. Outputs of custom targets may be of any kind.
abbrev pub is_foreign : SourceData → Bool
is_foreign (Tree path) = not (is_c path || is_header path)
is_foreign (Built path) = not (is_c path || is_header path)
is_foreign (Made paths) = false

-- Returns whether a file among the sources of these lists is neither a C source nor a header.
abbrev pub has_foreign_in : ListsData → Bool
has_foreign_in l = list_any is_foreign l.sources

-- Returns whether a file among the sources of the target or its dependencies is neither a C source nor a header.
abbrev pub has_foreign : BuildData → Bool
has_foreign t = has_foreign_in t.own || list_any has_foreign_in t.dependencies

-- Returns the paths of a source, seen from the build directory.
abbrev pub source_paths : ℕ → SourceData → List Path
source_paths depth (Tree path) = source_path depth path ∷ []
source_paths depth (Built path) = path ∷ []
source_paths depth (Made paths) = paths

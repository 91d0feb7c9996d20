-- Defines what a call that adds to a project returns, and the project after it.
use Prim.Native.Char.{code}
use Rattle.std.specs.Prelude.{ℕ, zero, suc, ◌+◌, Bool, true, false, nat_le, not, ◌&&◌, ◌||◌, ◌==◌, List, [], ◌∷◌, ◌++◌, length, take}
use Rattle.std.specs.Prelude.{slice_get, bytes_eq, codes, Option, Some, None, Result, Ok, Err, if◌then◌else◌}
use Rattle.std.specs.List.{list_any, list_all, sum_by}
use Rattle.support.specs.Limits.{items}
use Rattle.support.specs.paths.Names.{has_slash, is_file_name}
use Rattle.build.specs.edge.Texts.{Path, Text, holds, put_new}
use Rattle.build.specs.edge.Paths.{is_upward}
use Rattle.build.specs.edge.Data.{EdgeData}
use Rattle.build.specs.edge.Holding.{path_held, value_held, are_writable}
use Rattle.build.specs.Data.{SurroundingsData, SourceData, Tree, Built, Made, ListsData, BuildData, CustomData, TargetData, Build, Custom}
use Rattle.build.specs.Sources.{all_sources, is_c, has_foreign}
use Rattle.support.specs.paths.Paths.{path_in}
use Rattle.build.specs.Files.{file_name, link_names}
use Rattle.build.specs.Libraries.{DeclaredTargetData, declared_target, linked_of, links_libraries}
use Rattle.build.specs.target_edges.Edges.{edges_of}
use Rattle.build.specs.project.Laws.{first_taken, outputs_of}
use Rattle.build.specs.project.Refused.{RefusedData, refusal_for_text}
use Rattle.build.specs.project.Unheld.{unheld_text, unheld_word}
use Rattle.build.specs.project.World.{WorldData, AnswerData, InstallData, TestData, made_in, taken_in}
use Rattle.build.specs.declared.project.acceptance.ListOf.{ListOf}
use Rattle.build.specs.declared.project.acceptance.ListOf.TheVariants.{OfSources, OfFolders, OfCompileArgs, OfLinkArgs, OfLibraries}
use Rattle.support.specs.declared.faults.refusal.Refusal.TheVariants.{Arguments, FileMissing, NinjaName, Duplicate, Limit, LateArguments}

-- ---- names (E9)

-- Returns whether the first byte of the text is `-`.
abbrev pub begins_with_dash : Text → Bool
begins_with_dash [] = false
begins_with_dash (b ∷ bs) = b == code "-"

-- Returns whether a folder of the tree does not lead out of the tree.
abbrev pub is_folder : Path → Bool
is_folder folder = not (is_upward folder || bytes_eq folder (codes ".."))

-- ---- sources

-- Returns all sources of a target.
abbrev pub sources_of : TargetData → List SourceData
sources_of (Build t) = all_sources t
sources_of (Custom t) = t.inputs ++ t.needs

-- Returns whether what a source names in the build directory is made (E9).
abbrev pub is_made_source : (is_made : Path → Bool) → SourceData → Bool
is_made_source is_made (Tree path) = true
is_made_source is_made (Built path) = is_made path
is_made_source is_made (Made paths) = list_all is_made paths

-- Returns whether a file of the tree was looked at and is present (E14).
abbrev pub is_present : (present : List Path) → SourceData → Bool
is_present present (Tree path) = holds path present
is_present present (Built path) = true
is_present present (Made paths) = true

-- Returns whether a source is a C file, or has one among its outputs.
abbrev pub has_c_in : SourceData → Bool
has_c_in (Tree path) = is_c path
has_c_in (Built path) = is_c path
has_c_in (Made paths) = list_any is_c paths

-- Returns whether the target compiles something.
abbrev pub has_c : BuildData → Bool
has_c t = list_any has_c_in (all_sources t)

-- ---- targets that fit (E9)

-- Returns whether a build target may have the name: it is not empty, has no `/`, and does not begin with `-`.
abbrev pub is_target_name : Text → Bool
is_target_name name = not (bytes_eq name [] || (has_slash name || begins_with_dash name))

-- Returns whether the target's name and the names of its files are valid.
abbrev pub names_fit : BuildData → Bool
names_fit t = is_target_name t.name && (is_file_name (file_name t) && list_all is_file_name (link_names t))

-- Returns whether a file may have the name, if there is one.
abbrev pub optional_file_name : Option Text → Bool
optional_file_name None = true
optional_file_name (Some name) = is_file_name name

-- Returns whether an executable or a library is allowed, by its folder, names, sources and libraries.
abbrev pub build_fits : (earlier : List DeclaredTargetData) → BuildData → Bool
build_fits earlier t = is_folder t.folder && (names_fit t && (not (has_foreign t) && (has_c t && links_libraries earlier t)))

-- Returns whether a custom target is allowed, by its folder and names.
abbrev pub custom_fits : CustomData → Bool
custom_fits t = is_folder t.folder && (list_all is_file_name t.outputs && optional_file_name t.depfile)

-- Returns whether a target is allowed, given the earlier targets.
abbrev pub target_fits : (earlier : List DeclaredTargetData) → TargetData → Bool
target_fits earlier (Build t) = build_fits earlier t
target_fits earlier (Custom t) = custom_fits t

-- Returns whether a project can have the target, whose sources in the build directory must all be made.
abbrev pub is_fit : WorldData → TargetData → Bool
is_fit w t = target_fits (linked_of w.targets) t && list_all (is_made_source (λ p. holds p (made_in w))) (sources_of t)

-- ---- limits (E22)

-- Returns the length of such a list.
abbrev pub length_in : ListOf → ListsData → ℕ
length_in OfSources l = length l.sources
length_in OfFolders l = length l.include_folders
length_in OfCompileArgs l = length l.compile_args
length_in OfLinkArgs l = length l.link_args
length_in OfLibraries l = length l.link_with

-- Returns the length of such a list of the target and its dependencies.
abbrev pub length_of : ListOf → BuildData → ℕ
length_of which t = length_in which t.own + sum_by (length_in which) t.dependencies

-- Returns whether such a list of a target is short enough, with the items of its dependencies.
abbrev pub is_short : ListOf → BuildData → Bool
is_short which t = nat_le (length_of which t) items

-- Returns how many paths a source names.
abbrev pub paths_in : SourceData → ℕ
paths_in (Tree path) = 1
paths_in (Built path) = 1
paths_in (Made paths) = length paths

-- Returns whether no list of the target is too long. For a custom target, the words of its command and the paths that it needs are lists
-- too, in addition to those of its declaration.
abbrev pub is_within : TargetData → Bool
is_within (Build t) =
    is_short OfSources t && (is_short OfFolders t && (is_short OfCompileArgs t && (is_short OfLinkArgs t && is_short OfLibraries t)))
is_within (Custom t) = nat_le t.longest items && (nat_le (length t.words) items && nat_le (sum_by paths_in t.needs) items)

-- ---- a target

-- Returns the edges that the target would have.
abbrev pub edges_with : WorldData → TargetData → List EdgeData
edges_with w t = edges_of w.surroundings (linked_of w.targets) (declared_target (linked_of w.targets) t)

-- Returns the project with a target.
abbrev pub with_target : WorldData → TargetData → WorldData
with_target w t = record w { targets = w.targets ++ t ∷ [] }

-- Refuses a path that is taken, or else returns this answer.
abbrev pub unless_taken : {X : Type 0} → (taken : Option Path) → Result X RefusedData → Result X RefusedData
unless_taken (Some path) answer = Err (refusal_for_text Duplicate path)
unless_taken None answer = answer

-- Returns the number of a target whose paths nothing else makes and whose lists are short enough.
abbrev pub place_answer : WorldData → (paths : List Path) (within : Bool) → Result ℕ RefusedData
place_answer w paths within =
    unless_taken (first_taken (taken_in w) paths) (if within then Ok (length w.targets) else Err (refusal_for_text Limit []))

-- Returns the number of the target, or the first reason to refuse it.
abbrev pub target_answer : WorldData → TargetData → Result ℕ RefusedData
target_answer w t =
    if is_fit w t then
    (if list_all (is_present w.present) (sources_of t) then
    (if are_writable (edges_with w t) then place_answer w (outputs_of (edges_with w t)) (is_within t)
    else Err (refusal_for_text NinjaName (unheld_text t)))
    else Err (refusal_for_text FileMissing []))
    else Err (refusal_for_text Arguments [])

-- Returns the project after an answer: as it was, if that is a refusal.
abbrev pub after_answer : {X : Type 0} → Result X RefusedData → (then_ before : WorldData) → WorldData
after_answer (Ok x) then_ before = then_
after_answer (Err refusal) then_ before = before

-- Returns the project after a target was added or refused.
abbrev pub after_target : WorldData → TargetData → WorldData
after_target w t = after_answer (target_answer w t) (with_target w t) w

-- ---- the edges of one target

-- Returns the edges of a target, if there is one.
abbrev pub edges_if : SurroundingsData → (earlier : List DeclaredTargetData) → Option DeclaredTargetData → List EdgeData
edges_if s earlier None = []
edges_if s earlier (Some l) = edges_of s earlier l

-- Returns the edges of the target with a number, given the earlier targets.
abbrev pub edges_at : WorldData → ℕ → List EdgeData
edges_at w n = edges_if w.surroundings (take n (linked_of w.targets)) (slice_get (linked_of w.targets) n)

-- Returns the edges of `count` targets, from a number on.
abbrev pub edges_between : SurroundingsData → List DeclaredTargetData → (count : ℕ) (number : ℕ) → List EdgeData
edges_between s ls zero n = []
edges_between s ls (suc count) n = edges_if s (take n ls) (slice_get ls n) ++ edges_between s ls count (n + 1)

-- Returns the edges of the targets, in the order of their numbers.
abbrev pub edges_by_number : WorldData → List EdgeData
edges_by_number w = edges_between w.surroundings (linked_of w.targets) (length w.targets) 0

-- ---- an output of `configure_file`

-- Returns the project with an output of `configure_file`.
abbrev pub with_output : WorldData → Path → WorldData
with_output w path = record w { outputs = w.outputs ++ path ∷ [] }

-- Accepts a path that nothing else makes.
abbrev pub place_output_answer : WorldData → Path → Result (Unit {0}) RefusedData
place_output_answer w path = unless_taken (first_taken (taken_in w) (path ∷ [])) (Ok tt)

-- Accepts a file of the folder that nothing else makes, or returns the first reason to refuse it.
abbrev pub output_answer : WorldData → (folder : Path) (name : Text) → Result (Unit {0}) RefusedData
output_answer w folder name =
    if is_folder folder && is_file_name name then
    (if path_held (path_in folder name) then place_output_answer w (path_in folder name)
    else Err (refusal_for_text NinjaName (path_in folder name)))
    else Err (refusal_for_text Arguments [])

-- ---- arguments of the project

-- Returns whether the target is an executable or a library.
abbrev pub is_build : TargetData → Bool
is_build (Build t) = true
is_build (Custom t) = false

-- Returns the name of the first build target.
abbrev pub first_build : List TargetData → Text
first_build [] = []
first_build (Build t ∷ ts) = t.name
first_build (Custom t ∷ ts) = first_build ts

-- Accepts words that `build.ninja` can hold, if no build target was added before.
abbrev pub arguments_answer : WorldData → List Text → Result (Unit {0}) RefusedData
arguments_answer w words =
    if list_all value_held words then
    (if list_any is_build w.targets then Err (refusal_for_text LateArguments (first_build w.targets)) else Ok tt)
    else Err (refusal_for_text NinjaName (unheld_word words))

-- Returns the project with more arguments for all compile commands.
abbrev pub with_arguments : WorldData → List Text → WorldData
with_arguments w words = record w { surroundings = record w.surroundings { arguments = w.surroundings.arguments ++ words } }

-- Returns the project with more arguments for all link commands.
abbrev pub with_link_arguments : WorldData → List Text → WorldData
with_link_arguments w words = record w { surroundings = record w.surroundings { link_arguments = w.surroundings.link_arguments ++ words } }

-- ---- notes

-- Notes a path that was looked at, once.
abbrev pub with_present : WorldData → Path → WorldData
with_present w path = record w { present = put_new w.present path }

-- Notes a path that was looked at and at which the tree has no file, once.
abbrev pub with_absent : WorldData → Path → WorldData
with_absent w path = record w { absent = put_new w.absent path }

-- Notes a path that was looked at, as present or absent.
abbrev pub with_file : WorldData → Path → Bool → WorldData
with_file w path is_present = if is_present then with_present w path else with_absent w path

-- Returns the project with the result of one more call of `dependency`, which is last.
abbrev pub with_dependency : WorldData → AnswerData → WorldData
with_dependency w answer = record w { dependencies = w.dependencies ++ answer ∷ [] }

-- Returns the project with one more installed file, which is last.
abbrev pub with_install : WorldData → InstallData → WorldData
with_install w install = record w { installs = w.installs ++ install ∷ [] }

-- Returns the project with one more test, which is last.
abbrev pub with_test : WorldData → TestData → WorldData
with_test w test = record w { tests = w.tests ++ test ∷ [] }

-- Defines a custom target, from the arguments of a call: `custom_target` of the page "Reference manual".
use Rattle.std.specs.Prelude.{◌≡◌, ℕ, max, Bool, false, not, ◌||◌, ◌==◌, List, [], ◌++◌, length, flat_map, codes}
use Rattle.std.specs.Prelude.{bytes_eq, Option, Some, None, Ok, is_some, if◌then◌else◌}
use Rattle.arguments.specs.Arguments.{ArgumentsData}
use Rattle.arguments.specs.Given.{flag, text_at, text_given}
use Rattle.arguments.specs.Leaves.{leaves_named}
use Rattle.arguments.specs.Said.{Said, ◌>>=◌, found_value, no_breach}
use Rattle.arguments.specs.declared.rule.Rule.{Rule}
use Rattle.arguments.specs.declared.rule.Rule.TheVariants as rules
use Rattle.values.specs.Data.{Data}
use Rattle.build.specs.edge.Texts.{Path, Text}
use Rattle.sources.specs.Holes.{PlaceData}
use Rattle.build.specs.Data.{Custom, CustomData, SourceData}
use Rattle.build.specs.Libraries.{DeclaredTargetData}
use Rattle.build.specs.Sources.{source_paths}
use Rattle.values.specs.Flat.{opened}
use Rattle.sources.specs.Sources.{NamedData, sources_of}
use Rattle.target_calls.specs.BuildTargets.{NamedTargetData}
use Rattle.target_calls.specs.Commands.{PartData, command_of}
use Rattle.target_calls.specs.CustomNames.{NamesData, names_of, place_of, place_with}
use Rattle.world.specs.Here.{HereData}
use Rattle.target_calls.specs.Sources.{file_in, sources_in}

-- ---- checks of the arguments

-- Returns how many items a keyword has, with nested lists flattened.
abbrev pub count_named : Text → ArgumentsData → ℕ
count_named name a = length (leaves_named name a)

-- Returns the length of the longest list of the call.
abbrev pub longest : ArgumentsData → ℕ
longest a =
    max (count_named (codes "output") a) (max (count_named (codes "command") a) (max (count_named (codes "input") a)
    (max (count_named (codes "depend_files") a) (count_named (codes "depends") a))))

-- Holds if the call does not capture the command's standard output, or has exactly one output for it.
abbrev pub captures_one : ArgumentsData → Bool
captures_one a = not (flag (codes "capture") false a) || count_named (codes "output") a == 1

-- Holds if the call installs nothing, or gives an `install_dir`.
abbrev pub has_place : ArgumentsData → Bool
has_place a = not (flag (codes "install") false a) || is_some (text_given (codes "install_dir") a)

-- Returns the first rule that is broken: an empty list, captured output without exactly one output file, or an install without a directory.
abbrev pub rule_broken : ArgumentsData → Option (Rule × Text)
rule_broken a =
    if count_named (codes "output") a == 0 then Some (rules.HasItems, codes "output")
    else (if count_named (codes "command") a == 0 then Some (rules.HasItems, codes "command")
    else (if not (captures_one a) then Some (rules.TakesOneOutput, codes "capture")
    else (if not (has_place a) then Some (rules.IsNeeded, codes "install_dir") else None)))

-- ---- sources

-- Holds if a keyword gives sources.
abbrev pub is_source_keyword : Text → Bool
is_source_keyword name = bytes_eq name (codes "input") || bytes_eq name (codes "depend_files")

-- Returns the sources that a keyword gives.
abbrev pub written_in : Text × Data → List Data
written_in n = if is_source_keyword n.0 then opened n.1 else []

-- Returns the sources that a call gives, in the order in which its keywords are written.
abbrev pub sources_in_call : ArgumentsData → List Data
sources_in_call a = flat_map written_in a.named

-- States that `input` alone gives all sources.
abbrev pub IsAllInput : ArgumentsData → Type 0
IsAllInput a = sources_in_call a ≡ leaves_named (codes "input") a

-- Returns the sources that a call names. Each path must be below the source root.
abbrev pub written_sources : HereData → ArgumentsData → Said (List NamedData)
written_sources here a = sources_of here.source_root here.folder (sources_in_call a)

-- Returns the sources that a keyword names, made so. None may be an output that no target has.
abbrev pub sources_made : (List DeclaredTargetData → List NamedData → Option (List SourceData)) → HereData → ArgumentsData → Text
    → Said (List SourceData)
sources_made sources here a name = do
  named ← sources_of here.source_root here.folder (leaves_named name a)
  found_value (sources here.earlier named) rules.HasMeaning name

-- Returns the sources that a keyword names. None may be an output that no target has.
abbrev pub sources_by : HereData → ArgumentsData → Text → Said (List SourceData)
sources_by here a name = sources_made sources_in here a name

-- ---- the target

-- Returns the target. It is built by default if it is installed, unless the call says otherwise.
abbrev pub custom_target : HereData → ArgumentsData → NamesData → (inputs : List SourceData) → PartData → CustomData
custom_target here a names inputs command = record {
  name = text_at 0 a;
  folder = here.folder;
  outputs = names.outputs;
  inputs = inputs;
  needs = command.needs;
  words = command.words;
  captures = flag (codes "capture") false a;
  depfile = names.depfile;
  longest = longest a;
  is_default = flag (codes "build_by_default") (flag (codes "install") false a) a;
  is_installed = flag (codes "install") false a;
}

-- Returns the command with further files that it needs.
abbrev pub with_needs : PartData → (more : List SourceData) → PartData
with_needs command more = record { words = command.words; needs = command.needs ++ more }

-- Says how a command is made of values, and how sources are made of their names.
pub record Makers : Type 0 where
  pub command : HereData → PlaceData → List Data → Option PartData
  pub sources : List DeclaredTargetData → List NamedData → Option (List SourceData)

-- Makes whole commands and all sources.
abbrev pub whole_makers : Makers
whole_makers = record { command = command_of; sources = sources_in }

-- Returns the part of the command that a keyword gives. Each placeholder must have a value, and each program must have been found.
abbrev pub part_by : Makers → HereData → ArgumentsData → PlaceData → Text → Said PartData
part_by make here a place name = found_value (make.command here place (leaves_named name a)) rules.HasMeaning name

-- Returns the command, and the files that it needs: files and targets in it, then `depends`, then `depend_files`.
abbrev pub whole_command : Makers → HereData → ArgumentsData → PlaceData → Said PartData
whole_command make here a place = do
  command ← part_by make here a place (codes "command")
  depends ← part_by make here a place (codes "depends")
  files ← sources_made make.sources here a (codes "depend_files")
  Ok (with_needs command (depends.needs ++ files))

-- Returns the names of the files that the target makes. Each placeholder must have a value.
abbrev pub names_from : HereData → ArgumentsData → (inputs : List Path) → Said NamesData
names_from here a inputs = found_value (names_of (place_with here inputs [] None) a) rules.HasMeaning (codes "output")

-- Returns the custom target of a call with these inputs.
abbrev pub custom_from : Makers → HereData → ArgumentsData → (inputs : List SourceData) → Said CustomData
custom_from make here a inputs = do
  names ← names_from here a (flat_map (source_paths here.depth) inputs)
  command ← whole_command make here a (place_of here (flat_map (source_paths here.depth) inputs) names)
  Ok (custom_target here a names inputs command)

-- Returns what a call with these inputs and source files declares.
abbrev pub declared_files : Makers → HereData → ArgumentsData → List SourceData → List Path → Said NamedTargetData
declared_files make here a inputs files = do
  t ← custom_from make here a inputs
  Ok (record { target = Custom t; files = files })

-- Returns what a call declares that is made so, or its refusal. Checked are empty lists first, then the outputs and the
-- directory, then sources, names and the command.
unfoldable pub declared_by : Makers → HereData → ArgumentsData → Said NamedTargetData
declared_by make here a = do
  _ ← no_breach (rule_broken a)
  named ← written_sources here a
  inputs ← sources_by here a (codes "input")
  declared_files make here a inputs (flat_map file_in named)

-- Returns what a call declares, or its refusal. Its command has all its words.
abbrev pub declared_custom : HereData → ArgumentsData → Said NamedTargetData
declared_custom here a = declared_by whole_makers here a

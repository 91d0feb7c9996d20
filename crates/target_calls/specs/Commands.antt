-- Defines the command of a custom target.
use Rattle.std.specs.Prelude.{ℕ, Bool, true, false, ◌&&◌, not, List, [], ◌∷◌, ◌++◌, codes}
use Rattle.std.specs.Prelude.{Option, Some, None, option_and_then, option_map, if◌then◌else◌}
use Rattle.values.specs.Data.{Data, text, object}
use Rattle.values.specs.declared.object.Object.{Object}
use Rattle.values.specs.declared.object.Program.{Program}
use Rattle.values.specs.declared.object.Program.TheVariants as programs
use Rattle.build.specs.edge.Paths.{source_path}
use Rattle.build.specs.edge.Texts.{Path, Text}
use Rattle.sources.specs.Holes.{PlaceData, words_of}
use Rattle.sources.specs.Things.{ThingData, a_file, a_program, a_target, all_outputs, an_output, thing_of}
use Rattle.support.specs.paths.Names.{has_slash}
use Rattle.build.specs.Data.{BuildData, SourceData, Tree, Built, Made}
use Rattle.build.specs.Files.{file_path, is_library}
use Rattle.world.specs.Here.{HereData}
use Rattle.target_calls.specs.Sources.{one_made}

-- A part of the command: its arguments, and the files that must be built or present before the command runs.
pub record PartData : Type 0 where
  pub words : List Text
  pub needs : List SourceData

-- Returns a part that needs nothing.
abbrev pub only_words : List Text → PartData
only_words ws = record { words = ws; needs = [] }

-- Returns a part of one path, and what it needs.
abbrev pub one_path : Path → SourceData → PartData
one_path path need = record { words = path ∷ []; needs = need ∷ [] }

-- Returns the arguments for a program. A program that was not found has none.
abbrev pub of_program : ℕ → Program → Option PartData
of_program depth programs.NotFound = None
of_program depth (programs.Words words) = Some (only_words words)
of_program depth (programs.File path) = Some (only_words (source_path depth path ∷ []))

-- Returns how a target is called. A program directly in the build directory is called as `./prog`.
abbrev pub command_path : BuildData → Path
command_path t = if not (is_library t.kind) && not (has_slash (file_path t)) then codes "./" ++ file_path t else file_path t

-- Returns the part for an executable or a library.
abbrev pub of_build_target : BuildData → PartData
of_build_target t = one_path (command_path t) (one_made (file_path t))

-- Returns the part for some outputs.
abbrev pub of_outputs : List Path → PartData
of_outputs paths = record { words = paths; needs = Made paths ∷ [] }

-- Returns the part for one output.
abbrev pub of_output : Path → PartData
of_output path = one_path path (one_made path)

-- Returns the part for a file, which may be built.
abbrev pub of_file : ℕ → Path → Bool → PartData
of_file depth path true = one_path path (Built path)
of_file depth path false = one_path (source_path depth path) (Tree path)

-- Returns the part for a thing, and none if it cannot be in a command.
abbrev pub of_thing : ℕ → ThingData → Option PartData
of_thing depth (a_program program) = of_program depth program
of_thing depth (a_file path is_built) = Some (of_file depth path is_built)
of_thing depth (a_target t) = Some (of_build_target t)
of_thing depth (all_outputs paths) = Some (of_outputs paths)
of_thing depth (an_output path) = Some (of_output path)

-- Returns the part for an object, and none if it cannot be in a command.
abbrev pub of_object : HereData → Object → Option PartData
of_object here o = option_and_then (of_thing here.depth) (thing_of here.earlier o)

-- Returns the part for a text with placeholders.
abbrev pub of_text : PlaceData → Text → Option PartData
of_text place t = option_map only_words (words_of place t)

-- Returns a part of the command: a text with placeholders, or an object.
abbrev pub part_of : HereData → PlaceData → Data → Option PartData
part_of here place (text t) = of_text place t
part_of here place (object o) = of_object here o
part_of here place _ = None

-- Returns two parts joined.
abbrev pub joined_parts : PartData → PartData → PartData
joined_parts p q = record { words = p.words ++ q.words; needs = p.needs ++ q.needs }

-- Returns a part followed by those of some values.
abbrev pub parts_behind : HereData → PlaceData → PartData → List Data → Option PartData
parts_behind here place whole [] = Some whole
parts_behind here place whole (d ∷ ds) =
    option_and_then (λ p. parts_behind here place (joined_parts whole p) ds) (part_of here place d)

-- Returns the part without arguments and without files.
abbrev pub no_part : PartData
no_part = record { words = []; needs = [] }

-- Returns the command of all these values, and none if one of them cannot be in a command.
abbrev pub command_of : HereData → PlaceData → List Data → Option PartData
command_of here place ds = parts_behind here place no_part ds

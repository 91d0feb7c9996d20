-- Defines which objects may be in a command.
use Rattle.std.specs.Prelude.{Bool, List, Option, Some, None, option_map}
use Rattle.values.specs.declared.object.Object.{Object}
use Rattle.values.specs.declared.object.Object.TheVariants as objects
use Rattle.values.specs.declared.object.Program.{Program}
use Rattle.build.specs.edge.Texts.{Path}
use Rattle.build.specs.Data.{BuildData}
use Rattle.build.specs.Libraries.{DeclaredTargetData, build_at}
use Rattle.sources.specs.Outputs.{output_at, outputs_at}

-- A thing that may be in a command.
pub data ThingData : Type 0 where
  a_program : (program : Program) → ThingData
  -- A file in the source directory, or in the build directory.
  a_file : (path : Path) (is_built : Bool) → ThingData
  a_target : (target : BuildData) → ThingData
  -- All outputs of a target, and one of them.
  all_outputs : (paths : List Path) → ThingData
  an_output : (path : Path) → ThingData

-- Returns the thing that an object refers to, and none if the object has another type or no target has its number.
abbrev pub thing_of : List DeclaredTargetData → Object → Option ThingData
thing_of earlier (objects.Program program) = Some (a_program program)
thing_of earlier (objects.File path is_built) = Some (a_file path is_built)
thing_of earlier (objects.BuildTarget number) = option_map a_target (build_at earlier number)
thing_of earlier (objects.CustomTarget number count) = option_map all_outputs (outputs_at earlier number)
thing_of earlier (objects.CustomOutput target place) = option_map an_output (output_at earlier target place)
thing_of earlier _ = None

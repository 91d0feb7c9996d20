-- Defines the view of things.
use Rattle.build.specs.edge.Texts.{texts}
use Rattle.build.specs.View.{build_view}
use Rattle.sources.specs.Things.{ThingData, a_file, a_program, a_target, all_outputs, an_output}
use Rattle.sources.specs.declared.command_objects.Thing.{Thing}
use Rattle.sources.specs.declared.command_objects.Thing.TheVariants as things

-- Returns the plain data of a thing.
abbrev pub thing_view : Thing → ThingData
thing_view (things.Program program) = a_program program.now
thing_view (things.File path is_built) = a_file path.now is_built
thing_view (things.Target target) = a_target (build_view target.now)
thing_view (things.Outputs paths) = all_outputs (texts paths.now)
thing_view (things.Output path) = an_output path.now

-- Decides whether values may be in a list of any depth.
use Rattle.std.specs.Prelude.{Bool, true, false, ◌&&◌, ◌||◌}
use Rattle.values.specs.Data.{Data, text, list, object, Items, no_items, item}
use Rattle.values.specs.declared.object.Object.{Object}
use Rattle.values.specs.declared.object.Object.TheVariants as objects
use Rattle.arguments.specs.declared.row.Piece.{Piece}
use Rattle.arguments.specs.declared.row.Piece.TheVariants as pieces

-- ---- objects by type

-- Holds if an object is a file.
abbrev pub is_file : Object → Bool
is_file (objects.File path is_built) = true
is_file _ = false

-- Holds if an object is a program.
abbrev pub is_program : Object → Bool
is_program (objects.Program program) = true
is_program _ = false

-- Holds if an object is one of `include_directories`.
abbrev pub is_folders : Object → Bool
is_folders (objects.IncludeDirectories paths) = true
is_folders _ = false

-- Holds if an object is the value of a feature option.
abbrev pub is_feature : Object → Bool
is_feature (objects.Feature feature) = true
is_feature _ = false

-- Holds if an object is configuration data.
abbrev pub is_configuration : Object → Bool
is_configuration (objects.ConfigurationData number) = true
is_configuration _ = false

-- Holds if an object is a dependency.
abbrev pub is_dependency : Object → Bool
is_dependency (objects.Dependency d) = true
is_dependency _ = false

-- Holds if an object is an executable or a library.
abbrev pub is_built : Object → Bool
is_built (objects.BuildTarget number) = true
is_built _ = false

-- Holds if an object is a custom target or an output of one.
abbrev pub is_custom : Object → Bool
is_custom (objects.CustomTarget number outputs) = true
is_custom (objects.CustomOutput target output) = true
is_custom _ = false

-- Holds if an object is a target, or an output of a custom target.
abbrev pub is_target : Object → Bool
is_target o = is_built o || is_custom o

-- Holds if a test can run an object.
abbrev pub is_command : Object → Bool
is_command o = is_program o || (is_target o || is_file o)

-- ---- pieces

-- Holds if an object is such a piece.
abbrev pub takes_object : Piece → Object → Bool
takes_object pieces.Path o = is_file o
takes_object pieces.Source o = is_file o || is_custom o
takes_object pieces.Folder o = is_folders o
takes_object pieces.BuildTarget o = is_built o
takes_object pieces.Dependency o = is_dependency o
takes_object pieces.Target o = is_target o
takes_object pieces.Word o = is_file o || is_target o
takes_object pieces.CommandWord o = is_command o

-- Holds if such a piece may be a text.
abbrev pub takes_text : Piece → Bool
takes_text pieces.BuildTarget = false
takes_text pieces.Dependency = false
takes_text pieces.Target = false
takes_text _ = true

-- Holds if a value is such a piece, or a list of such pieces of any depth.
abbrev mutual
  pub are_pieces : Piece → Data → Bool
  are_pieces piece (object o) = takes_object piece o
  are_pieces piece (text t) = takes_text piece
  are_pieces piece (list ds) = all_pieces piece ds
  are_pieces piece _ = false

  -- Holds if each item is such a piece, or a list of such pieces of any depth.
  pub all_pieces : Piece → Items → Bool
  all_pieces piece no_items = true
  all_pieces piece (item d ds) = are_pieces piece d && all_pieces piece ds

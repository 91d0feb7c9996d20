-- Defines which template the keyword `input` names.
use Rattle.std.specs.Prelude.{true, false, List, [], ◌∷◌, Option, Some, None, Ok, Err, codes, is_some, if◌then◌else◌}
use Rattle.arguments.specs.Arguments.{ArgumentsData}
use Rattle.arguments.specs.Given.{keyword}
use Rattle.arguments.specs.Leaves.{leaves_named}
use Rattle.arguments.specs.Refused.{breaks}
use Rattle.arguments.specs.Said.{Said, ◌>>=◌, found_value}
use Rattle.arguments.specs.declared.rule.Rule.TheVariants as rules
use Rattle.values.specs.Data.{Data, object, text}
use Rattle.values.specs.declared.object.Object.{Object}
use Rattle.values.specs.declared.object.Object.TheVariants as objects
use Rattle.build.specs.edge.Texts.{Path}
use Rattle.support.specs.paths.Paths.{tree_path}

-- Returns the path of a file object in the source directory. A built file does not count.
abbrev pub tree_file : Object → Option Path
tree_file (objects.File path true) = None
tree_file (objects.File path false) = Some path
tree_file _ = None

-- Returns the path in the source directory that a value names, in a definition file of a folder.
abbrev pub file_named : (source_root folder : Path) → Data → Said Path
file_named source_root folder (text t) = found_value (tree_path source_root folder t) rules.NamesFile t
file_named source_root folder (object o) = found_value (tree_file o) rules.TakesTreeFile (codes "input")
file_named source_root folder _ = Err (breaks rules.TakesTreeFile (codes "input"))

-- Returns the path that exactly one value names.
abbrev pub one_file : (source_root folder : Path) → List Data → Said Path
one_file source_root folder (d ∷ []) = file_named source_root folder d
one_file source_root folder _ = Err (breaks rules.TakesOneFile (codes "input"))

-- Returns the path that exactly one value names, as an optional path.
abbrev pub some_file : (source_root folder : Path) → List Data → Said (Option Path)
some_file source_root folder ds = do
  path ← one_file source_root folder ds
  Ok (Some path)

-- Returns the path that `input` names, which is optional.
abbrev pub input_named : (source_root folder : Path) → ArgumentsData → Said (Option Path)
input_named source_root folder a =
    if is_some (keyword (codes "input") a) then some_file source_root folder (leaves_named (codes "input") a) else Ok None

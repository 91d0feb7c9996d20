-- Defines which directories the keyword `include_directories` names: texts that are paths, and objects of `include_directories`.
use Rattle.std.specs.Prelude.{ℕ, List, [], ◌∷◌, Option, Some, None}
use Rattle.values.specs.Data.{Data, text, object}
use Rattle.values.specs.declared.object.Object.{Object}
use Rattle.values.specs.declared.object.Object.TheVariants as objects
use Rattle.arguments.specs.Said.{Said}
use Rattle.arguments.specs.declared.rule.Rule.TheVariants as rules
use Rattle.support.specs.paths.Paths.{folder_path}
use Rattle.arguments.specs.Each.{all_said}
use Rattle.sources.specs.Unnamed.{named_by}

-- Returns a list of one path, if there is a path.
abbrev pub one_path : Option (List ℕ) → Option (List (List ℕ))
one_path None = None
one_path (Some path) = Some (path ∷ [])

-- Returns the directories of an object of `include_directories`.
abbrev pub of_object : Object → Option (List (List ℕ))
of_object (objects.IncludeDirectories paths) = Some paths
of_object _ = None

-- Returns the directories that a value names, in a definition file of a folder. Returns none for a value of another type, and for a text
-- that leads out of the source directory.
abbrev pub folders_in : List ℕ → List ℕ → Data → Option (List (List ℕ))
folders_in source_root folder (text t) = one_path (folder_path source_root folder t)
folders_in source_root folder (object o) = of_object o
folders_in source_root folder _ = None

-- Returns the directories that all values name. The first value that names none breaks a rule.
abbrev pub folders_of : List ℕ → List ℕ → List Data → Said (List (List ℕ))
folders_of source_root folder ds = all_said (named_by rules.NamesFolder (folders_in source_root folder)) [] ds

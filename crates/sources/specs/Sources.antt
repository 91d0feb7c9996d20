-- Defines which sources a call names: texts that are paths in the source directory, files, custom targets and their outputs.
use Rattle.std.specs.Prelude.{ℕ, nat_eq, Bool, true, false, not, ◌||◌, List, [], ◌++◌, codes}
use Rattle.std.specs.Prelude.{Option, Some, None, option_map, if◌then◌else◌}
use Rattle.std.specs.List.{ends_with}
use Rattle.std.specs.Str.{bytes_eq}
use Rattle.arguments.specs.Said.{Said}
use Rattle.arguments.specs.declared.rule.Rule.TheVariants as rules
use Rattle.values.specs.Data.{Data, text, object}
use Rattle.values.specs.declared.object.Object.{Object}
use Rattle.values.specs.declared.object.Object.TheVariants as objects
use Rattle.support.specs.paths.Paths.{tree_path}
use Rattle.arguments.specs.Each.{each_said}
use Rattle.sources.specs.Unnamed.{named_by}

-- A source as a call names it.
pub data NamedData : Type 0 where
  -- A file in the source directory.
  tree : (path : List ℕ) → NamedData
  -- A file that is made while the definition files are evaluated.
  built : (path : List ℕ) → NamedData
  -- All outputs of the custom target with a number.
  outputs : (target : ℕ) → NamedData
  -- One output of a custom target.
  output : (target place : ℕ) → NamedData

-- Returns the source that an object names.
abbrev pub of_object : Object → Option NamedData
of_object (objects.File path true) = Some (built path)
of_object (objects.File path false) = Some (tree path)
of_object (objects.CustomTarget number count) = Some (outputs number)
of_object (objects.CustomOutput target place) = Some (output target place)
of_object _ = None

-- Holds if a part is the whole text, or its last part after a slash.
abbrev pub ends_in : List ℕ → List ℕ → Bool
ends_in t part = bytes_eq t part || ends_with nat_eq t (codes "/" ++ part)

-- Holds if the last part of a text is a name, so that the path that it refers to ends like the text.
abbrev pub ends_in_name : List ℕ → Bool
ends_in_name t = not (ends_in t [] || (ends_in t (codes ".") || ends_in t (codes "..")))

-- Returns the source that a value names, in a definition file of a folder. Returns none for a value of another type, and for a text that
-- names no file in the source directory.
abbrev pub source_of : List ℕ → List ℕ → Data → Option NamedData
source_of source_root folder (text t) = if ends_in_name t then option_map tree (tree_path source_root folder t) else None
source_of source_root folder (object o) = of_object o
source_of source_root folder _ = None

-- Returns the sources that all values name. The first value that names none breaks a rule.
abbrev pub sources_of : List ℕ → List ℕ → List Data → Said (List NamedData)
sources_of source_root folder ds = each_said (named_by rules.NamesFile (source_of source_root folder)) [] ds

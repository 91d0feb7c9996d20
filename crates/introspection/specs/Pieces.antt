-- Defines what both kinds of target show.
use Rattle.std.specs.Prelude.{Bool, List, [], ◌∷◌, codes}
use Rattle.serde_json.specs.Data.{Data, boolean, string}
use Rattle.build.specs.edge.Texts.{Path, Text}
use Rattle.introspection.specs.Document.{definition_file, fields, strings}

-- Returns the JSON object that shows a target. The arguments are: whether it is built by default, the folder of its definition file, the
-- paths of its files, whether it is installed, its name, and its type.
abbrev pub entry_of : Bool → Path → List Path → Bool → Text → Text → Data
entry_of is_default folder files is_installed name kind =
    fields ((codes "build_by_default", boolean is_default)
    ∷ (codes "defined_in", string (definition_file folder))
    ∷ (codes "filename", strings files)
    ∷ (codes "installed", boolean is_installed)
    ∷ (codes "name", string name)
    ∷ (codes "type", string kind)
    ∷ [])

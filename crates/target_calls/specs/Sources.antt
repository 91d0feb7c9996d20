-- Defines the sources of a target: files, and outputs of earlier targets.
use Rattle.std.specs.Prelude.{List, [], ◌∷◌, Option, Some, option_map}
use Rattle.build.specs.edge.Texts.{Path}
use Rattle.build.specs.Data.{SourceData, Tree, Built, Made}
use Rattle.build.specs.Libraries.{DeclaredTargetData}
use Rattle.arguments.specs.Each.{each_or_none}
use Rattle.sources.specs.Outputs.{output_at, outputs_at}
use Rattle.sources.specs.Sources.{NamedData, tree, built, outputs, output}

-- Returns a source made of one output.
abbrev pub one_made : Path → SourceData
one_made path = Made (path ∷ [])

-- Returns the source that is named, and none if it is an output that no target has.
abbrev pub source_in : List DeclaredTargetData → NamedData → Option SourceData
source_in earlier (tree path) = Some (Tree path)
source_in earlier (built path) = Some (Built path)
source_in earlier (outputs number) = option_map Made (outputs_at earlier number)
source_in earlier (output number place) = option_map one_made (output_at earlier number place)

-- Returns all sources that are named, and none if one of them is an output that no target has.
abbrev pub sources_in : List DeclaredTargetData → List NamedData → Option (List SourceData)
sources_in earlier ns = each_or_none (source_in earlier) ns

-- Returns the path of a source if it is a file in the source directory.
abbrev pub file_in : NamedData → List Path
file_in (tree path) = path ∷ []
file_in _ = []

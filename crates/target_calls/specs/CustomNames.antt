-- Defines the names of the files that a custom target makes, and the values of its placeholders.
use Rattle.std.specs.Prelude.{List, map, Option, Some, option_map, codes}
use Rattle.arguments.specs.Arguments.{ArgumentsData}
use Rattle.arguments.specs.Each.{each_or_none}
use Rattle.arguments.specs.Given.{texts}
use Rattle.support.specs.OptionSteps.{◌>>=◌}
use Rattle.build.specs.edge.Folders.{build_folder, source_folder}
use Rattle.build.specs.edge.Paths.{source_root}
use Rattle.build.specs.edge.Texts.{Path, Text}
use Rattle.sources.specs.Holes.{PlaceData, filled_text, first_of}
use Rattle.sources.specs.declared.placeholders.PlaceholderScope.TheVariants.{FileName}
use Rattle.support.specs.paths.Paths.{path_in}
use Rattle.world.specs.Here.{HereData}

-- Returns the values that the placeholders of a call refer to.
abbrev pub place_with : HereData → (inputs outputs : List Path) → (depfile : Option Path) → PlaceData
place_with here inputs outputs depfile = record {
  inputs = inputs;
  outputs = outputs;
  depfile = depfile;
  build_folder = build_folder here.folder;
  source_folder = source_folder here.depth here.folder;
  source_root = source_root here.depth;
}

-- Returns names of files with their placeholders replaced.
abbrev pub names_in : PlaceData → List Text → Option (List Text)
names_in place ts = each_or_none (filled_text FileName place) ts

-- Names of files in the folder of the call.
pub record NamesData : Type 0 where
  pub outputs : List Text
  pub depfile : Option Text

-- Returns the names of the outputs and the depfile. Their placeholders refer to the inputs alone.
abbrev pub names_of : PlaceData → ArgumentsData → Option NamesData
names_of place a = do
  outputs ← names_in place (texts (codes "output") a)
  depfile ← names_in place (texts (codes "depfile") a)
  Some (record { outputs = outputs; depfile = first_of depfile })

-- Returns the values that placeholders refer to, given the inputs and the names of the files that the target makes.
abbrev pub place_of : HereData → (inputs : List Path) → NamesData → PlaceData
place_of here inputs names =
    place_with here inputs (map (path_in here.folder) names.outputs) (option_map (path_in here.folder) names.depfile)

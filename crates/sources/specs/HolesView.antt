-- Defines the views of places and meanings.
use Rattle.std.specs.Prelude.{string_bytes, option_map}
use Rattle.build.specs.edge.Folders.{build_folder, source_folder}
use Rattle.build.specs.edge.Paths.{source_root}
use Rattle.build.specs.edge.Texts.{texts}
use Rattle.sources.specs.Holes.{PlaceData, MeaningData, stays, refused, means}
use Rattle.sources.specs.declared.placeholders.PlaceholderValues.{PlaceholderValues}
use Rattle.sources.specs.declared.placeholders.PlaceholderValue.{PlaceholderValue}
use Rattle.sources.specs.declared.placeholders.PlaceholderValue.TheVariants as meaning

-- Returns the plain data of a place.
abbrev pub place_view : PlaceholderValues → PlaceData
place_view p = record {
  inputs = texts p.inputs.now;
  outputs = texts p.outputs.now;
  depfile = option_map (λ t. t.now) p.depfile;
  build_folder = build_folder p.folder.now;
  source_folder = source_folder p.depth p.folder.now;
  source_root = source_root p.depth;
}

-- Returns the plain data of a meaning.
abbrev pub meaning_view : PlaceholderValue → MeaningData
meaning_view meaning.Stays = stays
meaning_view meaning.Refused = refused
meaning_view (meaning.Lent text) = means text.now
meaning_view (meaning.Made text) = means (string_bytes text)

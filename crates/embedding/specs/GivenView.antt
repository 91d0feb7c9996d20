-- Defines what a caller passes, without its place in memory.
use Rattle.embedding.specs.Given.{GivenData}
use Rattle.embedding.specs.declared.input_slices.InputSlices.{InputSlices}

-- Returns the slices that a caller passes as plain data, each as the list of its items.
abbrev pub given_view : InputSlices → GivenData
given_view g = record {
  paths = g.paths.now;
  sizes = g.sizes.now;
  contents = g.contents.now;
  words = g.words.now;
  machine = g.machine.now;
  source_root = g.source_root.now;
  build_folder = g.build_folder.now;
}

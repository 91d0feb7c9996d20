-- Defines edges, without their place in memory.
use Rattle.std.specs.Prelude.{string_bytes, option_map}
use Rattle.build.specs.edge.Texts.{texts}
use Rattle.build.specs.edge.Data.{EdgeData}
use Rattle.build.specs.declared.edge.edge.Edge.{Edge}

-- Returns an edge of the code as plain data, with each string as its bytes. Nothing is left out.
abbrev pub edge_view : Edge → EdgeData
edge_view e = record {
  rule = e.rule;
  outputs = texts e.outputs.items;
  inputs = texts e.inputs.items;
  implicit = texts e.implicit.items;
  order_only = texts e.order_only.items;
  words = texts e.words.items;
  redirect = option_map string_bytes e.redirect;
  description = string_bytes e.description;
  depfile = option_map string_bytes e.depfile;
}

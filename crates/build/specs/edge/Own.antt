-- Defines the parts of an edge, without their place in memory.
use Rattle.std.specs.Prelude.{map, option_map}
use Rattle.build.specs.edge.Data.{EdgeData}
use Rattle.build.specs.edge.Parts.{OwnData, SharedData}
use Rattle.build.specs.edge.Texts.{texts}
use Rattle.build.specs.declared.edge.parts.LentEdge.{LentEdge}
use Rattle.build.specs.declared.edge.parts.OwnParts.{OwnParts}
use Rattle.build.specs.declared.edge.parts.SharedParts.{SharedParts}

-- Returns the own parts of an edge as plain data, with each borrowed text as its bytes.
abbrev pub own_view : OwnParts → OwnData
own_view o = record {
  output = o.output.now;
  input = o.input.now;
  words = map (λ w. w.now) o.words.now;
  description = o.description.now;
  depfile = o.depfile.now;
}

-- Returns the edge of borrowed parts.
abbrev pub lent_view : LentEdge → EdgeData
lent_view e = record {
  rule = e.rule;
  outputs = texts e.outputs.now;
  inputs = texts e.inputs.now;
  implicit = texts e.implicit.now;
  order_only = texts e.order_only.now;
  words = texts e.words.now;
  redirect = option_map (λ t. t.now) e.redirect;
  description = e.description.now;
  depfile = option_map (λ t. t.now) e.depfile;
}

-- Returns the shared parts of edges as plain data, with each text as its bytes.
abbrev pub shared_view : SharedParts → SharedData
shared_view s = record { rule = s.rule; order_only = texts s.order_only.now; words = texts s.words.now }

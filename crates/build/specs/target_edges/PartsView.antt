-- Defines the edges of a target's parts.
use Rattle.std.specs.Prelude.{List, [], ◌∷◌, ◌++◌, map, option_map, string_bytes}
use Rattle.build.specs.edge.Data.{EdgeData}
use Rattle.build.specs.edge.Texts.{texts}
use Rattle.build.specs.edge.View.{edge_view}
use Rattle.build.specs.Inputs.{input_view}
use Rattle.build.specs.target_edges.Parts.{joined_edge}
use Rattle.build.specs.declared.target_edges.parts.BuildParts.{BuildParts}
use Rattle.build.specs.declared.target_edges.parts.CustomParts.{CustomParts}
use Rattle.build.specs.declared.target_edges.parts.TargetParts.{TargetParts}
use Rattle.build.specs.declared.target_edges.parts.TargetParts.TheVariants.{Build, Custom}

-- Returns the edges of a build target's parts as plain data: one for each input, which compiles it, and then the others.
abbrev pub build_parts_edges : BuildParts → List EdgeData
build_parts_edges p =
    map (joined_edge (texts p.words.items) (texts p.generated.items) (string_bytes p.file)) (map input_view p.inputs.items)
    ++ map edge_view p.rest.items

-- Returns the edge of a custom target's parts as plain data. The parts need nothing that is only made earlier.
abbrev pub custom_parts_edge : CustomParts → EdgeData
custom_parts_edge p = record {
  rule = p.rule;
  outputs = texts p.outputs.now;
  inputs = texts p.inputs.items;
  implicit = texts p.needs.items;
  order_only = [];
  words = texts p.words.now;
  redirect = option_map (λ t. t.now) p.redirect;
  description = string_bytes p.description;
  depfile = option_map string_bytes p.depfile;
}

-- Returns the edges of a target's parts as plain data, in the order in which they are written.
abbrev pub parts_edges : TargetParts → List EdgeData
parts_edges (Build p) = build_parts_edges p
parts_edges (Custom p) = custom_parts_edge p ∷ []

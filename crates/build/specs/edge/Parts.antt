-- Defines an edge by what it shares with others and what is its own.
use Rattle.std.specs.Prelude.{List, [], ◌∷◌, ◌++◌, Some, None}
use Rattle.build.specs.edge.Texts.{Path, Text}
use Rattle.build.specs.edge.Data.{EdgeData}
use Rattle.build.specs.declared.edge.rule.EdgeRule.{EdgeRule}

-- The parts that several edges share: their rule, their order-only paths and the first words of their commands.
pub record SharedData : Type 0 where
  pub rule : EdgeRule
  -- Paths that are only made earlier.
  pub order_only : List Path
  -- The first words of the command.
  pub words : List Text

-- The parts that belong to one edge, which has one output and one input.
pub record OwnData : Type 0 where
  pub output : Path
  pub input : Path
  -- The last words of the command.
  pub words : List Text
  -- The text that Ninja prints while the command runs.
  pub description : Text
  -- The file in which the compiler lists what it has read.
  pub depfile : Path

-- Returns the edge with these parts. Its command is the shared words, followed by its own ones. It has no implicit inputs and no
-- redirection.
abbrev pub edge_of_parts : SharedData → OwnData → EdgeData
edge_of_parts s o = record {
  rule = s.rule;
  outputs = o.output ∷ [];
  inputs = o.input ∷ [];
  implicit = [];
  order_only = s.order_only;
  words = s.words ++ o.words;
  redirect = None;
  description = o.description;
  depfile = Some o.depfile;
}

-- Defines an edge as plain data, without its place in memory.
use Rattle.std.specs.Prelude.{List, Option}
use Rattle.build.specs.edge.Texts.{Path, Text}
use Rattle.build.specs.declared.edge.rule.EdgeRule.{EdgeRule}

-- A build edge: what Ninja makes, from what, and by which command.
pub record EdgeData : Type 0 where
  pub rule : EdgeRule
  pub outputs : List Path
  -- The inputs that the rule's command names.
  pub inputs : List Path
  -- Further paths whose change rebuilds the outputs.
  pub implicit : List Path
  -- Paths that are only made earlier.
  pub order_only : List Path
  -- The words of the command.
  pub words : List Text
  -- The path that receives the command's output.
  pub redirect : Option Path
  -- The text that Ninja prints while the command runs.
  pub description : Text
  -- The file in which the compiler lists what it has read.
  pub depfile : Option Path

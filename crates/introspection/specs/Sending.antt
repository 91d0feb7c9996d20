-- Defines what is sent to a serializer for a value.
use Rattle.std.specs.Prelude.{◌≡◌, Some}
use Rattle.json.specs.Tree.{HasNumbers}
use Rattle.serde.specs.Event.{Log}
use Rattle.serde_json.specs.Data.{Data}
use Rattle.serde_json.specs.Events.{SendsValue}
use Rattle.serde_json.specs.Read.{of_json}
use Rattle.serde_json.specs.Written.{outline}

-- A reader reads the value's text as this value.
pub record Reads (d : Data) : Type 0 where
  pub value : of_json (outline d) ≡ Some d
  pub numbers : HasNumbers (outline d)

-- The events of such a value are sent, each once and in order.
pub record Sends (d : Data) (old new : Log) : Type 0 where
  pub events : SendsValue d old new
  pub reads : Reads d

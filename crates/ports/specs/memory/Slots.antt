-- Defines how outputs in memory keep their events: a name is a range of the bytes of all names.
use Rattle.std.specs.Prelude.{ℕ, ◌-◌, Bool, true, ◌&&◌, Vec, vec_capacity, vec_len, List, map, slice_range, nat_le, Option, Some, None}
use Rattle.std.specs.Borrow.{Bor}
use Rattle.std.specs.declared.alloc.Global.{Global}
use Rattle.std.specs.List.{list_all}
use Rattle.ports.specs.declared.memory.event.Event.{Event}
use Rattle.ports.specs.declared.memory.event.Event.TheVariants.{Open, Byte, Close, Log, Fault}
use Rattle.ports.specs.declared.memory.outputs.Span.{Span}
use Rattle.ports.specs.Outputs as outputs
use Rattle.ports.specs.Outputs.{OutputState}
use Rattle.ports.specs.declared.memory.plan.OutputCall.{OutputCall}
use Rattle.ports.specs.declared.memory.plan.OutputCall.TheVariants as calls
use Rattle.ports.specs.declared.memory.outputs.Stream.{Stream}
use Rattle.ports.specs.declared.memory.outputs.Stream.TheVariants.{ToOutput, ToLog, ToFault}

-- Returns an event as `event` returns it, with its name resolved.
unfoldable pub event_now : Event (Bor (List ℕ)) → outputs.Event
event_now (Open name) = outputs.Open name.now
event_now (Byte name byte) = outputs.Byte name.now byte
event_now (Close name) = outputs.Close name.now
event_now (Log byte) = outputs.Log byte
event_now (Fault byte) = outputs.Fault byte

-- Returns the name at a span.
abbrev pub name_at : List ℕ → Span → List ℕ
name_at names span = slice_range names span.start span.end

-- Returns an event with its name.
unfoldable pub event_at : List ℕ → Event Span → outputs.Event
event_at names (Open span) = outputs.Open (name_at names span)
event_at names (Byte span byte) = outputs.Byte (name_at names span) byte
event_at names (Close span) = outputs.Close (name_at names span)
event_at names (Log byte) = outputs.Log byte
event_at names (Fault byte) = outputs.Fault byte

-- Returns the name of the open output.
unfoldable pub open_at : List ℕ → Option Span → Option (List ℕ)
open_at names None = None
open_at names (Some span) = Some (name_at names span)

-- Returns the events with their names.
unfoldable pub events_at : List ℕ → List (Event Span) → List outputs.Event
events_at names slots = map (event_at names) slots

-- Returns whether a span lies within a text of this length.
abbrev pub is_span_within : ℕ → Span → Bool
is_span_within len span = nat_le span.start span.end && nat_le span.end len

-- Returns whether the name of an event lies within a text of this length.
unfoldable pub is_within : ℕ → Event Span → Bool
is_within len (Open span) = is_span_within len span
is_within len (Byte span byte) = is_span_within len span
is_within len (Close span) = is_span_within len span
is_within len (Log byte) = true
is_within len (Fault byte) = true

-- Returns whether the name of the open output lies within a text of this length. It is true if no output is open.
unfoldable pub is_open_within : ℕ → Option Span → Bool
is_open_within len None = true
is_open_within len (Some span) = is_span_within len span

-- Returns whether the names of all these events lie within a text of this length.
unfoldable pub are_within : ℕ → List (Event Span) → Bool
are_within len slots = list_all (is_within len) slots

-- Returns the call that takes the bytes of a stream.
abbrev pub call_of : Stream → OutputCall
call_of (ToOutput span) = calls.Put
call_of ToLog = calls.Log
call_of ToFault = calls.Fault

-- Returns the event that records a byte.
abbrev pub slot_of : Stream → ℕ → Event Span
slot_of (ToOutput span) byte = Byte span byte
slot_of ToLog byte = Log byte
slot_of ToFault byte = Fault byte

-- Returns the state of outputs in memory.
abbrev pub state_at : List ℕ → List (Event Span) → Option Span → ℕ → OutputState
state_at names slots current failures = record {
  events = events_at names slots;
  open_name = open_at names current;
  failures = failures;
  tells = true;
}

-- Returns how many more items these have room for.
abbrev pub room_of : {X : Type 0} → Vec X Global → ℕ
room_of items = vec_capacity items - vec_len items

-- Returns whether a vector has no room for another item.
abbrev pub is_full : {X : Type 0} → Vec X Global → Bool
is_full items = nat_le (vec_capacity items) (vec_len items)

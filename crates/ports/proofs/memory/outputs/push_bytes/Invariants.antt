use Rattle.std.proofs.Common.{◌≡◌, ◌++◌, take, map, vec_capacity, vec_len, ◌+◌}
use Rattle.ports.specs.memory.Slots.{slot_of}
use Rattle.ports.proofs.memory.outputs.push_bytes.Given as goal

abbrev pub invariant-loop-byte : goal.invariant-loop-byte
invariant-loop-byte l = record {
  items : l.slots.items ≡ l.initial.slots.items ++ map (slot_of l.stream) (take l.byte-index l.bytes);
  len : vec_len l.slots ≡ vec_len l.initial.slots + l.byte-index;
  capacity : vec_capacity l.slots ≡ vec_capacity l.initial.slots;
}

use Rattle.std.proofs.Common.{◌∙◌, length, Some, sym, ap, arith}
use Rattle.ports.specs.memory.Slots.{is_within, event_at}
use Rattle.ports.proofs.Recorded.{event_read, event_past, read_within}
use Rattle.ports.proofs.memory.outputs.MemOutputs.event.Goals as goal

pub show-requires : goal.show-requires
show-requires c =
    let s = c.args.self.now in
    ap (λ n. is_within (length n) c.index.result.now) c.deref.ensures.value ∙ read_within _ _ _ _ s.slots_within (omega (arith, s.slots.ok.0)) c.index.ensures

pub returns-then-i-len : goal.returns-then-i-len
returns-then-i-len c =
    let s = c.args.self.now in
    ap (λ e. Some e) (c.show.ensures ∙ ap (λ n. event_at n c.index.result.now) c.deref.ensures.value) ∙ sym (event_read _ _ _ _ (omega (arith, s.slots.ok.0)) c.index.ensures)

pub returns-else-i-len : goal.returns-else-i-len
returns-else-i-len c = let s = c.args.self.now in sym (event_past _ _ _ (omega (arith, s.slots.ok.0)))

use Rattle.std.proofs.Common.{length, string_bytes, refl, ap, subst, ◌∙◌}
use Rattle.std.specs.Prelude.{option_map}
use Rattle.support.specs.declared.faults.refusal.Refusal.TheVariants as refusals
use Rattle.ports.specs.Tree.{file_at}
use Rattle.world.specs.Answering.{Refuses}
use Rattle.world.specs.Deed.{required_file}
use Rattle.world.specs.Store.{world_of}
use Rattle.world.specs.World.{fault_here, world_after_look}
use Rattle.world.proofs.Answering.{carries_lost, carries_fail, carries_found, carries_then, need_no, need_yes}
use Rattle.world.proofs.Marks.{front_as}
use Rattle.world.proofs.caller.Caller.require_own_file.Goals as goal

pub returns-in_err-size : goal.returns-in_err-size
returns-in_err-size g c = carries_fail c.in_err-size.ensures.asks.stays c.in_err-size.ensures.asks.failures refl c.from_residual.ensures.1

pub returns-in_err-note_look : goal.returns-in_err-note_look
returns-in_err-note_look g c =
    carries_lost c.from_residual-in_err-note_look.ensures.1 (front_as c.in_err-note_look.ensures.names) c.in_ok-size.ensures.asks.stays c.in_ok-size.ensures.asks.failures

pub returns-then-not-found : goal.returns-then-not-found
unfolding required_file
returns-then-not-found g c =
    let asked = c.in_ok-size.ensures in
    let path = string_bytes c.args.path in
    carries_then
    (carries_found path
    (c.in_ok-note_look.ensures.world ∙ ap (λ p. world_after_look (world_of c.args.self.now.store.now) p c.is_some-found.result) c.deref-then-not-found.ensures)
    c.in_ok-note_look.ensures.names
    (λ h. asked.size h ∙ ap (λ p. option_map length (file_at (g.T.Tree.seen c.args.self.now.tree.now).files p)) c.deref.ensures)
    c.is_some-found.ensures asked.asks.stays asked.asks.failures)
    (need_no c.is_some-found.result refusals.FileMissing path c.if-not-found.true
    (subst (λ p. Refuses (fault_here (world_of c.note_look.new.self) refusals.FileMissing p) c.refuse.result) c.deref-then-not-found-2.ensures c.refuse.ensures))

pub returns-in_err-note_own_look : goal.returns-in_err-note_own_look
returns-in_err-note_own_look g c =
    carries_lost c.from_residual-in_err-note_own_look.ensures.1 (front_as c.in_err-note_own_look.ensures.names) c.in_ok-size.ensures.asks.stays c.in_ok-size.ensures.asks.failures

pub returns : goal.returns
unfolding required_file
returns g c =
    let asked = c.in_ok-size.ensures in
    let path = string_bytes c.args.path in
    carries_then
    (carries_found path c.in_ok-note_own_look.ensures.world c.in_ok-note_own_look.ensures.names
    (λ h. asked.size h ∙ ap (λ p. option_map length (file_at (g.T.Tree.seen c.args.self.now.tree.now).files p)) c.deref.ensures)
    c.is_some-found.ensures asked.asks.stays asked.asks.failures)
    (need_yes c.is_some-found.result refusals.FileMissing path c.if-not-found.false)

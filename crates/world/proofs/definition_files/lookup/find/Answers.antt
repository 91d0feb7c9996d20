use Rattle.std.proofs.Common.{option_map, length, refl, sym, ap, ◌∙◌}
use Rattle.ports.specs.Tree.{file_at}
use Rattle.world.specs.Gives.{failures_after}
use Rattle.world.specs.Store.{world_of}
use Rattle.world.specs.World.{world_after_look}
use Rattle.world.proofs.Answering.{carries_lost, carries_fail}
use Rattle.world.proofs.Holding.{holds_later, stays_on}
use Rattle.world.proofs.Marks.{front_as}
use Rattle.world.proofs.Looked.{carries_content, carries_found, found_nothing, found_there, ok_as}
use Rattle.world.proofs.definition_files.lookup.find.Goals as goal

pub returns-in_err-size : goal.returns-in_err-size
returns-in_err-size g c = carries_fail c.in_err-size.ensures.asks.stays c.in_err-size.ensures.asks.failures refl c.from_residual.ensures.1

pub returns-in_err-note_look : goal.returns-in_err-note_look
returns-in_err-note_look g c =
    carries_lost c.from_residual-in_err-note_look.ensures.1 (front_as c.in_err-note_look.ensures.names) c.in_ok-size.ensures.asks.stays c.in_ok-size.ensures.asks.failures

pub returns-in-None : goal.returns-in-None
returns-in-None g c =
    let asked = c.in_ok-size.ensures in
    let path = c.args.path.now in
    carries_found path c.in_ok-size.size _ (c.in_ok-note_look.ensures.world ∙ ap (world_after_look (world_of c.args.caller.now.store.now) path) c.is_some.ensures) c.in_ok-note_look.ensures.names asked.size
    (λ files h. found_nothing (file_at files path) (sym c.in-None.is ∙ asked.size h.steady ∙ ap (λ fs. option_map length (file_at fs path)) h.files))
    asked.asks.stays asked.asks.failures

pub returns-in-Some : goal.returns-in-Some
returns-in-Some g c =
    let asked = c.in_ok-size.ensures in
    let read = c.content.ensures in
    let path = c.args.path.now in
    carries_content path c.in_ok-size.size c.content.result (c.in_ok-note_look.ensures.world ∙ ap (world_after_look (world_of c.args.caller.now.store.now) path) c.is_some.ensures) c.in_ok-note_look.ensures.names asked.size
    (λ files h.
    let there = found_there (file_at files path) c.in-Some.size (sym c.in-Some.is ∙ asked.size h.steady ∙ ap (λ fs. option_map length (file_at fs path)) h.files) in
    ok_as c.content.result _ _ there.1 (read.found files (holds_later asked.asks.stays h) there.0))
    read.no_fault (stays_on asked.asks.stays read.stays) (read.failures ∙ ap (λ n. failures_after n c.content.result) asked.asks.failures)

use Rattle.std.proofs.Common.{◌≡◌, length, option_map, is_some, ap, refl, sym, ◌∙◌}
use Rattle.ports.specs.Tree.{file_at}
use Rattle.support.specs.declared.faults.refusal.Refusal.TheVariants as refusals
use Rattle.world.specs.Costs.{definition_file}
use Rattle.world.specs.Deed.{refuse}
use Rattle.world.specs.Plan.{deed}
use Rattle.world.specs.Store.{world_of}
use Rattle.world.specs.World.{world_after_look}
use Rattle.world.specs.declared.stop.Stop.TheVariants as stops
use Rattle.world.proofs.Holding.{holds_later}
use Rattle.expressions.specs.Folders.{opened_by}
use Rattle.expressions.proofs.Evaluating.{given_as, given_none}
use Rattle.expressions.proofs.Opening.{found_length, given_ask, given_here, given_short, none_length, some_length}
use Rattle.expressions.proofs.context.Context.open.Goals as goal

pub returns-in_err-file-clause-gives : goal.returns-in_err-file-clause-gives
returns-in_err-file-clause-gives g c = λ files h. given_none h c.from_residual.ensures.1

pub returns-in_err-size-clause-gives : goal.returns-in_err-size-clause-gives
returns-in_err-size-clause-gives g c = λ files h.
    given_short stops.Device (holds_later c.in_err-size.ensures.asks.stays h) tt c.from_residual-in_err-size.ensures.1 refl

pub returns-in_err-note_look-clause-gives : goal.returns-in_err-note_look-clause-gives
returns-in_err-note_look-clause-gives g c = λ files h.
    given_short stops.Memory (holds_later c.in_ok-size.ensures.asks.stays h) tt c.from_residual-in_err-note_look.ensures.1 c.in_err-note_look.ensures.names

pub returns-in-Some-clause-gives : goal.returns-in-Some-clause-gives
returns-in-Some-clause-gives g c = λ files h.
    let path = definition_file c.args.folder.now in
    let before = world_of c.args.self.now.store.now in
    let sized : c.in_ok-size.size ≡ option_map length (file_at files path) =
    c.in_ok-size.ensures.size h.steady ∙ ap (λ fs. option_map length (file_at fs c.deref.result.now)) h.files ∙ ap (λ p. option_map length (file_at files p)) (c.deref.ensures ∙ c.in_ok-file.ensures) in
    let looked : world_of c.note_look.new.self ≡ world_after_look before path (is_some (file_at files path)) =
    c.in_ok-note_look.ensures.world ∙ ap (λ p. world_after_look before p c.is_some.result) (c.deref-2.ensures ∙ c.in_ok-file.ensures)
    ∙ ap (world_after_look before path) (c.is_some.ensures ∙ found_length (file_at files path) c.in_ok-size.size sized) in
    let there = some_length (file_at files path) c.in-Some.size (sym c.in-Some.is ∙ sized) in
    given_ask looked c.in_ok-note_look.ensures.names
    (given_as (ap (opened_by c.args.folder.now) (sym there.1)) (c.enter_folder.ensures.gives files there.0 (holds_later c.in_ok-size.ensures.asks.stays h) there.1 there.2))

pub returns-in-None-clause-gives : goal.returns-in-None-clause-gives
returns-in-None-clause-gives g c = λ files h.
    let path = definition_file c.args.folder.now in
    let before = world_of c.args.self.now.store.now in
    let sized : c.in_ok-size.size ≡ option_map length (file_at files path) =
    c.in_ok-size.ensures.size h.steady ∙ ap (λ fs. option_map length (file_at fs c.deref.result.now)) h.files ∙ ap (λ p. option_map length (file_at files p)) (c.deref.ensures ∙ c.in_ok-file.ensures) in
    let looked : world_of c.note_look.new.self ≡ world_after_look before path (is_some (file_at files path)) =
    c.in_ok-note_look.ensures.world ∙ ap (λ p. world_after_look before p c.is_some.result) (c.deref-2.ensures ∙ c.in_ok-file.ensures)
    ∙ ap (world_after_look before path) (c.is_some.ensures ∙ found_length (file_at files path) c.in_ok-size.size sized) in
    given_ask looked c.in_ok-note_look.ensures.names
    (given_as (ap (opened_by c.args.folder.now) (sym (none_length (file_at files path) (sym c.in-None.is ∙ sized))))
    (given_as (ap (λ p. deed (refuse refusals.FileMissing p)) (c.deref-in-None.ensures ∙ c.in_ok-file.ensures))
    (given_here (holds_later c.in_ok-size.ensures.asks.stays h) c.line-line.ensures c.refuse.ensures)))

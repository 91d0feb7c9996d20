use Rattle.std.proofs.Common.{[], get_or, sym, ◌∙◌}
use Rattle.meson.specs.Questions.{is_told}
use Rattle.meson.proofs.Held.{held_at, knows_added, new_by}
use Rattle.meson.proofs.labels.Labels.add.Goals as goal

pub returns-clause-new : goal.returns-clause-new
returns-clause-new c = λ told k.
    let mid = c.number_of.new.self in
    let h = c.args.head.now in
    let b = c.args.beside.now in
    let n = c.in_ok-number.number in
    let at = held_at mid.besides mid.heads.items n h b c.in_ok-number.ensures.fits c.in_ok-number.ensures.within c.in_ok-number.ensures.apart c.in_ok-number.ensures.at in
    new_by h (get_or mid.heads.items n []) (is_told (h, b) told) c.add_head.result (sym at ∙ c.in_ok-number.ensures.same (h, b) ∙ k.same (h, b)) c.add_head.ensures.new

pub returns-clause-knows : goal.returns-clause-knows
returns-clause-knows c = λ told k.
    let mid = c.number_of.new.self in
    let h = c.args.head.now in
    let b = c.args.beside.now in
    let n = c.in_ok-number.number in
    let at = held_at mid.besides mid.heads.items n h b c.in_ok-number.ensures.fits c.in_ok-number.ensures.within c.in_ok-number.ensures.apart c.in_ok-number.ensures.at in
    knows_added c.add_head.new.self mid n h b told c.add_head.result (λ l. c.in_ok-number.ensures.same l ∙ k.same l)
    c.in_ok-number.ensures.fits c.in_ok-number.ensures.within c.in_ok-number.ensures.at c.add_head.ensures.besides c.add_head.ensures.heads
    (new_by h (get_or mid.heads.items n []) (is_told (h, b) told) c.add_head.result (sym at ∙ c.in_ok-number.ensures.same (h, b) ∙ k.same (h, b)) c.add_head.ensures.new)

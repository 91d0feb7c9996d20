use Rattle.std.proofs.Common.{◌≡◌, ◌<◌, [], ◌∷◌, ◌++◌, length, ap, ap₂, ◌∙◌, arith}
use Rattle.meson.specs.Labels.{held_in}
use Rattle.meson.proofs.Held.{grown, held_push, name_is}
use Rattle.meson.proofs.labels.Labels.number_of.Goals as goal

pub returns-in_ok-push-clause-at : goal.returns-in_ok-push-clause-at
returns-in_ok-push-clause-at c = name_is c.args.beside.now c.put.new.self c.in_ok-number.number c.in_ok-number.ensures.number

pub returns-in_ok-push-clause-same : goal.returns-in_ok-push-clause-same
returns-in_ok-push-clause-same c = λ l.
    let old = c.args.self.now in
    let more : length old.besides < length c.put.new.self = omega (arith, c.if-count-len.true, c.len-count.ensures.len, c.len.ensures.len) in
    let items : c.push.new.self.items ≡ old.heads.items ++ [] ∷ [] = c.in_ok-push.ensures.items ∙ ap (λ x. old.heads.items ++ x ∷ []) c.new.ensures in
    ap₂ (λ bs hss. held_in bs hss l) (grown c.args.beside.now old.besides c.put.new.self c.in_ok-number.ensures.names more) items
    ∙ held_push old.besides old.heads.items c.args.beside.now l c.requires

pub returns-else-count-len-clause-at : goal.returns-else-count-len-clause-at
returns-else-count-len-clause-at c = name_is c.args.beside.now c.put.new.self c.in_ok-number.number c.in_ok-number.ensures.number

use Rattle.std.proofs.Common.{arith, length, ◌≡◌, ◌∷◌, [], sym, ap, subst, ◌∙◌, option_map, string_bytes}
use Rattle.std.proofs.lemmas.Grind.{common_steps}
use Rattle.template.specs.ConfigData.{content_of, entries_of}
use Rattle.template.specs.Undo.{AreSet, changes_of}
use Rattle.template.proofs.Undoing.{none_left, set_last, changes_of-more}
use Rattle.template.proofs.config.undo.Goals as goal

pub loop-name-preserved : goal.loop-name-preserved
loop-name-preserved c = λ old set.
    let rest = c.pop.new.self.items in
    let now = entries_of c.loop-name.entries.entries in
    let one = (c.in-Some.name, c.in-Some.before) ∷ [] in
    let items = ap changes_of c.in-Some.ensures.items ∙ changes_of-more rest one in
    let last = set_last (changes_of rest) (string_bytes c.in-Some.name) (option_map content_of c.in-Some.before) old now
    (subst (λ changes. AreSet changes old now) items (c.loop-name.invariant old set)) in
    subst (λ n. AreSet (changes_of rest) old n) (sym (c.restore.ensures last.mid last.last)) last.earlier

pub returns : goal.returns
returns c = λ old set.
    let none : length c.loop-name.changes.items ≡ 0 = grind (arith, common_steps, c.in_default.ensures.cases.0, c.loop-name.changes.ok) in
    none_left c.loop-name.changes.items none (c.loop-name.invariant old set)

use Rattle.std.proofs.Common.{◌≡◌, ◌∷◌, ◌++◌, [], sym, ap, subst, ◌∙◌, refl, rules, option_map, string_bytes, arith}
use Rattle.std.proofs.lemmas.Grind.{common_steps}
use Rattle.template.specs.ConfigData.{content_of, entries_of}
use Rattle.template.specs.Config.{entries_with_others}
use Rattle.template.specs.Undo.{AreSet, IsSet, changes_of}
use Rattle.template.proofs.Settings.{merged-more, names_ascend}
use Rattle.template.proofs.Undoing.{set_more, changes_of-more}
use Rattle.template.proofs.config.merge.Goals as goal

pub loop-name-init : goal.loop-name-init
loop-name-init c =
    let all : c.into_iter-name-iterator.result ≡ c.args.others.now.entries = search rules in
    let start = entries_of c.args.entries.now.entries in
    record {
      merged = ap (λ o. entries_with_others start (entries_of o)) all;
      changes = subst (λ items. AreSet (changes_of items) start start) (sym c.requires) refl;
    }

pub loop-name-preserved : goal.loop-name-preserved
loop-name-preserved c =
    let start = entries_of c.args.entries.now.entries in
    let before = entries_of c.loop-name.entries.entries in
    let after = entries_of c.put.new.entries.entries in
    let was = option_map content_of c.in_ok-before.before in
    let noted = string_bytes c.in_ok-noted.noted in
    let set = subst (λ n. IsSet n was before after) (c.in_ok-key.ensures.cases ∙ sym c.in_ok-noted.ensures.cases) c.in_ok-before.ensures.set in
    let one = (c.in_ok-noted.noted, c.in_ok-before.before) ∷ [] in
    let items = c.push_reserved.ensures.items ∙ ap (λ items. items ++ one) c.in_ok-reserve.ensures.items in
    record {
      merged =
          merged-more c.loop-name.entries.entries c.put.new.entries.entries c.loop-name.name-iterator c.next.new.self c.in-Some.name.now c.in_ok-key.key
          c.in-Some.value.now c.in_ok-value.value c.in-Some.ensures.steps c.in_ok-key.ensures.cases c.in_ok-value.ensures.cases c.in_ok-before.ensures.ok
          ∙ c.loop-name.invariant.merged;
      changes =
          subst (λ changes. AreSet changes start after) (sym (ap changes_of items ∙ changes_of-more c.loop-name.changes.items one))
          (set_more (changes_of c.loop-name.changes.items) noted was start before after c.loop-name.invariant.changes set);
    }

pub returns-clause-ascending : goal.returns-clause-ascending
returns-clause-ascending c = names_ascend c.args.others.now.entries c.into_iter-name-iterator.ensures.into_iter_gives.5

pub returns-clause-changes : goal.returns-clause-changes
returns-clause-changes c = grind (arith, common_steps)

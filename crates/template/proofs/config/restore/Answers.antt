use Rattle.std.proofs.Common.{ap, None, ◌∙◌, string_bytes, option_map, subst}
use Rattle.template.specs.ConfigData.{content_of, entries_of}
use Rattle.template.specs.Undo.{IsSet}
use Rattle.template.proofs.Undoing.{restored, back_none, entries_of-removed}
use Rattle.std.specs.BTreeMap.{is_at}
use Rattle.std.specs.Map.{remove_entry}
use Rattle.std.specs.Cmp.Lexicographic.{slice_cmp}
use Rattle.std.specs.Ordering.{nat_cmp}
use Rattle.template.proofs.config.restore.Goals as goal

pub returns-in-Some : goal.returns-in-Some
returns-in-Some c = λ old set.
    let name = string_bytes c.args.name in
    let mid = entries_of c.args.entries.now.entries in
    restored name c.in-Some.value c.put.result c.put.ensures.ok c.put.ensures.absent
    (subst (λ b. IsSet name (option_map content_of b) old mid) c.in-Some.is set)

pub returns-in-None : goal.returns-in-None
returns-in-None c = λ old set.
    let name = string_bytes c.args.name in
    let es = c.args.entries.now.entries in
    let gone : IsSet name None old (entries_of es) = subst (λ b. IsSet name (option_map content_of b) old (entries_of es)) c.in-None.is set in
    ap entries_of (rw c.as_str.ensures.value at c.remove.ensures.entries) ∙ entries_of-removed name es
    ∙ ap (remove_entry (is_at (λ k. slice_cmp nat_cmp name k))) gone.is ∙ back_none old name gone.content gone.was

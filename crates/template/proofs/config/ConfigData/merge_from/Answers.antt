use Rattle.std.proofs.Common.{sym, ap, ◌∙◌, subst}
use Rattle.std.specs.List.Sorted.{IsStrictlySortedBy}
use Rattle.std.specs.Cmp.Lexicographic.{slice_cmp}
use Rattle.std.specs.Ordering.{nat_cmp}
use Rattle.template.specs.Config.{entries_with_others, names, value_of}
use Rattle.template.specs.ConfigData.{entries_of}
use Rattle.template.proofs.Settings.{value_of-merged}
use Rattle.template.proofs.Undoing.{of_ok}
use Rattle.template.proofs.config.ConfigData.merge_from.Goals as goal

pub returns-clause-found : goal.returns-clause-found
returns-clause-found c = λ q.
    let self_is = ap (λ v. v.entries) c.self.view_is in
    let other_is = ap (λ v. v.entries) c.other.view_is in
    let no_err = sym c.is_err.ensures.value ∙ c.if-is_err.false in
    let all = of_ok c.merge.result no_err c.merge.ensures.entries in
    let ascending = of_ok c.merge.result no_err c.merge.ensures.ascending in
    ap (λ n. value_of n q) (all
    ∙ ap (λ n. entries_with_others n (entries_of c.other.inside.entries.entries)) self_is ∙ ap (λ n. entries_with_others c.args.self.now.entries n) other_is)
    ∙ value_of-merged c.args.self.now.entries c.args.other.now.entries (subst (λ n. IsStrictlySortedBy (slice_cmp nat_cmp) (names n)) other_is ascending) q

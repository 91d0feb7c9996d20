use Rattle.std.proofs.Common.{ap, subst, arith}
use Rattle.std.specs.List.Sorted.{IsStrictlySortedBy}
use Rattle.std.specs.Cmp.Lexicographic.{slice_cmp}
use Rattle.std.specs.Ordering.{nat_cmp}
use Rattle.std.proofs.lemmas.Grind.{common_steps}
use Rattle.template.specs.Config.{names}
use Rattle.template.proofs.Settings.{names_ascend}
use Rattle.template.proofs.config.ConfigData.keys.Goals as goal

pub returns-in_err-keys-clause-ascending : goal.returns-in_err-keys-clause-ascending
returns-in_err-keys-clause-ascending c = subst (λ n. IsStrictlySortedBy (slice_cmp nat_cmp) (names n)) (ap (λ v. v.entries) c.self.view_is) (names_ascend _ c.len.ensures.ordered)

pub returns-in_err-push-clause-ascending : goal.returns-in_err-push-clause-ascending
returns-in_err-push-clause-ascending c = subst (λ n. IsStrictlySortedBy (slice_cmp nat_cmp) (names n)) (ap (λ v. v.entries) c.self.view_is) (names_ascend _ c.len.ensures.ordered)

pub returns-clause-ascending : goal.returns-clause-ascending
returns-clause-ascending c = subst (λ n. IsStrictlySortedBy (slice_cmp nat_cmp) (names n)) (ap (λ v. v.entries) c.self.view_is) (names_ascend _ c.len.ensures.ordered)

pub loop-name-init : goal.loop-name-init
loop-name-init c = grind (arith, common_steps)

pub loop-name-preserved : goal.loop-name-preserved
loop-name-preserved c = grind (arith, common_steps)

pub returns-clause-names : goal.returns-clause-names
returns-clause-names c = grind (arith, common_steps)

use Rattle.std.proofs.Common.{[], ap, ◌∙◌, sym, refl}
use Rattle.std.specs.Prelude.{bytes_eq, nat_lt, not}
use Rattle.std.specs.List.{list_any}
use Rattle.std.proofs.lemmas.Bool.{lt-ltb, le-ltb}
use Rattle.arguments.specs.Rules.{breach_message}
use Rattle.arguments.specs.declared.rule.Rule.TheVariants as rules
use Rattle.support.specs.declared.faults.refusal.Refusal.TheVariants as refusals
use Rattle.expressions.proofs.Evaluating.{given_give}
use Rattle.expressions.proofs.Opening.{given_lack, given_need}
use Rattle.expressions.proofs.context.Context.not_entered.Goals as goal

pub returns-then-is_entered-clause-gives : goal.returns-then-is_entered-clause-gives
returns-then-is_entered-clause-gives g c = λ files h.
    given_lack _ refusals.Subdir (breach_message rules.IsNew c.args.text.now) (ap not (ap (λ f. list_any (bytes_eq f) c.args.self.now.store.now.entered) (sym c.deref.ensures) ∙ sym c.is_entered.ensures ∙ c.if-is_entered.true)) h
    refl c.refuse_folder.ensures

pub returns-then-folders_entered-lt-FOLDERS-clause-gives : goal.returns-then-folders_entered-lt-FOLDERS-clause-gives
returns-then-folders_entered-lt-FOLDERS-clause-gives g c = λ files h.
    given_need _ refusals.Subdir (breach_message rules.IsNew c.args.text.now) (ap not (ap (λ f. list_any (bytes_eq f) c.args.self.now.store.now.entered) (sym c.deref.ensures) ∙ sym c.is_entered.ensures ∙ c.if-is_entered.false))
    (given_need _ refusals.Limit [] (ap (λ n. nat_lt n 4096) (sym c.folders_entered.ensures) ∙ lt-ltb c.folders_entered.result 4096 c.if-folders_entered-lt-FOLDERS.true) (given_give h refl))

pub returns-then-folders_entered-lt-FOLDERS-clause-new : goal.returns-then-folders_entered-lt-FOLDERS-clause-new
returns-then-folders_entered-lt-FOLDERS-clause-new g c =
    ap (λ f. list_any (bytes_eq f) c.args.self.now.store.now.entered) (sym c.deref.ensures) ∙ sym c.is_entered.ensures ∙ c.if-is_entered.false

pub returns-else-folders_entered-lt-FOLDERS-clause-gives : goal.returns-else-folders_entered-lt-FOLDERS-clause-gives
returns-else-folders_entered-lt-FOLDERS-clause-gives g c = λ files h.
    given_need _ refusals.Subdir (breach_message rules.IsNew c.args.text.now) (ap not (ap (λ f. list_any (bytes_eq f) c.args.self.now.store.now.entered) (sym c.deref.ensures) ∙ sym c.is_entered.ensures ∙ c.if-is_entered.false))
    (given_lack _ refusals.Limit [] (ap (λ n. nat_lt n 4096) (sym c.folders_entered.ensures) ∙ le-ltb c.folders_entered.result 4096 c.if-folders_entered-lt-FOLDERS.false) h
    c.line.ensures c.refuse.ensures)

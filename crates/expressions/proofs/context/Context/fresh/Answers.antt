use Rattle.std.proofs.Common.{ap, option_map, string_bytes, refl, sym, ◌∙◌}
use Rattle.support.specs.paths.Paths.{folder_below}
use Rattle.expressions.specs.Folders.{fresh_by}
use Rattle.expressions.proofs.Evaluating.{given_as, given_none, given_read}
use Rattle.expressions.proofs.Opening.{given_entered, given_here}
use Rattle.expressions.proofs.context.Context.fresh.Goals as goal

pub returns-in_err-folder-clause-gives : goal.returns-in_err-folder-clause-gives
returns-in_err-folder-clause-gives g c = λ files h. given_none h c.from_residual.ensures.1

pub returns-in-Some-clause-gives : goal.returns-in-Some-clause-gives
returns-in-Some-clause-gives g c = λ files h.
    given_read (given_entered (given_as (ap (λ o. fresh_by c.args.text.now o c.args.self.now.store.now.entered) (sym (ap (option_map string_bytes) c.in-Some.is) ∙ c.in_ok-folder.ensures
    ∙ ap (λ here. folder_below here c.args.text.now) c.folder.ensures))
    (c.not_entered.ensures.gives files h)))

pub returns-in-None-clause-gives : goal.returns-in-None-clause-gives
returns-in-None-clause-gives g c = λ files h.
    given_read (given_entered (given_as (ap (λ o. fresh_by c.args.text.now o c.args.self.now.store.now.entered) (sym (ap (option_map string_bytes) c.in-None.is) ∙ c.in_ok-folder.ensures
    ∙ ap (λ here. folder_below here c.args.text.now) c.folder.ensures))
    (given_here h refl c.refuse_folder.ensures)))

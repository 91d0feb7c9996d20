use Rattle.std.proofs.Common.{◌<◌, ◌++◌, ◌∷◌, [], ℕ, List, Bor, Option, Err, length, rules, sym, ◌∙◌, ap, subst}
use Rattle.std.specs.Prelude.{IfSome}
use Rattle.std.proofs.lemmas.List.{append-nil}
use Rattle.values.specs.texts.Pieces.{parts}
use Rattle.values.specs.texts.Cut.{pieces_of_rest}
use Rattle.values.specs.texts.Joined.{joined_texts}
use Rattle.values.proofs.JoinedLemmas.{joined_more, too_long, short_enough, grown, replaced_is}
use Rattle.values.proofs.texts.join_texts.replace.Goals as goal

pub loop-after-init : goal.loop-after-init
loop-after-init c = (
  c.utf8.text,
  ap (λ made. made ++ joined_texts c.args.new.now (parts c.args.old.now c.args.text.now))
      (sym c.empty-made.ensures),
)

pub returns-in-Err : goal.returns-in-Err
returns-in-Err c =
    let refused = rw c.in-Err.is at c.in_ok-refusal.ensures.pushed in
    ap (λ e. Err e) refused.0
    ∙ too_long _ c.loop-after.made c.first_part.result.0.now []
    (c.loop-after.invariant.1 ∙ ap (λ ps. c.loop-after.made ++ joined_texts c.args.new.now ps) (c.first_part.ensures.first
    ∙ ap (λ o. c.first_part.result.0.now ∷ pieces_of_rest (parts c.args.old.now) o) c.in_default.is))
    refused.1
    ∙ sym (replaced_is c.args.text.now c.args.old.now c.args.new.now (sym c.is_empty.ensures ∙ c.if-is_empty.false))

pub returns-in_default : goal.returns-in_default
returns-in_default c =
    let appended = rw c.in_default-2.is at c.in_ok-refusal.ensures.pushed in
    short_enough _ c.push.new.self
    (grown _ c.loop-after.made c.first_part.result.0.now [] c.push.new.self
    (c.loop-after.invariant.1 ∙ ap (λ ps. c.loop-after.made ++ joined_texts c.args.new.now ps) (c.first_part.ensures.first
    ∙ ap (λ o. c.first_part.result.0.now ∷ pieces_of_rest (parts c.args.old.now) o) c.in_default.is))
    appended.0 ∙ append-nil c.push.new.self)
    appended.1
    ∙ sym (replaced_is c.args.text.now c.args.old.now c.args.new.now (sym c.is_empty.ensures ∙ c.if-is_empty.false))

pub returns-in-Err-2 : goal.returns-in-Err-2
returns-in-Err-2 c =
    let refused = rw c.in-Err-2.is at c.in_ok-refusal-2.ensures in
    ap (λ e. Err e) refused.0
    ∙ too_long _ c.loop-after.made (c.first_part.result.0.now ++ c.args.new.now)
    (joined_texts c.args.new.now (parts c.args.old.now c.in-Some.after.now))
    (c.loop-after.invariant.1 ∙ ap (λ ps. c.loop-after.made ++ joined_texts c.args.new.now ps) (c.first_part.ensures.first
    ∙ ap (λ o. c.first_part.result.0.now ∷ pieces_of_rest (parts c.args.old.now) o) c.in-Some.is)
    ∙ ap (λ more. c.loop-after.made ++ more)
    (joined_more c.args.new.now c.first_part.result.0.now c.args.old.now c.in-Some.after.now))
    refused.1
    ∙ sym (replaced_is c.args.text.now c.args.old.now c.args.new.now (sym c.is_empty.ensures ∙ c.if-is_empty.false))

pub loop-after-smaller : goal.loop-after-smaller
loop-after-smaller c =
    let P : Option (Bor (List ℕ)) → Type 0 = λ o. IfSome o (λ r. length r.now < length c.loop-after.rest.now) in
    subst P c.in-Some.is c.first_part.ensures.shorter

pub loop-after-preserved : goal.loop-after-preserved
loop-after-preserved c =
    let appended = rw c.in_default-3.is at c.in_ok-refusal-2.ensures in (
      search rules,
      grown _ c.loop-after.made (c.first_part.result.0.now ++ c.args.new.now)
          (joined_texts c.args.new.now (parts c.args.old.now c.in-Some.after.now)) c.push_both.new.made
          (c.loop-after.invariant.1 ∙ ap (λ ps. c.loop-after.made ++ joined_texts c.args.new.now ps) (c.first_part.ensures.first
          ∙ ap (λ o. c.first_part.result.0.now ∷ pieces_of_rest (parts c.args.old.now) o) c.in-Some.is)
          ∙ ap (λ more. c.loop-after.made ++ more)
          (joined_more c.args.new.now c.first_part.result.0.now c.args.old.now c.in-Some.after.now))
          appended.0,
    )

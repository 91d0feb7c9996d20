use Rattle.std.proofs.Common.{◌∙◌, get_or, refl, sym, arith, add-one, ap, subst, take}
use Rattle.std.proofs.Math.Seq.{take-suc}
use Rattle.std.proofs.lemmas.List.{take_all}
use Rattle.build.specs.Marks.{AreMarks}
use Rattle.build.proofs.Marking.{marks_more}
use Rattle.build.proofs.walk.mark_kept.Goals as goal

pub loop-place-init : goal.loop-place-init
loop-place-init c = λ k lt. c.in_ok-resize.ensures.by_index.1 k _ refl (omega (arith, c.clear.ensures.len)) (omega (arith, lt, c.in_ok-resize.ensures.len))

pub was_kept-known-requires : goal.was_kept-known-requires
was_kept-known-requires c = c.loop-place.invariant

pub loop-place-preserved : goal.loop-place-preserved
loop-place-preserved c =
    let kept = c.args.kept.now in
    let place = c.loop-place.place in
    subst (AreMarks c.was_kept-known.new.marks.items)
    (sym (ap (λ n. take n kept) (add-one place) ∙ take-suc kept place 0 c.loop-place-test.true))
    (marks_more c.was_kept-known.new.marks.items (take place kept) (get_or kept place 0) c.was_kept-known.ensures.marks)

pub returns : goal.returns
returns c = subst (AreMarks c.loop-place.marks.items) (take_all c.loop-place.place c.args.kept.now (omega (arith, c.loop-place-test.false))) c.loop-place.invariant

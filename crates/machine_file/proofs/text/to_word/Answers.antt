use Rattle.std.proofs.Common.{◌∙◌, sym, arith, ◌≡◌, ◌-◌, true, false, get_or}
use Rattle.machine_file.specs.Texts.{is_blank}
use Rattle.machine_file.proofs.Trimming.{to_less, to_same, to_start, end_before}
use Rattle.machine_file.proofs.text.to_word.Goals as goal
use Rattle.machine_file.proofs.text.to_word.Goals.{then-loop-end-test+else-is_blank, else-loop-end-test}

pub loop-end-preserved : goal.loop-end-preserved
loop-end-preserved c =
    let blank : is_blank c.args.blanks (get_or c.args.text.now (c.loop-end.end - 1) 0) ≡ true = cc in
    record {
      within = omega arith;
      same = to_less c.args.blanks c.args.text.now c.loop-end.end (omega arith) (omega arith) blank ∙ c.loop-end.invariant.same;
      cut = end_before c.args.blanks c.args.text.now c.loop-end.end (omega arith) (omega arith) blank;
    }

pub returns : goal.returns
returns c = c.split_at.ensures.front ∙ elim c.loop-end-test.branch [
  | then-loop-end-test+else-is_blank w ↦
      let other : is_blank c.args.blanks (get_or c.args.text.now (c.loop-end.end - 1) 0) ≡ false = cc in
      sym (to_same c.args.blanks c.args.text.now c.loop-end.end (omega arith) (omega arith) other) ∙ c.loop-end.invariant.same
  | else-loop-end-test w ↦ sym (to_start c.args.blanks c.args.text.now c.loop-end.end (omega arith)) ∙ c.loop-end.invariant.same
]

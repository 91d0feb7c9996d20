use Rattle.std.proofs.Common.{◌∙◌, refl, arith, ◌≡◌, true, get_or}
use Rattle.std.proofs.lemmas.Str.{IsCharBoundary-start}
use Rattle.machine_file.specs.Texts.{is_blank}
use Rattle.machine_file.proofs.Trimming.{from_blank, start_after}
use Rattle.machine_file.proofs.text.from_word.Goals as goal

pub loop-start-init : goal.loop-start-init
loop-start-init c = record { same = refl; cut = IsCharBoundary-start c.args.text.now c.utf8.text }

pub loop-start-preserved : goal.loop-start-preserved
loop-start-preserved c =
    let blank : is_blank c.args.blanks (get_or c.args.text.now c.loop-start.start 0) ≡ true = cc in
    record {
      same = from_blank c.args.blanks c.args.text.now c.loop-start.start (omega arith) blank ∙ c.loop-start.invariant.same;
      cut = start_after c.args.blanks c.args.text.now c.loop-start.start c.utf8.text (omega arith) blank;
    }

use Rattle.std.proofs.Common.{◌≡◌, map, ◌++◌, arith}
use Rattle.std.proofs.lemmas.Grind.{common_steps}
use Rattle.std.proofs.lemmas.Result.{IfOk-weaker}
use Rattle.values.specs.texts.Segments.{segments, segment_data, text_segments}
use Rattle.values.proofs.SegmentLemmas.{all_found}
use Rattle.values.proofs.texts.placeholders.push_segments.Goals as goal

pub returns : goal.returns
returns c =
    let found = map segment_data c.loop-before.found.items in
    let after = map segment_data c.push_text-2.new.found.items in
    let whole = map segment_data c.args.found.now.items ++ segments c.args.places c.args.text.now in
    IfOk-weaker c.push_text-2.result (λ u. after ≡ found ++ text_segments c.loop-before.rest.now) (λ u. after ≡ whole)
    (λ u is. all_found found after whole (segments c.args.places c.loop-before.rest.now) c.loop-before.rest.now
    c.loop-before.invariant.1 c.in_default.ensures.first is)
    c.push_text-2.ensures

pub loop-before-preserved : goal.loop-before-preserved
loop-before-preserved c = grind (arith, common_steps)

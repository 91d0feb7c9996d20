use Rattle.std.proofs.Common.{map, ◌++◌, ◌∙◌, ap}
use Rattle.std.specs.List.{flat_map}
use Rattle.values.specs.texts.Segments.{segments, segment_data, text_of_segment}
use Rattle.values.proofs.SegmentLemmas.{segments_spell}
use Rattle.values.proofs.texts.placeholders.segments.Goals as goal

pub returns-clause-segments : goal.returns-clause-segments
returns-clause-segments c =
    c.in_ok-push_segments.ensures
    ∙ ap (λ items. map segment_data items ++ segments c.args.places c.args.text.now) c.new-found.ensures.items

pub returns-clause-spelled : goal.returns-clause-spelled
returns-clause-spelled c = ap (flat_map text_of_segment) (returns-clause-segments c) ∙ segments_spell c.args.places c.args.text.now

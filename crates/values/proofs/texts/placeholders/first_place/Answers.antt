use Rattle.std.proofs.Common.{◌≡◌, ◌+◌, ◌<◌, ◌++◌, ◌∷◌, ℕ, List, length, drop, sym, ◌∙◌, ap, subst, arith}
use Rattle.std.specs.Str.{IsUtf8}
use Rattle.std.proofs.lemmas.Grind.{common_steps}
use Rattle.values.specs.texts.Segments.{place, place_length, segments, text_segments}
use Rattle.values.proofs.SegmentLemmas.{no_places, first_segments, boundary_in_place}
use Rattle.values.proofs.texts.placeholders.first_place.Goals as goal

pub returns-then-count-eq0-clause-first : goal.returns-then-count-eq0-clause-first
returns-then-count-eq0-clause-first c =
    let kind = c.args.places in
    let text = c.args.text.now in
    let at = c.bytes_before_place.result in
    let none : place_length kind (drop at text) ≡ 0 =
    sym (c.place_length-count.ensures ∙ ap (place_length kind) (c.as_bytes-2.ensures.value ∙ c.split_at.ensures.back)) ∙ c.if-count-eq0.true in
    let P : List ℕ → Type 0 = λ xs. at < length xs → 0 < place_length kind (drop at xs) in
    no_places kind text at (omega (arith, ap length c.as_bytes.ensures.value, c.bytes_before_place.ensures.within))
    (λ k below. ap (λ xs. place_length kind (drop k xs)) (sym c.as_bytes.ensures.value) ∙ c.bytes_before_place.ensures.before k below)
    (subst P c.as_bytes.ensures.value c.bytes_before_place.ensures.place) none

pub range_from-requires : goal.range_from-requires
range_from-requires c =
    let rest = c.split_at.result.1.now in
    let count = c.place_length-count.result in
    let is : count ≡ place_length c.args.places rest = c.place_length-count.ensures ∙ ap (place_length c.args.places) c.as_bytes-2.ensures.value in
    let some : 0 < count = omega arith in
    let P : List ℕ → Type 0 = λ xs. IsUtf8 xs in
    λ _. boundary_in_place c.args.places rest count (count + 2) (subst P c.as_bytes-2.ensures.value c.as_bytes-2.ensures.utf8) is some
    (omega arith)

pub returns-clause-first : goal.returns-clause-first
returns-clause-first c =
    let kind = c.args.places in
    let text = c.args.text.now in
    let at = c.bytes_before_place.result in
    let rest = c.split_at.result.1.now in
    let count = c.place_length-count.result in
    let back : rest ≡ drop at text = c.split_at.ensures.back in
    let is : count ≡ place_length kind (drop at text) =
    c.place_length-count.ensures ∙ ap (place_length kind) (c.as_bytes-2.ensures.value ∙ back) in
    let some : 0 < count = omega arith in
    first_segments kind text at count (omega (arith, ap length c.as_bytes.ensures.value, c.bytes_before_place.ensures.within))
    (λ k below. ap (λ xs. place_length kind (drop k xs)) (sym c.as_bytes.ensures.value) ∙ c.bytes_before_place.ensures.before k below)
    is some
    ∙ (λ k. text_segments (sym c.split_at.ensures.front k) ++
    (place (ap (λ r. Rattle.std.specs.Prelude.slice_range r 1 (count + 1)) (sym back) k) ∷ segments kind (ap (drop (count + 2)) (sym back) k)))
    ∙ (λ k. text_segments c.split_at.result.0.now ++ (place (sym c.range.ensures.value k) ∷ segments kind (sym c.range_from.ensures.value k)))

pub returns-then-count-eq0-clause-shorter : goal.returns-then-count-eq0-clause-shorter
returns-then-count-eq0-clause-shorter c = grind (arith, common_steps)

pub returns-clause-shorter : goal.returns-clause-shorter
returns-clause-shorter c = grind (arith, common_steps)

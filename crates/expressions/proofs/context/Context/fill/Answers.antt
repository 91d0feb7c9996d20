use Rattle.std.proofs.Common.{◌≡◌, ℕ, List, [], ◌∷◌, ◌++◌, Ok, map, ap, refl, subst, sym, ◌∙◌}
use Rattle.std.specs.Prelude.{true, false}
use Rattle.code.specs.FormatStrings.{part_data}
use Rattle.values.specs.Data.{Data}
use Rattle.values.specs.View.{data_of}
use Rattle.values.specs.printing.Printed.{is_plain, printed_value, text_of_value}
use Rattle.values.specs.texts.Segments.{Segment, text, place}
use Rattle.support.specs.declared.faults.refusal.Refusal.TheVariants as refusals
use Rattle.world.specs.Plan.{answer_at_line, give, next, refuse}
use Rattle.expressions.specs.Filling.{Puts}
use Rattle.expressions.specs.Forms.{filled_format_string, part_text, printed_plain, variable}
use Rattle.expressions.proofs.Evaluating.{given_as, given_give, given_refused, given_stop_inside, leads_as, leads_end, leads_inside}
use Rattle.expressions.proofs.Evaluating.{leads_on, leads_start, next_is, no_item}
use Rattle.expressions.proofs.context.Context.fill.Goals as goal
use Rattle.expressions.proofs.context.Context.fill.Goals.{in-Text+in_ok-put-in-Text}
use Rattle.expressions.proofs.context.Context.fill.Goals.{in-Place+in_ok-value-in-Place+in_ok-put_value-in-Place+else-not-branch}

-- what the parts that are left give behind a text, where a place comes first
at_first : (line : ℕ) (made : List ℕ) (all : List Segment) (first : Segment) (rest : List Segment) (name : List ℕ)
    → all ≡ first ∷ rest → first ≡ place name
    → filled_format_string line made all ≡ next (next (variable line name) (λ d. printed_plain line (is_plain d) d)) (λ t. filled_format_string line (made ++ t) rest)
at_first line made all first rest name is comes =
    ap (filled_format_string line made) is ∙ ap (λ s. next (part_text line s) (λ t. filled_format_string line (made ++ t) rest)) comes

-- a value that may stand there is printed, and another is refused
plain_first : (line : ℕ) (d : Data) → is_plain d ≡ true → printed_value d ≡ Ok (text_of_value d) → give (text_of_value d) ≡ printed_plain line (is_plain d) d
plain_first line d plain short = sym (ap (λ b. printed_plain line b d) plain ∙ ap (answer_at_line line) short)

other_first : (line : ℕ) (made : List ℕ) (rest : List Segment) (d : Data) → is_plain d ≡ false
    → next (printed_plain line (is_plain d) d) (λ t. filled_format_string line (made ++ t) rest)
    ≡ next (refuse line refusals.Type []) (λ t. filled_format_string line (made ++ t) rest)
other_first line made rest d other = ap (λ b. next (printed_plain line b d) (λ t. filled_format_string line (made ++ t) rest)) other

pub loop-part-init : goal.loop-part-init
loop-part-init g c = record { text = []; short = ap Ok c.empty.ensures; led = λ files h. leads_start h }

pub returns-in_err-value-in-Place-clause-gives : goal.returns-in_err-value-in-Place-clause-gives
returns-in_err-value-in-Place-clause-gives g c = λ files h.
    let so_far = c.loop-part.invariant in
    let next_part = next_is part_data c.args.parts.now c.loop-part.part-index c.part-item.result c.loop-part-test.true c.part-item.is in
    leads_end {whole = filled_format_string c.args.line [] (map part_data c.args.parts.now)}
    (leads_as (at_first c.args.line so_far.text _ _ _ _ next_part (ap part_data c.in-Place.is ∙ ap place (sym c.deref-in-Place.ensures))) (so_far.led files h))
    (given_stop_inside (c.in_err-value-in-Place.ensures.gives files h) c.from_residual-in_err-value-in-Place.ensures.1)

pub returns-then-not-branch-clause-gives : goal.returns-then-not-branch-clause-gives
returns-then-not-branch-clause-gives g c = λ files h.
    let so_far = c.loop-part.invariant in
    let next_part = next_is part_data c.args.parts.now c.loop-part.part-index c.part-item.result c.loop-part-test.true c.part-item.is in
    let d = data_of c.in_ok-value-in-Place.value in
    let refused = subst (λ b. Puts d so_far.text c.put_value.new.made b) c.if-not-branch.true (c.in_ok-put_value-in-Place.ensures so_far.text so_far.short) in
    let led = leads_inside
    (leads_as (at_first c.args.line so_far.text _ _ _ _ next_part (ap part_data c.in-Place.is ∙ ap place (sym c.deref-in-Place.ensures))) (so_far.led files h))
    (c.in_ok-value-in-Place.ensures.gives files h) in
    leads_end {whole = filled_format_string c.args.line [] (map part_data c.args.parts.now)}
    (leads_as (other_first c.args.line so_far.text _ d refused) led)
    (given_refused c.refuse.result led.holds c.refuse.ensures)

pub loop-part-preserved : goal.loop-part-preserved
loop-part-preserved g c =
    let so_far = c.loop-part.invariant in
    let next_part = next_is part_data c.args.parts.now c.loop-part.part-index c.part-item.result c.loop-part-test.true c.part-item.is in
    elim c.match-part.branch [
      | in-Text+in_ok-put-in-Text w ↦ record {
        text = so_far.text ++ w.deref.result.now;
        short = w.made-is ∙ w.in_ok-put-in-Text.ensures so_far.text so_far.short;
        led = λ files h. leads_on {C = List ℕ} {view = λ t. t} {x = w.deref.result.now}
            (leads_as (ap (filled_format_string c.args.line so_far.text) next_part) (so_far.led files h))
            (given_as (ap (λ t. part_text c.args.line (text t)) w.deref.ensures ∙ ap (λ p. part_text c.args.line (part_data p)) (sym w.in-Text.is))
            (given_give h refl));
      }
      | in-Place+in_ok-value-in-Place+in_ok-put_value-in-Place+else-not-branch w ↦
          let d = data_of w.in_ok-value-in-Place.value in
          let puts = subst (λ b. Puts d so_far.text w.put_value.new.made b) w.if-not-branch.false (w.in_ok-put_value-in-Place.ensures so_far.text so_far.short) in record {
            text = so_far.text ++ text_of_value d;
            short = w.made-is ∙ puts.2;
            led = λ files h.
                let found = w.in_ok-value-in-Place.ensures.gives files h in
                leads_on {C = List ℕ} {view = λ t. t} {x = text_of_value d}
                (leads_inside (leads_as (at_first c.args.line so_far.text _ _ _ _ next_part (ap part_data w.in-Place.is ∙ ap place (sym w.deref-in-Place.ensures))) (so_far.led files h)) found)
                (given_as (plain_first c.args.line d puts.0 puts.1) (given_give found.holds refl));
          }
    ]

pub returns-clause-gives : goal.returns-clause-gives
returns-clause-gives g c = λ files h.
    let so_far = c.loop-part.invariant in
    let none = no_item part_data c.args.parts.now c.loop-part.part-index c.loop-part-test.false in
    leads_end {whole = filled_format_string c.args.line [] (map part_data c.args.parts.now)} (leads_as (ap (filled_format_string c.args.line so_far.text) none) (so_far.led files h))
    (c.answer.ensures.gives _ (c.text_value.ensures so_far.text so_far.short) files (so_far.led files h).holds)

use Rattle.std.proofs.Common.{ℕ, ◌+◌, ◌<◌, List, [], ◌++◌, length, drop, get_or, Bor, string_bytes, sym, ap, ◌∙◌, arith}
use Rattle.std.proofs.lemmas.Grind.{common_steps}
use Rattle.sources.specs.Holes.{meaning_of_name, behind_text, filled_behind}
use Rattle.sources.specs.HolesView.{place_view, meaning_view}
use Rattle.sources.proofs.Steps.{stays_step, means_step}
use Rattle.sources.proofs.Places.{now_of, one_at, two_at}
use Rattle.sources.proofs.replacement.fill_behind.Goals as goal

pub loop-i-preserved-in-Stays : goal.loop-i-preserved-in-Stays
loop-i-preserved-in-Stays c =
    let xs = c.args.parts.now in
    let i = c.loop-i.i in
    let d : Bor (List ℕ) = record { ref_ptr = (0, 0); now = [] } in
    let m = meaning_of_name c.args.scope (place_view c.args.place.now) in
    let made = string_bytes c.loop-i.made in
    let new = string_bytes c.push_both-in-Stays.new.made in
    let name = (get_or xs i d).now in
    let text = (get_or xs (i + 1) d).now in
    let others = now_of (drop (i + 2) xs) in
    let apart = c.if-i-parts.false in
    let more : i + 1 < length xs = omega (arith, c.loop-i-test.true) in
    record {
      within = omega arith;
      filled =
          ap (λ l. behind_text new (filled_behind m l)) (one_at xs (i + 1) (i + 2) d more (omega arith))
          ∙ stays_step m made new name text others (sym c.in_ok-meaning_of.ensures ∙ ap meaning_view c.in-Stays.is)
          c.in_ok-push_both-in-Stays.ensures
          ∙ ap (λ l. behind_text made (filled_behind m l)) (sym (two_at xs i d more))
          ∙ c.loop-i.invariant.filled;
    }

pub loop-i-preserved-in-Lent : goal.loop-i-preserved-in-Lent
loop-i-preserved-in-Lent c =
    let xs = c.args.parts.now in
    let i = c.loop-i.i in
    let d : Bor (List ℕ) = record { ref_ptr = (0, 0); now = [] } in
    let m = meaning_of_name c.args.scope (place_view c.args.place.now) in
    let made = string_bytes c.loop-i.made in
    let new = string_bytes c.push_both-in-Lent.new.made in
    let name = (get_or xs i d).now in
    let text = (get_or xs (i + 1) d).now in
    let value = c.in-Lent.value.now in
    let others = now_of (drop (i + 2) xs) in
    let apart = c.if-i-parts.false in
    let more : i + 1 < length xs = omega (arith, c.loop-i-test.true) in
    record {
      within = omega arith;
      filled =
          means_step m made new name text others value (sym c.in_ok-meaning_of.ensures ∙ ap meaning_view c.in-Lent.is)
          c.in_ok-push_both-in-Lent.ensures
          ∙ ap (λ l. behind_text made (filled_behind m l)) (sym (two_at xs i d more))
          ∙ c.loop-i.invariant.filled;
    }

pub loop-i-preserved : goal.loop-i-preserved
loop-i-preserved c =
    let xs = c.args.parts.now in
    let i = c.loop-i.i in
    let d : Bor (List ℕ) = record { ref_ptr = (0, 0); now = [] } in
    let m = meaning_of_name c.args.scope (place_view c.args.place.now) in
    let made = string_bytes c.loop-i.made in
    let new = string_bytes c.push_both-in-Made.new.made in
    let name = (get_or xs i d).now in
    let text = (get_or xs (i + 1) d).now in
    let value = string_bytes c.in-Made.value in
    let others = now_of (drop (i + 2) xs) in
    let apart = c.if-i-parts.false in
    let more : i + 1 < length xs = omega (arith, c.loop-i-test.true) in
    record {
      within = omega arith;
      filled =
          means_step m made new name text others value (sym c.in_ok-meaning_of.ensures ∙ ap meaning_view c.in-Made.is)
          (c.in_ok-push_both-in-Made.ensures ∙ ap (λ v. (made ++ v) ++ text) c.deref.ensures)
          ∙ ap (λ l. behind_text made (filled_behind m l)) (sym (two_at xs i d more))
          ∙ c.loop-i.invariant.filled;
    }

pub loop-i-init : goal.loop-i-init
loop-i-init c = grind (arith, common_steps)

pub returns-then-i-parts : goal.returns-then-i-parts
returns-then-i-parts c = grind (arith, common_steps)

pub returns-in-Refused : goal.returns-in-Refused
returns-in-Refused c = grind (arith, common_steps)

pub returns : goal.returns
returns c = grind (arith, common_steps)

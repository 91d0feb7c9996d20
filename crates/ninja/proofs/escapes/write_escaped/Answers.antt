use Rattle.std.proofs.Common.{sym, ap, ◌∙◌}
use Rattle.std.specs.List.{flat_map}
use Rattle.ports.specs.Outputs.{puts}
use Rattle.ninja.specs.Places.{byte_text}
use Rattle.ninja.proofs.Puts.{puts-flat_map, writes_over}
use Rattle.ninja.proofs.Staying.{stays_plain}
use Rattle.ninja.proofs.escapes.write_escaped.Goals as goal

pub returns-then-all_stay : goal.returns-then-all_stay
returns-then-all_stay g c =
    let bytes = c.args.bytes.now in
    writes_over (puts bytes) (puts (flat_map (byte_text c.args.place) bytes))
    (ap puts (sym (stays_plain c.args.place bytes (sym c.all_stay.ensures ∙ c.if-all_stay.true)))) c.put_all.ensures

pub returns-else-all_stay : goal.returns-else-all_stay
returns-else-all_stay g c =
    let bytes = c.args.bytes.now in
    writes_over (flat_map (λ b. puts (byte_text c.args.place b)) bytes) (puts (flat_map (byte_text c.args.place) bytes))
    (puts-flat_map (byte_text c.args.place) bytes) c.write_each.ensures

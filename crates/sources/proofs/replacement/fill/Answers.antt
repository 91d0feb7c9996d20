use Rattle.std.proofs.Common.{Some, sym, ap, ◌∙◌}
use Rattle.sources.specs.HolesView.{place_view}
use Rattle.sources.proofs.Unmarked.{filled_unmarked}
use Rattle.sources.proofs.replacement.fill.Goals as goal

pub returns-in_ok-from_str : goal.returns-in_ok-from_str
returns-in_ok-from_str c =
    ap Some c.in_ok-from_str.ensures.ok
    ∙ sym (filled_unmarked c.args.scope (place_view c.args.place.now) c.args.text.now (sym c.has_mark.ensures ∙ c.if-has_mark.false))

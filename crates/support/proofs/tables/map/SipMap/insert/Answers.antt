use Rattle.std.proofs.Common.{◌∙◌, ap}
use Rattle.std.specs.Map.{lookup}
use Rattle.indexmap.proofs.CallerLemmas.{insert_entry-new}
use Rattle.support.proofs.tables.map.SipMap.insert.Goals as goal

pub returns-clause-last : goal.returns-clause-last
returns-clause-last g c none =
    let eq = g.K.PartialEq.eq in
    rw (c.in_ok-insert.ensures.entries, ← c.self.view_is)
    (insert_entry-new eq c.self.inside.map c.args.key c.args.value (ap (λ m. lookup (eq c.args.key) m.entries) c.self.view_is ∙ none))

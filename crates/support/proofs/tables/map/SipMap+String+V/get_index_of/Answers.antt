use Rattle.std.proofs.Common.{◌∙◌, ap, bytes_eq, string_bytes, String, Global}
use Rattle.std.specs.Prelude.{position}
use Rattle.support.proofs.Entries.{position_entry}
use Rattle.support.proofs.tables.map.SipMap+String+V.get_index_of.Goals as goal

pub returns : goal.returns
returns g c =
    let test = λ (k : String Global). bytes_eq c.args.key.now (string_bytes k) in
    c.get_index_of.ensures.index ∙ position_entry test c.self.inside.map.entries
    ∙ ap (λ m. position (λ e. test e.0) m.entries) c.self.view_is

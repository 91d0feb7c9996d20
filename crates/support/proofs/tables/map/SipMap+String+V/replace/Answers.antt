use Rattle.std.proofs.Common.{◌∙◌, ap, sym, bytes_eq, string_bytes, String, Global}
use Rattle.std.specs.Map.{set_value}
use Rattle.support.proofs.Entries.{unset}
use Rattle.support.proofs.tables.map.SipMap+String+V.replace.Goals as goal

pub returns-in_default : goal.returns-in_default
returns-in_default g c =
    let test = λ (k : String Global). bytes_eq c.args.key.now (string_bytes k) in
    record {
      entries =
          ap (λ m. m.entries) c.get_mut.follows.holds-at-none
          ∙ unset test c.self.inside.map.entries c.args.value (sym c.in_default.ensures.value)
          ∙ ap (λ m. set_value test m.entries c.args.value) c.self.view_is;
    }

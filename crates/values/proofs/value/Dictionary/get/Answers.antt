use Rattle.std.proofs.Common.{option_map, sym, ap, ◌∙◌}
use Rattle.std.specs.Prelude.{slice_get}
use Rattle.values.specs.View.{data_of}
use Rattle.values.specs.Data.{find}
use Rattle.values.proofs.EntriesLemmas.{find_in, find_out, at_position, no_position, copied}
use Rattle.values.proofs.value.Dictionary.get.Goals as goal

pub returns-in_err-index : goal.returns-in_err-index
returns-in_err-index c =
    let out = find_out c.args.key.now c.self.inside.keys c.self.inside.values.items (no_position c.args.key.now c.self.inside.keys c.in_err-index.ensures.index) in
    ap (option_map (λ v. data_of v.now)) c.from_residual.ensures ∙ sym out ∙ ap (find c.args.key.now) c.self.view_is

pub returns : goal.returns
returns c =
    let vs = c.self.inside.values.items in
    let ks = c.self.inside.keys in
    let at = at_position c.args.key.now ks c.in_ok-index.index c.in_ok-index.ensures.index in
    let lookup = c.get.ensures.lookup in
    let is = find_in c.args.key.now ks vs at.0 in
    copied c.get.result c.deref.result.now c.in_ok-index.index lookup.0 lookup.1 ∙ ap (λ l. option_map data_of (slice_get l c.in_ok-index.index)) c.deref.ensures.value ∙ ap (λ i. option_map data_of (slice_get vs i)) at.1 ∙ sym is ∙ ap (find c.args.key.now) c.self.view_is

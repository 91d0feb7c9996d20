use Rattle.std.proofs.Common.{◌≡◌, drop, ap, sym, ◌∙◌, map}
use Rattle.std.proofs.lemmas.List.{drop-map}
use Rattle.std.proofs.lemmas.Result.{IfOk-weaker}
use Rattle.values.specs.View.{data_of}
use Rattle.values.specs.Flat.{opened_all}
use Rattle.arguments.proofs.arguments.Arguments.leaves_behind.Goals as goal

pub returns : goal.returns
returns c =
    let at = ap (λ vs. opened_all (map data_of vs)) (c.behind.ensures ∙ ap (drop c.args.place) c.deref.ensures.value)
    ∙ ap opened_all (sym (drop-map data_of c.args.place c.args.self.now.positional.items)) in
    IfOk-weaker c.flatten_values.result (λ found. map (λ v. data_of v.now) found.items ≡ opened_all (map data_of c.behind.result.now)) _ (λ found is. is ∙ at) c.flatten_values.ensures

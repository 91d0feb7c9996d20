use Rattle.std.proofs.Common.{◌≡◌, drop, ap, sym, ◌∙◌, map}
use Rattle.std.proofs.lemmas.List.{drop-map}
use Rattle.std.proofs.lemmas.Result.{IfOk-weaker}
use Rattle.values.specs.View.{data_of}
use Rattle.values.specs.Flat.{flat_all}
use Rattle.arguments.proofs.arguments.Arguments.texts_behind.Goals as goal

pub returns : goal.returns
returns c =
    let at = ap (λ vs. flat_all (map data_of vs)) (c.behind.ensures ∙ ap (drop c.args.place) c.deref.ensures.value)
    ∙ ap flat_all (sym (drop-map data_of c.args.place c.args.self.now.positional.items)) in
    IfOk-weaker c.flat_all.result (λ found. map (λ t. t.now) found.items ≡ flat_all (map data_of c.behind.result.now)) _ (λ found is. is ∙ at) c.flat_all.ensures

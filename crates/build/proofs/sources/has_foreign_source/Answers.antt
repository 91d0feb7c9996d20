use Rattle.std.proofs.Common.{Bool, sym, ap, ◌∙◌, map}
use Rattle.std.specs.Prelude.{◌||◌}
use Rattle.std.specs.List.{list_any}
use Rattle.build.specs.Sources.{has_foreign_in}
use Rattle.build.specs.View.{lists_view}
use Rattle.build.proofs.ListLemmas.{list_any-map}
use Rattle.build.proofs.sources.has_foreign_source.Goals as goal

pub returns-else-lists_have_foreign : goal.returns-else-lists_have_foreign
returns-else-lists_have_foreign c =
    let deps = map (λ l. lists_view l.value) c.args.target.now.dependencies.items in
    c.dependencies_have_foreign.ensures
    ∙ sym (list_any-map has_foreign_in (λ l. lists_view l.value) c.args.target.now.dependencies.items)
    ∙ ap (λ (b : Bool). b || list_any has_foreign_in deps) (sym c.if-lists_have_foreign.false ∙ c.lists_have_foreign.ensures)

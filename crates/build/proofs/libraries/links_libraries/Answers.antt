use Rattle.std.proofs.Common.{Bool, map, sym, ap, ◌∙◌}
use Rattle.std.specs.Prelude.{◌&&◌}
use Rattle.std.specs.List.{list_all}
use Rattle.std.proofs.lemmas.List.Folds.{list_all-map}
use Rattle.build.specs.Libraries.{links_in}
use Rattle.build.specs.DeclaredTargetViews.{declared_target_views}
use Rattle.build.specs.View.{lists_view}
use Rattle.build.proofs.libraries.links_libraries.Goals as goal

pub returns-then-are_libraries : goal.returns-then-are_libraries
returns-then-are_libraries c =
    let earlier = declared_target_views c.args.earlier.now in
    let deps = c.args.target.now.dependencies.items in
    c.dependencies_link_libraries.ensures
    ∙ sym (list_all-map (links_in earlier) (λ l. lists_view l.value) deps)
    ∙ ap (λ (b : Bool). b && list_all (links_in earlier) (map (λ l. lists_view l.value) deps))
    (sym c.if-are_libraries.true ∙ c.are_libraries.ensures ∙ ap (λ ns. links_in earlier (record (lists_view c.args.target.now.own) { link_with = ns })) c.deref.ensures.value)

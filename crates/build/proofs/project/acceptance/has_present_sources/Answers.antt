use Rattle.build.specs.edge.Texts.{texts}
use Rattle.std.proofs.Common.{refl, sym, ap, ◌∙◌}
use Rattle.std.specs.List.{list_all}
use Rattle.build.specs.Data as plain
use Rattle.build.specs.View.{lists_view, build_view, custom_view, target_view}
use Rattle.build.specs.project.Adding.{sources_of, is_present}
use Rattle.build.proofs.SourceTests.{all_listed, all_both}
use Rattle.build.proofs.project.acceptance.has_present_sources.Goals as goal

pub returns-in-Build : goal.returns-in-Build
returns-in-Build c =
    let t = c.deref.result.now in
    c.build_has_present.ensures ∙ sym (all_listed (λ l. lists_view l.value) (λ l. l.value.sources.items) (λ l. refl) (is_present (texts c.args.present.now.keys)) t.own.sources.items t.dependencies.items)
    ∙ ap (λ x. list_all (is_present (texts c.args.present.now.keys)) (sources_of (plain.Build (build_view x)))) c.deref.ensures
    ∙ ap (λ x. list_all (is_present (texts c.args.present.now.keys)) (sources_of (target_view x))) (sym c.in-Build.is)

pub returns-in-Custom : goal.returns-in-Custom
returns-in-Custom c =
    let t = c.deref-in-Custom.result.now in
    c.custom_has_present.ensures ∙ sym (all_both (is_present (texts c.args.present.now.keys)) t.inputs.items t.needs.items)
    ∙ ap (λ x. list_all (is_present (texts c.args.present.now.keys)) (sources_of (plain.Custom (custom_view x)))) c.deref-in-Custom.ensures
    ∙ ap (λ x. list_all (is_present (texts c.args.present.now.keys)) (sources_of (target_view x))) (sym c.in-Custom.is)

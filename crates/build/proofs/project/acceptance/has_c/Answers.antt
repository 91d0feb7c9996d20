use Rattle.std.proofs.Common.{refl, sym, ◌∙◌}
use Rattle.build.specs.View.{lists_view}
use Rattle.build.specs.project.Adding.{has_c_in}
use Rattle.build.proofs.SourceTests.{any_listed}
use Rattle.build.proofs.project.acceptance.has_c.Goals as goal

pub returns : goal.returns
returns c =
    let t = c.args.target.now in
    c.has_or_brings_c.ensures ∙ sym (any_listed (λ l. lists_view l.value) (λ l. l.value.sources.items) (λ l. refl) has_c_in t.own.sources.items t.dependencies.items)

use Rattle.std.proofs.Common.{map, ap, ap₂, codes, ◌∙◌}
use Rattle.std.proofs.lemmas.Result.{on_ok_weaker}
use Rattle.build.proofs.LinkedLists.{kept_targets}
use Rattle.build.specs.Data.{FactsData}
use Rattle.build.specs.View.{option_entry_view, target_view}
use Rattle.build.specs.declared.declared_target.DeclaredTarget.{DeclaredTarget}
use Rattle.build.specs.project.View.{answer_view, test_view}
use Rattle.serde_json.specs.Data.{no_members, object, put}
use Rattle.introspection.specs.Document.{dependency_entry, document_of, option_entry, project_entry, target_entry, test_entry, with_installed}
use Rattle.std.specs.Prelude.{fold}
use Rattle.introspection.proofs.Lists.{list_seen}
use Rattle.introspection.proofs.document.put_parts.Goals as goal

pub returns : goal.returns
unfolding document_of
returns c =
    let w = c.args.project.now in
    let listed = ap (map option_entry_view) c.deref.ensures.value ∙ ap (λ (f : FactsData). f.options) c.facts.ensures in
    let options = list_seen option_entry option_entry_view c.deref.result.now w.surroundings.facts.options _ listed c.in_ok-options.ensures in
    let answers = list_seen dependency_entry answer_view c.dependencies.result.now w.dependencies _ c.dependencies.ensures c.in_ok-list_of.ensures in
    let installed = c.in_ok-value.ensures.shows ∙ ap (λ is. object (fold with_installed no_members is)) c.installs.ensures in
    let info = c.in_ok-value-2.ensures.shows ∙ ap project_entry c.facts-2.ensures in
    let made = list_seen target_entry (λ (l : DeclaredTarget). target_view l.target) c.targets.result.now w.targets _
    (kept_targets c.targets.result.now w.targets c.targets.ensures) c.in_ok-list_of-2.ensures in
    let shown = list_seen test_entry test_view c.tests.result.now w.tests _ c.tests.ensures c.in_ok-list_of-3.ensures in
    on_ok_weaker c.put-7.result (λ last. ap object
    (last ∙ ap₂ (put (codes "tests")) shown
    (c.in_ok-put-6.ensures.ok ∙ ap₂ (put (codes "targets")) made
    (c.in_ok-put-5.ensures.ok ∙ ap₂ (put (codes "projectinfo")) info
    (c.in_ok-put-4.ensures.ok ∙ ap₂ (put (codes "installed")) installed
    (c.in_ok-put-3.ensures.ok ∙ ap₂ (put (codes "dependencies")) answers
    (c.in_ok-put-2.ensures.ok ∙ ap₂ (put (codes "buildsystem_files")) c.in_ok-files_read.ensures
    (c.in_ok-put.ensures.ok ∙ ap₂ (put (codes "buildoptions")) options c.requires)))))))) c.put-7.ensures.ok

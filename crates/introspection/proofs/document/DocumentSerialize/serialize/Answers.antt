use Rattle.std.proofs.Common.{map, ap, ◌∙◌}
use Rattle.std.proofs.lemmas.Result.{on_ok_weaker}
use Rattle.build.proofs.LinkedLists.{kept_targets}
use Rattle.build.specs.Data.{FactsData}
use Rattle.build.specs.View.{option_entry_view, target_view}
use Rattle.build.specs.declared.declared_target.DeclaredTarget.{DeclaredTarget}
use Rattle.build.specs.project.View.{answer_view, install_view, test_view}
use Rattle.serde_json.specs.Data.{no_members, object}
use Rattle.introspection.specs.Document.{build_options, dependencies, dependency_entry, document_of, files_read, installed_files, option_entry}
use Rattle.introspection.specs.Document.{project_entry, project_info, target_entry, targets, test_entry, tests, with_installed}
use Rattle.introspection.proofs.Lists.{installs_send, list_sends, one_sends}
use Rattle.introspection.proofs.ReadBack.{reads_seven}
use Rattle.introspection.proofs.document.DocumentSerialize.serialize.Goals as goal

pub returns : goal.returns
unfolding document_of
returns g c =
    let log = g.S.Serializer.written in
    let w = c.args.self.now.project.now in
    let listed = ap (map option_entry_view) c.deref.ensures.value ∙ ap (λ (f : FactsData). f.options) c.facts.ensures in
    let l1 = log c.key.new.self in
    let m1 = log c.send_list.new.out in
    let l2 = log c.key-2.new.self in
    let m2 = log c.send_files.new.out in
    let l3 = log c.key-3.new.self in
    let m3 = log c.send_list-2.new.out in
    let l4 = log c.key-4.new.self in
    let m4 = log c.send.new.out in
    let l5 = log c.key-5.new.self in
    let m5 = log c.send-2.new.out in
    let l6 = log c.key-6.new.self in
    let m6 = log c.send_list-3.new.out in
    let l7 = log c.key-7.new.self in
    let m7 = log c.send_list-4.new.out in
    let options = list_sends option_entry option_entry_view c.deref.result.now w.surroundings.facts.options l1 m1 listed c.in_ok-send_list.ensures in
    let files = c.in_ok-send_files.ensures in
    let answers = list_sends dependency_entry answer_view c.dependencies.result.now w.dependencies l3 m3 c.dependencies.ensures c.in_ok-send_list-2.ensures in
    let installed = installs_send _ w.installs l4 m4 c.installs.ensures c.in_ok-send.ensures in
    let info = one_sends project_entry _ w.surroundings.facts l5 m5 c.facts-2.ensures c.in_ok-send-2.ensures in
    let made = list_sends target_entry (λ (l : DeclaredTarget). target_view l.target) c.targets.result.now w.targets l6 m6
    (kept_targets c.targets.result.now w.targets c.targets.ensures) c.in_ok-send_list-3.ensures in
    let shown = list_sends test_entry test_view c.tests.result.now w.tests l7 m7 c.tests.ensures c.in_ok-send_list-4.ensures in
    on_ok_weaker c.end_map.result (λ ended. record {
      events = (
        log c.begin_map.new.self,
        c.in_ok-begin_map.ensures,
        (
          l1,
          m1,
          c.in_ok-key.ensures,
          options.events,
          (
            l2,
            m2,
            c.in_ok-key-2.ensures,
            files.events,
            (
              l3,
              m3,
              c.in_ok-key-3.ensures,
              answers.events,
              (
                l4,
                m4,
                c.in_ok-key-4.ensures,
                installed.events,
                (
                  l5,
                  m5,
                  c.in_ok-key-5.ensures,
                  info.events,
                  (
                    l6,
                    m6,
                    c.in_ok-key-6.ensures,
                    made.events,
                    (l7, m7, c.in_ok-key-7.ensures, shown.events, ended),
                  ),
                ),
              ),
            ),
          ),
        ),
      );
      reads = reads_seven (build_options w) (files_read w) (dependencies w) (installed_files w) (project_info w) (targets w) (tests w)
          options.reads files.reads answers.reads installed.reads info.reads made.reads shown.reads;
    }) c.end_map.ensures

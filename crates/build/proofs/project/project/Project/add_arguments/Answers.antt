use Rattle.std.proofs.Common.{◌≡◌, true, false, List, ◌++◌, map, Err, sym, ap, ◌∙◌}
use Rattle.std.specs.List.{list_any, list_all}
use Rattle.std.proofs.lemmas.Result.{IfOk-weaker}
use Rattle.build.specs.edge.Texts.{Text, texts}
use Rattle.build.specs.edge.Holding.{value_held}
use Rattle.build.specs.DeclaredTargetViews.{declared_target_views}
use Rattle.build.specs.View.{surroundings_view, target_view}
use Rattle.build.specs.declared.declared_target.DeclaredTarget.{DeclaredTarget}
use Rattle.build.specs.project.World.{WorldData}
use Rattle.build.specs.project.View.{world_of}
use Rattle.build.specs.project.NotesView.{notes_view}
use Rattle.build.specs.project.Adding.{is_build, first_build, arguments_answer, with_arguments}
use Rattle.build.specs.project.Refused.{answer_data, refusal_for_text}
use Rattle.support.specs.declared.faults.refusal.Refusal.TheVariants.{LateArguments}
use Rattle.build.proofs.Arguments.{with_words, whole_with_words, answer_late, answer_words, after_unit, after_refusal, first_is, some_is}
use Rattle.build.proofs.Placing.{on_ok}
use Rattle.build.proofs.project.project.Project.add_arguments.Goals as goal

pub returns-then-late-clause-answer : goal.returns-then-late-clause-answer
returns-then-late-clause-answer c =
    let w = c.args.self.now in
    let words = texts c.args.words.now in
    let held : list_all value_held words ≡ true = sym c.can_hold_values-held.ensures ∙ c.if-not-held.false in
    let some : list_any is_build w.targets ≡ true =
    ap (λ (x : WorldData). list_any is_build x.targets) (sym c.self.view_is) ∙ some_is c.self.inside.linked.items
    ∙ ap (list_any (λ (l : DeclaredTarget). is_build (target_view l.target))) (sym c.deref.ensures.value) ∙ sym c.some_build-late.ensures ∙ c.if-late.true in
    let first : c.first_build.result.now ≡ first_build w.targets =
    c.first_build.ensures ∙ ap (λ (ls : List DeclaredTarget). first_build (map (λ l. target_view l.target) ls)) c.deref-then-late.ensures.value
    ∙ first_is c.self.inside.linked.items ∙ ap (λ (x : WorldData). first_build x.targets) c.self.view_is in
    IfOk-weaker c.refuse-then-late.result (λ r. answer_data r ≡ Err (refusal_for_text LateArguments c.first_build.result.now)) (λ r. answer_data r ≡ arguments_answer w words)
    (λ r e. e ∙ ap (λ n. Err (refusal_for_text LateArguments n)) first ∙ sym (answer_late w words held some)) c.refuse-then-late.ensures

pub returns-then-late-clause-ok : goal.returns-then-late-clause-ok
returns-then-late-clause-ok c =
    let w = c.args.self.now in
    let words = texts c.args.words.now in
    let held : list_all value_held words ≡ true = sym c.can_hold_values-held.ensures ∙ c.if-not-held.false in
    let some : list_any is_build w.targets ≡ true =
    ap (λ (x : WorldData). list_any is_build x.targets) (sym c.self.view_is) ∙ some_is c.self.inside.linked.items
    ∙ ap (list_any (λ (l : DeclaredTarget). is_build (target_view l.target))) (sym c.deref.ensures.value) ∙ sym c.some_build-late.ensures ∙ c.if-late.true in
    on_ok c.refuse-then-late.result (sym (after_refusal (arguments_answer w words) (refusal_for_text LateArguments (first_build w.targets)) (with_arguments w words) w (answer_late w words held some)))

pub invariant_of-self : goal.invariant_of-self
invariant_of-self c =
    let s = surroundings_view c.self.inside.surroundings in
    let ls = declared_target_views c.self.inside.linked.items in
    let outputs = texts c.self.inside.outputs.items in
    let notes = notes_view c.self.inside.notes in
    whole_with_words s ls outputs notes.present (texts c.self.inside.taken.keys) (texts c.append.new.all.items) (texts c.self.inside.surroundings.link_arguments.items) c.self.invariant
    (some_is c.self.inside.linked.items ∙ ap (list_any (λ (l : DeclaredTarget). is_build (target_view l.target))) (sym c.deref.ensures.value) ∙ sym c.some_build-late.ensures ∙ c.if-late.false)

pub invariant_of-self-2 : goal.invariant_of-self-2
invariant_of-self-2 c =
    let s = surroundings_view c.self.inside.surroundings in
    let ls = declared_target_views c.self.inside.linked.items in
    let outputs = texts c.self.inside.outputs.items in
    let notes = notes_view c.self.inside.notes in
    whole_with_words s ls outputs notes.present (texts c.self.inside.taken.keys) (texts c.append.new.all.items) (texts c.self.inside.surroundings.link_arguments.items) c.self.invariant
    (some_is c.self.inside.linked.items ∙ ap (list_any (λ (l : DeclaredTarget). is_build (target_view l.target))) (sym c.deref.ensures.value) ∙ sym c.some_build-late.ensures ∙ c.if-late.false)

pub returns-clause-answer : goal.returns-clause-answer
returns-clause-answer c =
    let w = c.args.self.now in
    let words = texts c.args.words.now in
    let held : list_all value_held words ≡ true = sym c.can_hold_values-held.ensures ∙ c.if-not-held.false in
    let some : list_any is_build w.targets ≡ false =
    ap (λ (x : WorldData). list_any is_build x.targets) (sym c.self.view_is) ∙ some_is c.self.inside.linked.items
    ∙ ap (list_any (λ (l : DeclaredTarget). is_build (target_view l.target))) (sym c.deref.ensures.value) ∙ sym c.some_build-late.ensures ∙ c.if-late.false in
    sym (answer_words w words held some)

pub returns-clause-ok : goal.returns-clause-ok
returns-clause-ok c =
    let w = c.args.self.now in
    let words = texts c.args.words.now in
    let held : list_all value_held words ≡ true = sym c.can_hold_values-held.ensures ∙ c.if-not-held.false in
    let some : list_any is_build w.targets ≡ false =
    ap (λ (x : WorldData). list_any is_build x.targets) (sym c.self.view_is) ∙ some_is c.self.inside.linked.items
    ∙ ap (list_any (λ (l : DeclaredTarget). is_build (target_view l.target))) (sym c.deref.ensures.value) ∙ sym c.some_build-late.ensures ∙ c.if-late.false in
    let s = surroundings_view c.self.inside.surroundings in
    let ls = declared_target_views c.self.inside.linked.items in
    let outputs = texts c.self.inside.outputs.items in
    let notes = notes_view c.self.inside.notes in
    let old = world_of s ls outputs notes in
    let joined : texts c.append.new.all.items ≡ s.arguments ++ words = c.in_ok-append.ensures.ok in
    ap (λ (x : List Text). record old { surroundings = with_words s x (texts c.self.inside.surroundings.link_arguments.items) }) joined
    ∙ ap (λ (x : WorldData). with_arguments x words) c.self.view_is
    ∙ sym (after_unit (arguments_answer w words) (with_arguments w words) w (answer_words w words held some))

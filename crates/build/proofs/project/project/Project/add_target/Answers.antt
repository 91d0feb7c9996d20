use Rattle.std.proofs.Common.{List, ◌≡◌, ◌++◌, true, false, [], map, Err, OnOk, refl, sym, ap, ◌∙◌, subst}
use Rattle.std.specs.List.{list_all}
use Rattle.std.proofs.lemmas.Result.{IfOk-weaker}
use Rattle.build.specs.edge.Texts.{texts}
use Rattle.build.specs.edge.Holding.{are_writable}
use Rattle.build.specs.Libraries.{LinkBack, linked_of, linked_libraries}
use Rattle.build.specs.DeclaredTargetViews.{declared_target_views}
use Rattle.build.specs.View.{surroundings_view, target_view}
use Rattle.build.specs.declared.declared_target.DeclaredTarget.{DeclaredTarget}
use Rattle.build.specs.target_edges.Edges.{target_edges}
use Rattle.build.specs.project.Laws.{outputs_of}
use Rattle.build.specs.project.World.{WorldData}
use Rattle.build.specs.project.Adding.{sources_of, is_present, is_fit, edges_with, place_answer, target_answer, with_target, after_answer}
use Rattle.build.specs.project.NotesView.{notes_view}
use Rattle.build.specs.project.Refused.{answer_data, refusal_for_text}
use Rattle.support.specs.declared.faults.refusal.Refusal.TheVariants.{FileMissing, NinjaName}
use Rattle.build.proofs.Answering.{answer_missing, answer_unholdable, answer_placed, edges_are, next_ready}
use Rattle.build.proofs.Placing.{on_ok}
use Rattle.build.proofs.Reading.{whole_back}
use Rattle.build.proofs.project.project.Project.add_target.Goals as goal

pub linked_libraries-requires : goal.linked_libraries-requires
linked_libraries-requires c =
    let xs = c.self.inside.linked.items in
    subst (λ (ls : List DeclaredTarget). LinkBack (map (λ l. target_view l.target) ls)) (sym c.deref.ensures.value)
    (whole_back (surroundings_view c.self.inside.surroundings) xs (texts c.self.inside.outputs.items) (notes_view c.self.inside.notes).present (texts c.self.inside.taken.keys) c.self.invariant)

pub returns-then-not-present-clause-answer : goal.returns-then-not-present-clause-answer
returns-then-not-present-clause-answer c =
    let w = c.args.self.now in
    let t = target_view c.args.target in
    let fit : is_fit w t ≡ true = sym c.in_ok-fits.ensures ∙ c.if-not-fits.false in
    let there : list_all (is_present w.present) (sources_of t) ≡ false =
    ap (λ (x : WorldData). list_all (is_present x.present) (sources_of t)) (sym c.self.view_is) ∙ sym c.has_present_sources-present.ensures ∙ c.if-not-present.true in
    IfOk-weaker c.refuse-then-not-present.result (λ r. answer_data r ≡ Err (refusal_for_text FileMissing [])) (λ r. answer_data r ≡ target_answer w t)
    (λ r e. e ∙ sym (answer_missing w t fit there)) c.refuse-then-not-present.ensures

pub returns-then-not-present-clause-ok : goal.returns-then-not-present-clause-ok
returns-then-not-present-clause-ok c =
    let w = c.args.self.now in
    let t = target_view c.args.target in
    let fit : is_fit w t ≡ true = sym c.in_ok-fits.ensures ∙ c.if-not-fits.false in
    let there : list_all (is_present w.present) (sources_of t) ≡ false =
    ap (λ (x : WorldData). list_all (is_present x.present) (sources_of t)) (sym c.self.view_is) ∙ sym c.has_present_sources-present.ensures ∙ c.if-not-present.true in
    on_ok c.refuse-then-not-present.result (sym (ap (λ r. after_answer r (with_target w t) w) (answer_missing w t fit there)))

pub returns-then-not-writable-clause-answer : goal.returns-then-not-writable-clause-answer
returns-then-not-writable-clause-answer c =
    let w = c.args.self.now in
    let t = target_view c.args.target in
    let fit : is_fit w t ≡ true = sym c.in_ok-fits.ensures ∙ c.if-not-fits.false in
    let there : list_all (is_present w.present) (sources_of t) ≡ true =
    ap (λ (x : WorldData). list_all (is_present x.present) (sources_of t)) (sym c.self.view_is) ∙ sym c.has_present_sources-present.ensures ∙ c.if-not-present.false in
    let all : declared_target_views c.deref.result.now ≡ linked_of w.targets =
    ap declared_target_views c.deref.ensures.value ∙ c.self.invariant.libraries ∙ ap (λ (x : WorldData). linked_of x.targets) c.self.view_is in
    let ns = c.in_ok-libraries.libraries.items in
    let libs : ns ≡ linked_libraries (linked_of w.targets) t = c.in_ok-libraries.ensures ∙ ap (λ x. linked_libraries x t) all in
    let es = target_edges w.surroundings (linked_of w.targets) ns t in
    let made : target_edges w.surroundings (linked_of w.targets) c.deref-2.result.now t ≡ es =
    ap (λ x. target_edges w.surroundings (linked_of w.targets) x t) c.deref-2.ensures.value in
    let held : are_writable es ≡ false = ap are_writable (sym made) ∙ sym c.in_ok-claims.ensures.writable ∙ c.if-not-writable.true in
    IfOk-weaker c.refuse-then-not-writable.result (λ r. answer_data r ≡ Err (refusal_for_text NinjaName c.unheld.result.now)) (λ r. answer_data r ≡ target_answer w t)
    (λ r e. e ∙ ap (λ n. Err (refusal_for_text NinjaName n)) c.unheld.ensures ∙ sym (answer_unholdable w t fit there (ap are_writable (sym (edges_are w t ns es libs refl)) ∙ held)))
    c.refuse-then-not-writable.ensures

pub returns-then-not-writable-clause-ok : goal.returns-then-not-writable-clause-ok
returns-then-not-writable-clause-ok c =
    let w = c.args.self.now in
    let t = target_view c.args.target in
    let fit : is_fit w t ≡ true = sym c.in_ok-fits.ensures ∙ c.if-not-fits.false in
    let there : list_all (is_present w.present) (sources_of t) ≡ true =
    ap (λ (x : WorldData). list_all (is_present x.present) (sources_of t)) (sym c.self.view_is) ∙ sym c.has_present_sources-present.ensures ∙ c.if-not-present.false in
    let all : declared_target_views c.deref.result.now ≡ linked_of w.targets =
    ap declared_target_views c.deref.ensures.value ∙ c.self.invariant.libraries ∙ ap (λ (x : WorldData). linked_of x.targets) c.self.view_is in
    let ns = c.in_ok-libraries.libraries.items in
    let libs : ns ≡ linked_libraries (linked_of w.targets) t = c.in_ok-libraries.ensures ∙ ap (λ x. linked_libraries x t) all in
    let es = target_edges w.surroundings (linked_of w.targets) ns t in
    let made : target_edges w.surroundings (linked_of w.targets) c.deref-2.result.now t ≡ es =
    ap (λ x. target_edges w.surroundings (linked_of w.targets) x t) c.deref-2.ensures.value in
    let held : are_writable es ≡ false = ap are_writable (sym made) ∙ sym c.in_ok-claims.ensures.writable ∙ c.if-not-writable.true in
    on_ok c.refuse-then-not-writable.result (sym (ap (λ r. after_answer r (with_target w t) w) (answer_unholdable w t fit there (ap are_writable (sym (edges_are w t ns es libs refl)) ∙ held))))

pub place-requires : goal.place-requires
place-requires c =
    let w = c.args.self.now in
    let t = target_view c.args.target in
    let fit : is_fit w t ≡ true = sym c.in_ok-fits.ensures ∙ c.if-not-fits.false in
    let there : list_all (is_present w.present) (sources_of t) ≡ true =
    ap (λ (x : WorldData). list_all (is_present x.present) (sources_of t)) (sym c.self.view_is) ∙ sym c.has_present_sources-present.ensures ∙ c.if-not-present.false in
    let all : declared_target_views c.deref.result.now ≡ linked_of w.targets =
    ap declared_target_views c.deref.ensures.value ∙ c.self.invariant.libraries ∙ ap (λ (x : WorldData). linked_of x.targets) c.self.view_is in
    let ns = c.in_ok-libraries.libraries.items in
    let libs : ns ≡ linked_libraries (linked_of w.targets) t = c.in_ok-libraries.ensures ∙ ap (λ x. linked_libraries x t) all in
    let es = target_edges w.surroundings (linked_of w.targets) ns t in
    let made : target_edges w.surroundings (linked_of w.targets) c.deref-2.result.now t ≡ es =
    ap (λ x. target_edges w.surroundings (linked_of w.targets) x t) c.deref-2.ensures.value in
    let held : are_writable es ≡ true = ap are_writable (sym made) ∙ sym c.in_ok-claims.ensures.writable ∙ c.if-not-writable.false in
    let asked = texts c.in_ok-claims.claims.asked.items in
    let paths : texts c.deref-3.result.now ++ asked ≡ outputs_of es = ap (λ os. texts os ++ asked) c.deref-3.ensures.value ∙ c.in_ok-claims.ensures.paths ∙ ap outputs_of made in
    next_ready w t ns es libs refl (texts c.deref-3.result.now ++ asked) paths held fit there

pub returns-clause-answer : goal.returns-clause-answer
returns-clause-answer c =
    let w = c.args.self.now in
    let t = target_view c.args.target in
    let fit : is_fit w t ≡ true = sym c.in_ok-fits.ensures ∙ c.if-not-fits.false in
    let there : list_all (is_present w.present) (sources_of t) ≡ true =
    ap (λ (x : WorldData). list_all (is_present x.present) (sources_of t)) (sym c.self.view_is) ∙ sym c.has_present_sources-present.ensures ∙ c.if-not-present.false in
    let all : declared_target_views c.deref.result.now ≡ linked_of w.targets =
    ap declared_target_views c.deref.ensures.value ∙ c.self.invariant.libraries ∙ ap (λ (x : WorldData). linked_of x.targets) c.self.view_is in
    let ns = c.in_ok-libraries.libraries.items in
    let libs : ns ≡ linked_libraries (linked_of w.targets) t = c.in_ok-libraries.ensures ∙ ap (λ x. linked_libraries x t) all in
    let es = target_edges w.surroundings (linked_of w.targets) ns t in
    let made : target_edges w.surroundings (linked_of w.targets) c.deref-2.result.now t ≡ es =
    ap (λ x. target_edges w.surroundings (linked_of w.targets) x t) c.deref-2.ensures.value in
    let held : are_writable es ≡ true = ap are_writable (sym made) ∙ sym c.in_ok-claims.ensures.writable ∙ c.if-not-writable.false in
    let asked = texts c.in_ok-claims.claims.asked.items in
    let paths : texts c.deref-3.result.now ++ asked ≡ outputs_of es = ap (λ os. texts os ++ asked) c.deref-3.ensures.value ∙ c.in_ok-claims.ensures.paths ∙ ap outputs_of made in
    let is : place_answer w (texts c.deref-3.result.now ++ asked) c.is_within-within.result ≡ target_answer w t =
    ap (λ p. place_answer w p c.is_within-within.result) (paths ∙ ap outputs_of (edges_are w t ns es libs refl))
    ∙ ap (λ b. place_answer w (outputs_of (edges_with w t)) b) c.is_within-within.ensures
    ∙ sym (answer_placed w t fit there (ap are_writable (sym (edges_are w t ns es libs refl)) ∙ held)) in
    IfOk-weaker c.place.result (λ r. answer_data r ≡ place_answer w (texts c.deref-3.result.now ++ asked) c.is_within-within.result) (λ r. answer_data r ≡ target_answer w t) (λ r e. e ∙ is) c.place.ensures.answer

pub returns-clause-ok : goal.returns-clause-ok
returns-clause-ok c =
    let w = c.args.self.now in
    let t = target_view c.args.target in
    let fit : is_fit w t ≡ true = sym c.in_ok-fits.ensures ∙ c.if-not-fits.false in
    let there : list_all (is_present w.present) (sources_of t) ≡ true =
    ap (λ (x : WorldData). list_all (is_present x.present) (sources_of t)) (sym c.self.view_is) ∙ sym c.has_present_sources-present.ensures ∙ c.if-not-present.false in
    let all : declared_target_views c.deref.result.now ≡ linked_of w.targets =
    ap declared_target_views c.deref.ensures.value ∙ c.self.invariant.libraries ∙ ap (λ (x : WorldData). linked_of x.targets) c.self.view_is in
    let ns = c.in_ok-libraries.libraries.items in
    let libs : ns ≡ linked_libraries (linked_of w.targets) t = c.in_ok-libraries.ensures ∙ ap (λ x. linked_libraries x t) all in
    let es = target_edges w.surroundings (linked_of w.targets) ns t in
    let made : target_edges w.surroundings (linked_of w.targets) c.deref-2.result.now t ≡ es =
    ap (λ x. target_edges w.surroundings (linked_of w.targets) x t) c.deref-2.ensures.value in
    let held : are_writable es ≡ true = ap are_writable (sym made) ∙ sym c.in_ok-claims.ensures.writable ∙ c.if-not-writable.false in
    let asked = texts c.in_ok-claims.claims.asked.items in
    let paths : texts c.deref-3.result.now ++ asked ≡ outputs_of es = ap (λ os. texts os ++ asked) c.deref-3.ensures.value ∙ c.in_ok-claims.ensures.paths ∙ ap outputs_of made in
    let is : place_answer w (texts c.deref-3.result.now ++ asked) c.is_within-within.result ≡ target_answer w t =
    ap (λ p. place_answer w p c.is_within-within.result) (paths ∙ ap outputs_of (edges_are w t ns es libs refl))
    ∙ ap (λ b. place_answer w (outputs_of (edges_with w t)) b) c.is_within-within.ensures
    ∙ sym (answer_placed w t fit there (ap are_writable (sym (edges_are w t ns es libs refl)) ∙ held)) in
    subst (λ r. OnOk c.place.result (c.place.new.self ≡ after_answer r (with_target w t) w)) is c.place.ensures.ok

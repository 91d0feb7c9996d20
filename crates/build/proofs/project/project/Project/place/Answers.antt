use Rattle.std.proofs.Common.{◌≡◌, List, [], ◌∷◌, ◌++◌, length, Some, None, Ok, Err, sym, ap, ◌∙◌, subst, rules}
use Rattle.std.specs.Prelude.{◌&&◌, is_some, not, if◌then◌else◌}
use Rattle.std.proofs.lemmas.List.{length-map}
use Rattle.std.proofs.lemmas.Result.{IfOk-weaker}
use Rattle.build.specs.edge.Texts.{texts}
use Rattle.build.specs.Libraries.{DeclaredTargetData, declared_target, linked_of}
use Rattle.build.specs.DeclaredTargetViews.{declared_target_views}
use Rattle.build.specs.View.{surroundings_view, target_view}
use Rattle.build.specs.declared.declared_target.DeclaredTarget.{DeclaredTarget}
use Rattle.build.specs.project.Laws.{first_taken}
use Rattle.build.specs.project.World.{WorldData, taken_in}
use Rattle.build.specs.project.View.{world_of}
use Rattle.build.specs.project.NotesView.{notes_view}
use Rattle.build.specs.project.Whole.{IsWhole, IsNext, targets_in}
use Rattle.build.specs.project.Adding.{place_answer, with_target}
use Rattle.build.specs.project.Refused.{answer_data, refusal_for_text}
use Rattle.support.specs.declared.faults.refusal.Refusal.TheVariants.{Limit, Duplicate}
use Rattle.build.proofs.Placing.{whole_next, whole_same, free_is, place_ok, place_long, place_twice, placed_kept, placed_back}
use Rattle.build.proofs.Placing.{placed_twice, after_ok, after_err, on_ok, on_err, taken_off, told_none, told_path, world_with}
use Rattle.build.proofs.Reading.{asked_last, targets_are, views-push}
use Rattle.build.proofs.project.project.Project.place.Goals as goal

pub invariant_of-self-then-within : goal.invariant_of-self-then-within
invariant_of-self-then-within c =
    let s = surroundings_view c.self.inside.surroundings in
    let ls = declared_target_views c.self.inside.linked.items in
    let outputs = texts c.self.inside.outputs.items in
    let notes = notes_view c.self.inside.notes in
    let kept = texts c.self.inside.taken.keys in
    let now = texts c.claim.new.paths.keys in
    let l = declared_target (linked_of (targets_in ls)) (target_view c.args.one.target) in
    let ps = texts c.args.objects.now ++ texts c.args.one.paths.items in
    let given : texts c.args.objects.now ++ texts c.deref.result.now ≡ ps = ap (λ o. texts c.args.objects.now ++ o)
    (ap texts c.deref.ensures.value ∙ asked_last c.self.inside.linked.items c.push.new.self.items c.args.one c.index.result.now c.len-number.result c.in_ok-push.ensures.items (search rules) c.index.ensures) in
    let next = subst (λ (x : WorldData). IsNext x.surroundings x.targets x.outputs x.present (declared_target (linked_of x.targets) (target_view c.args.one.target)) ps) (sym c.self.view_is) c.requires in
    let pushed : declared_target_views c.push.new.self.items ≡ ls ++ l ∷ [] = ap declared_target_views c.in_ok-push.ensures.items ∙ views-push c.self.inside.linked.items c.args.one c.self.invariant.libraries in
    subst (λ (x : List DeclaredTargetData). IsWhole s x outputs notes.present now) (sym pushed)
    (whole_next s ls outputs notes.present kept now l ps c.self.invariant next (sym (told_none _ (c.in-Ok-None.ensures.tested ∙ ap (first_taken kept) given) c.in-Ok-None.field-0-is))
    (placed_kept kept ps now c.in-Ok-None.field-0 c.args.within (c.in-Ok-None.ensures.added ∙ ap (λ qs. if not (is_some c.in-Ok-None.field-0) && c.args.within then kept ++ qs else kept) given) c.in-Ok-None.field-0-is c.if-within.true))

pub invariant_of-self-else-within : goal.invariant_of-self-else-within
invariant_of-self-else-within c =
    let s = surroundings_view c.self.inside.surroundings in
    let ls = declared_target_views c.self.inside.linked.items in
    let outputs = texts c.self.inside.outputs.items in
    let notes = notes_view c.self.inside.notes in
    let kept = texts c.self.inside.taken.keys in
    let now = texts c.claim.new.paths.keys in
    let l = declared_target (linked_of (targets_in ls)) (target_view c.args.one.target) in
    let ps = texts c.args.objects.now ++ texts c.args.one.paths.items in
    let given : texts c.args.objects.now ++ texts c.deref.result.now ≡ ps = ap (λ o. texts c.args.objects.now ++ o)
    (ap texts c.deref.ensures.value ∙ asked_last c.self.inside.linked.items c.push.new.self.items c.args.one c.index.result.now c.len-number.result c.in_ok-push.ensures.items (search rules) c.index.ensures) in
    let back : declared_target_views c.truncate.new.self.items ≡ ls =
    ap declared_target_views (taken_off c.self.inside.linked.items c.push.new.self.items c.truncate.new.self.items c.args.one c.len-number.result c.in_ok-push.ensures.items (search rules) c.truncate.ensures.items) in
    whole_same s ls (declared_target_views c.truncate.new.self.items) outputs notes.present kept now c.self.invariant back
    (placed_back kept ps now c.in-Ok-None.field-0 c.args.within (c.in-Ok-None.ensures.added ∙ ap (λ qs. if not (is_some c.in-Ok-None.field-0) && c.args.within then kept ++ qs else kept) given) c.in-Ok-None.field-0-is c.if-within.false)

pub invariant_of-self-in-Ok-Some : goal.invariant_of-self-in-Ok-Some
invariant_of-self-in-Ok-Some c =
    let s = surroundings_view c.self.inside.surroundings in
    let ls = declared_target_views c.self.inside.linked.items in
    let outputs = texts c.self.inside.outputs.items in
    let notes = notes_view c.self.inside.notes in
    let kept = texts c.self.inside.taken.keys in
    let now = texts c.claim.new.paths.keys in
    let l = declared_target (linked_of (targets_in ls)) (target_view c.args.one.target) in
    let ps = texts c.args.objects.now ++ texts c.args.one.paths.items in
    let given : texts c.args.objects.now ++ texts c.deref.result.now ≡ ps = ap (λ o. texts c.args.objects.now ++ o)
    (ap texts c.deref.ensures.value ∙ asked_last c.self.inside.linked.items c.push.new.self.items c.args.one c.index.result.now c.len-number.result c.in_ok-push.ensures.items (search rules) c.index.ensures) in
    let back : declared_target_views c.truncate-in-Ok-Some.new.self.items ≡ ls =
    ap declared_target_views (taken_off c.self.inside.linked.items c.push.new.self.items c.truncate-in-Ok-Some.new.self.items c.args.one c.len-number.result c.in_ok-push.ensures.items (search rules) c.truncate-in-Ok-Some.ensures.items) in
    whole_same s ls (declared_target_views c.truncate-in-Ok-Some.new.self.items) outputs notes.present kept now c.self.invariant back
    (placed_twice kept ps now c.in-Ok-Some.field-0 c.args.within (c.in-Ok-Some.ensures.added ∙ ap (λ qs. if not (is_some c.in-Ok-Some.field-0) && c.args.within then kept ++ qs else kept) given) c.in-Ok-Some.field-0-is)

pub invariant_of-self-in-Err : goal.invariant_of-self-in-Err
invariant_of-self-in-Err c =
    let s = surroundings_view c.self.inside.surroundings in
    let ls = declared_target_views c.self.inside.linked.items in
    let outputs = texts c.self.inside.outputs.items in
    let notes = notes_view c.self.inside.notes in
    let kept = texts c.self.inside.taken.keys in
    let now = texts c.claim.new.paths.keys in
    let back : declared_target_views c.truncate-in-Err.new.self.items ≡ ls =
    ap declared_target_views (taken_off c.self.inside.linked.items c.push.new.self.items c.truncate-in-Err.new.self.items c.args.one c.len-number.result c.in_ok-push.ensures.items (search rules) c.truncate-in-Err.ensures.items) in
    whole_same s ls (declared_target_views c.truncate-in-Err.new.self.items) outputs notes.present kept now c.self.invariant back (ap texts c.in-Err.ensures.err)

pub returns-then-within-clause-answer : goal.returns-then-within-clause-answer
returns-then-within-clause-answer c =
    let s = surroundings_view c.self.inside.surroundings in
    let ls = declared_target_views c.self.inside.linked.items in
    let outputs = texts c.self.inside.outputs.items in
    let notes = notes_view c.self.inside.notes in
    let kept = texts c.self.inside.taken.keys in
    let l = declared_target (linked_of (targets_in ls)) (target_view c.args.one.target) in
    let ps = texts c.args.objects.now ++ texts c.args.one.paths.items in
    let given : texts c.args.objects.now ++ texts c.deref.result.now ≡ ps = ap (λ o. texts c.args.objects.now ++ o)
    (ap texts c.deref.ensures.value ∙ asked_last c.self.inside.linked.items c.push.new.self.items c.args.one c.index.result.now c.len-number.result c.in_ok-push.ensures.items (search rules) c.index.ensures) in
    let w = c.args.self.now in
    let free : first_taken (taken_in w) ps ≡ None =
    ap (λ (x : WorldData). first_taken (taken_in x) ps) (sym c.self.view_is) ∙ free_is s ls outputs notes.present kept ps None c.self.invariant (told_none _ (c.in-Ok-None.ensures.tested ∙ ap (first_taken kept) given) c.in-Ok-None.field-0-is) in
    let count : c.len-number.result ≡ length w.targets =
    let n : c.len-number.result ≡ length c.self.inside.linked.items = search rules in
    n ∙ sym (length-map c.self.inside.linked.items (λ (k : DeclaredTarget). target_view k.target)) ∙ ap length (sym (targets_are c.self.inside.linked.items)) ∙ ap (λ (x : WorldData). length x.targets) c.self.view_is in
    ap Ok count ∙ sym (place_ok w ps c.args.within free c.if-within.true)

pub returns-then-within-clause-ok : goal.returns-then-within-clause-ok
returns-then-within-clause-ok c =
    let s = surroundings_view c.self.inside.surroundings in
    let ls = declared_target_views c.self.inside.linked.items in
    let outputs = texts c.self.inside.outputs.items in
    let notes = notes_view c.self.inside.notes in
    let kept = texts c.self.inside.taken.keys in
    let l = declared_target (linked_of (targets_in ls)) (target_view c.args.one.target) in
    let ps = texts c.args.objects.now ++ texts c.args.one.paths.items in
    let given : texts c.args.objects.now ++ texts c.deref.result.now ≡ ps = ap (λ o. texts c.args.objects.now ++ o)
    (ap texts c.deref.ensures.value ∙ asked_last c.self.inside.linked.items c.push.new.self.items c.args.one c.index.result.now c.len-number.result c.in_ok-push.ensures.items (search rules) c.index.ensures) in
    let w = c.args.self.now in
    let free : first_taken (taken_in w) ps ≡ None =
    ap (λ (x : WorldData). first_taken (taken_in x) ps) (sym c.self.view_is) ∙ free_is s ls outputs notes.present kept ps None c.self.invariant (told_none _ (c.in-Ok-None.ensures.tested ∙ ap (first_taken kept) given) c.in-Ok-None.field-0-is) in
    let pushed : declared_target_views c.push.new.self.items ≡ ls ++ l ∷ [] = ap declared_target_views c.in_ok-push.ensures.items ∙ views-push c.self.inside.linked.items c.args.one c.self.invariant.libraries in
    ap (λ x. world_of s x outputs notes) pushed ∙ world_with s ls outputs notes l w c.self.view_is
    ∙ sym (after_ok (place_answer w ps c.args.within) (length w.targets) (with_target w l.target) w (place_ok w ps c.args.within free c.if-within.true))

pub returns-else-within-clause-answer : goal.returns-else-within-clause-answer
returns-else-within-clause-answer c =
    let s = surroundings_view c.self.inside.surroundings in
    let ls = declared_target_views c.self.inside.linked.items in
    let outputs = texts c.self.inside.outputs.items in
    let notes = notes_view c.self.inside.notes in
    let kept = texts c.self.inside.taken.keys in
    let l = declared_target (linked_of (targets_in ls)) (target_view c.args.one.target) in
    let ps = texts c.args.objects.now ++ texts c.args.one.paths.items in
    let given : texts c.args.objects.now ++ texts c.deref.result.now ≡ ps = ap (λ o. texts c.args.objects.now ++ o)
    (ap texts c.deref.ensures.value ∙ asked_last c.self.inside.linked.items c.push.new.self.items c.args.one c.index.result.now c.len-number.result c.in_ok-push.ensures.items (search rules) c.index.ensures) in
    let w = c.args.self.now in
    let free : first_taken (taken_in w) ps ≡ None =
    ap (λ (x : WorldData). first_taken (taken_in x) ps) (sym c.self.view_is) ∙ free_is s ls outputs notes.present kept ps None c.self.invariant (told_none _ (c.in-Ok-None.ensures.tested ∙ ap (first_taken kept) given) c.in-Ok-None.field-0-is) in
    IfOk-weaker c.refuse.result (λ r. answer_data r ≡ Err (refusal_for_text Limit [])) (λ r. answer_data r ≡ place_answer w ps c.args.within)
    (λ r e. e ∙ sym (place_long w ps c.args.within free c.if-within.false)) c.refuse.ensures

pub returns-else-within-clause-ok : goal.returns-else-within-clause-ok
returns-else-within-clause-ok c =
    let s = surroundings_view c.self.inside.surroundings in
    let ls = declared_target_views c.self.inside.linked.items in
    let outputs = texts c.self.inside.outputs.items in
    let notes = notes_view c.self.inside.notes in
    let kept = texts c.self.inside.taken.keys in
    let l = declared_target (linked_of (targets_in ls)) (target_view c.args.one.target) in
    let ps = texts c.args.objects.now ++ texts c.args.one.paths.items in
    let given : texts c.args.objects.now ++ texts c.deref.result.now ≡ ps = ap (λ o. texts c.args.objects.now ++ o)
    (ap texts c.deref.ensures.value ∙ asked_last c.self.inside.linked.items c.push.new.self.items c.args.one c.index.result.now c.len-number.result c.in_ok-push.ensures.items (search rules) c.index.ensures) in
    let w = c.args.self.now in
    let free : first_taken (taken_in w) ps ≡ None =
    ap (λ (x : WorldData). first_taken (taken_in x) ps) (sym c.self.view_is) ∙ free_is s ls outputs notes.present kept ps None c.self.invariant (told_none _ (c.in-Ok-None.ensures.tested ∙ ap (first_taken kept) given) c.in-Ok-None.field-0-is) in
    let back : declared_target_views c.truncate.new.self.items ≡ ls =
    ap declared_target_views (taken_off c.self.inside.linked.items c.push.new.self.items c.truncate.new.self.items c.args.one c.len-number.result c.in_ok-push.ensures.items (search rules) c.truncate.ensures.items) in
    on_ok c.refuse.result (ap (λ x. world_of s x outputs notes) back ∙ c.self.view_is
    ∙ sym (after_err (place_answer w ps c.args.within) (refusal_for_text Limit []) (with_target w l.target) w (place_long w ps c.args.within free c.if-within.false)))

pub returns-in-Ok-Some-clause-answer : goal.returns-in-Ok-Some-clause-answer
returns-in-Ok-Some-clause-answer c =
    let s = surroundings_view c.self.inside.surroundings in
    let ls = declared_target_views c.self.inside.linked.items in
    let outputs = texts c.self.inside.outputs.items in
    let notes = notes_view c.self.inside.notes in
    let kept = texts c.self.inside.taken.keys in
    let l = declared_target (linked_of (targets_in ls)) (target_view c.args.one.target) in
    let ps = texts c.args.objects.now ++ texts c.args.one.paths.items in
    let given : texts c.args.objects.now ++ texts c.deref.result.now ≡ ps = ap (λ o. texts c.args.objects.now ++ o)
    (ap texts c.deref.ensures.value ∙ asked_last c.self.inside.linked.items c.push.new.self.items c.args.one c.index.result.now c.len-number.result c.in_ok-push.ensures.items (search rules) c.index.ensures) in
    let w = c.args.self.now in
    let free : first_taken (taken_in w) ps ≡ Some c.in-Ok-Some.path.now =
    ap (λ (x : WorldData). first_taken (taken_in x) ps) (sym c.self.view_is) ∙ free_is s ls outputs notes.present kept ps (Some c.in-Ok-Some.path.now) c.self.invariant (told_path _ (c.in-Ok-Some.ensures.tested ∙ ap (first_taken kept) given) c.in-Ok-Some.field-0-is) in
    IfOk-weaker c.refuse-answer.result (λ r. answer_data r ≡ Err (refusal_for_text Duplicate c.in-Ok-Some.path.now)) (λ r. answer_data r ≡ place_answer w ps c.args.within)
    (λ r e. e ∙ sym (place_twice w ps c.args.within c.in-Ok-Some.path.now free)) c.refuse-answer.ensures

pub returns-in-Ok-Some-clause-ok : goal.returns-in-Ok-Some-clause-ok
returns-in-Ok-Some-clause-ok c =
    let s = surroundings_view c.self.inside.surroundings in
    let ls = declared_target_views c.self.inside.linked.items in
    let outputs = texts c.self.inside.outputs.items in
    let notes = notes_view c.self.inside.notes in
    let kept = texts c.self.inside.taken.keys in
    let l = declared_target (linked_of (targets_in ls)) (target_view c.args.one.target) in
    let ps = texts c.args.objects.now ++ texts c.args.one.paths.items in
    let given : texts c.args.objects.now ++ texts c.deref.result.now ≡ ps = ap (λ o. texts c.args.objects.now ++ o)
    (ap texts c.deref.ensures.value ∙ asked_last c.self.inside.linked.items c.push.new.self.items c.args.one c.index.result.now c.len-number.result c.in_ok-push.ensures.items (search rules) c.index.ensures) in
    let w = c.args.self.now in
    let free : first_taken (taken_in w) ps ≡ Some c.in-Ok-Some.path.now =
    ap (λ (x : WorldData). first_taken (taken_in x) ps) (sym c.self.view_is) ∙ free_is s ls outputs notes.present kept ps (Some c.in-Ok-Some.path.now) c.self.invariant (told_path _ (c.in-Ok-Some.ensures.tested ∙ ap (first_taken kept) given) c.in-Ok-Some.field-0-is) in
    let back : declared_target_views c.truncate-in-Ok-Some.new.self.items ≡ ls =
    ap declared_target_views (taken_off c.self.inside.linked.items c.push.new.self.items c.truncate-in-Ok-Some.new.self.items c.args.one c.len-number.result c.in_ok-push.ensures.items (search rules) c.truncate-in-Ok-Some.ensures.items) in
    on_ok c.refuse-answer.result (ap (λ x. world_of s x outputs notes) back ∙ c.self.view_is
    ∙ sym (after_err (place_answer w ps c.args.within) (refusal_for_text Duplicate c.in-Ok-Some.path.now) (with_target w l.target) w (place_twice w ps c.args.within c.in-Ok-Some.path.now free)))

pub returns-then-within-clause-err : goal.returns-then-within-clause-err
returns-then-within-clause-err c = tt

pub returns-else-within-clause-err : goal.returns-else-within-clause-err
returns-else-within-clause-err c =
    let s = surroundings_view c.self.inside.surroundings in
    let ls = declared_target_views c.self.inside.linked.items in
    let outputs = texts c.self.inside.outputs.items in
    let notes = notes_view c.self.inside.notes in
    let back : declared_target_views c.truncate.new.self.items ≡ ls =
    ap declared_target_views (taken_off c.self.inside.linked.items c.push.new.self.items c.truncate.new.self.items c.args.one c.len-number.result c.in_ok-push.ensures.items (search rules) c.truncate.ensures.items) in
    on_err c.refuse.result (ap (λ x. world_of s x outputs notes) back ∙ c.self.view_is)

pub returns-in-Ok-Some-clause-err : goal.returns-in-Ok-Some-clause-err
returns-in-Ok-Some-clause-err c =
    let s = surroundings_view c.self.inside.surroundings in
    let ls = declared_target_views c.self.inside.linked.items in
    let outputs = texts c.self.inside.outputs.items in
    let notes = notes_view c.self.inside.notes in
    let back : declared_target_views c.truncate-in-Ok-Some.new.self.items ≡ ls =
    ap declared_target_views (taken_off c.self.inside.linked.items c.push.new.self.items c.truncate-in-Ok-Some.new.self.items c.args.one c.len-number.result c.in_ok-push.ensures.items (search rules) c.truncate-in-Ok-Some.ensures.items) in
    on_err c.refuse-answer.result (ap (λ x. world_of s x outputs notes) back ∙ c.self.view_is)

pub returns-in-Err-clause-answer : goal.returns-in-Err-clause-answer
returns-in-Err-clause-answer c = tt

pub returns-in-Err-clause-ok : goal.returns-in-Err-clause-ok
returns-in-Err-clause-ok c = tt

pub returns-in-Err-clause-err : goal.returns-in-Err-clause-err
returns-in-Err-clause-err c =
    let s = surroundings_view c.self.inside.surroundings in
    let ls = declared_target_views c.self.inside.linked.items in
    let outputs = texts c.self.inside.outputs.items in
    let notes = notes_view c.self.inside.notes in
    let back : declared_target_views c.truncate-in-Err.new.self.items ≡ ls =
    ap declared_target_views (taken_off c.self.inside.linked.items c.push.new.self.items c.truncate-in-Err.new.self.items c.args.one c.len-number.result c.in_ok-push.ensures.items (search rules) c.truncate-in-Err.ensures.items) in
    (ap (λ x. world_of s x outputs notes) back ∙ c.self.view_is)

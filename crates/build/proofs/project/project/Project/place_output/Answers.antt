use Rattle.std.proofs.Common.{◌≡◌, true, List, [], ◌∷◌, ◌++◌, Some, Ok, string_bytes, refl, sym, ap, ◌∙◌, subst, rules}
use Rattle.std.proofs.lemmas.List.{map-append}
use Rattle.build.specs.edge.Texts.{Path, texts}
use Rattle.build.specs.DeclaredTargetViews.{declared_target_views}
use Rattle.build.specs.View.{surroundings_view}
use Rattle.build.specs.project.Laws.{first_taken}
use Rattle.build.specs.project.World.{WorldData, taken_in}
use Rattle.build.specs.project.View.{world_of}
use Rattle.build.specs.project.Adding.{after_answer, unless_taken, with_output}
use Rattle.build.specs.project.NotesView.{notes_view}
use Rattle.build.specs.project.Whole.{IsWhole}
use Rattle.build.proofs.Placing.{whole_with_output, whole_back, placed_kept, placed_twice, told_none, told_path, free_is, on_ok, on_err, taken_off}
use Rattle.build.proofs.project.project.Project.place_output.Goals as goal

pub invariant_of-self-in-Ok-None : goal.invariant_of-self-in-Ok-None
invariant_of-self-in-Ok-None c =
    let s = surroundings_view c.self.inside.surroundings in
    let ls = declared_target_views c.self.inside.linked.items in
    let outputs = texts c.self.inside.outputs.items in
    let present = (notes_view c.self.inside.notes).present in
    let kept = texts c.self.inside.taken.keys in
    let now = texts c.claim.new.paths.keys in
    let p = string_bytes c.args.path in
    let own : string_bytes c.in_ok-clone.field-0 ≡ p = c.in_ok-clone.ensures.cases in
    let pushed : texts c.push.new.self.items ≡ outputs ++ p ∷ [] = ap texts c.in_ok-push.ensures.items ∙ map-append string_bytes c.self.inside.outputs.items (c.args.path ∷ []) in
    subst (λ (x : List Path). IsWhole s ls x present now) (sym pushed)
    (whole_with_output s ls outputs present kept now p c.self.invariant c.requires
    (ap (λ q. first_taken kept (q ∷ [])) (sym own) ∙ sym (told_none _ c.in-Ok-None.ensures.tested c.in-Ok-None.field-0-is))
    (placed_kept kept (string_bytes c.in_ok-clone.field-0 ∷ []) now c.in-Ok-None.field-0 true c.in-Ok-None.ensures.added c.in-Ok-None.field-0-is refl ∙ ap (λ q. kept ++ q ∷ []) own))

pub invariant_of-self-in-Ok-Some : goal.invariant_of-self-in-Ok-Some
invariant_of-self-in-Ok-Some c =
    let s = surroundings_view c.self.inside.surroundings in
    let ls = declared_target_views c.self.inside.linked.items in
    let outputs = texts c.self.inside.outputs.items in
    let kept = texts c.self.inside.taken.keys in
    let now = texts c.claim.new.paths.keys in
    let back : c.truncate.new.self.items ≡ c.self.inside.outputs.items =
    taken_off c.self.inside.outputs.items c.push.new.self.items c.truncate.new.self.items c.args.path c.len-number.result c.in_ok-push.ensures.items (search rules) c.truncate.ensures.items in
    whole_back s ls outputs (texts c.truncate.new.self.items) (notes_view c.self.inside.notes).present kept now c.self.invariant (ap texts back)
    (placed_twice kept (string_bytes c.in_ok-clone.field-0 ∷ []) now c.in-Ok-Some.field-0 true c.in-Ok-Some.ensures.added c.in-Ok-Some.field-0-is)

pub invariant_of-self-in-Err : goal.invariant_of-self-in-Err
invariant_of-self-in-Err c =
    let s = surroundings_view c.self.inside.surroundings in
    let ls = declared_target_views c.self.inside.linked.items in
    let outputs = texts c.self.inside.outputs.items in
    let kept = texts c.self.inside.taken.keys in
    let now = texts c.claim.new.paths.keys in
    let back : c.truncate-in-Err.new.self.items ≡ c.self.inside.outputs.items =
    taken_off c.self.inside.outputs.items c.push.new.self.items c.truncate-in-Err.new.self.items c.args.path c.len-number.result c.in_ok-push.ensures.items (search rules) c.truncate-in-Err.ensures.items in
    whole_back s ls outputs (texts c.truncate-in-Err.new.self.items) (notes_view c.self.inside.notes).present kept now c.self.invariant (ap texts back) (ap texts c.in-Err.ensures.err)

pub returns-in-Ok-Some-clause-ok : goal.returns-in-Ok-Some-clause-ok
returns-in-Ok-Some-clause-ok c =
    let s = surroundings_view c.self.inside.surroundings in
    let ls = declared_target_views c.self.inside.linked.items in
    let outputs = texts c.self.inside.outputs.items in
    let notes = notes_view c.self.inside.notes in
    let kept = texts c.self.inside.taken.keys in
    let w = c.args.self.now in
    let p = string_bytes c.args.path in
    let path = c.in-Ok-Some.path.now in
    let own : string_bytes c.in_ok-clone.field-0 ≡ p = c.in_ok-clone.ensures.cases in
    let told : Some path ≡ first_taken kept (p ∷ []) = told_path _ c.in-Ok-Some.ensures.tested c.in-Ok-Some.field-0-is ∙ ap (λ q. first_taken kept (q ∷ [])) own in
    let twice : first_taken (taken_in w) (p ∷ []) ≡ Some path =
    ap (λ (x : WorldData). first_taken (taken_in x) (p ∷ [])) (sym c.self.view_is) ∙ free_is s ls outputs notes.present kept (p ∷ []) (Some path) c.self.invariant told in
    let is : c.truncate.new.self.items ≡ c.self.inside.outputs.items =
    taken_off c.self.inside.outputs.items c.push.new.self.items c.truncate.new.self.items c.args.path c.len-number.result c.in_ok-push.ensures.items (search rules) c.truncate.ensures.items in
    on_ok c.refuse.result (ap (λ x. world_of s ls (texts x) notes) is ∙ c.self.view_is
    ∙ sym (ap (λ o. after_answer (unless_taken o (Ok tt)) (with_output w p) w) twice))

pub returns-in_err-clone-clause-answer : goal.returns-in_err-clone-clause-answer
returns-in_err-clone-clause-answer c = search rules

pub returns-in_err-clone-clause-ok : goal.returns-in_err-clone-clause-ok
returns-in_err-clone-clause-ok c = search rules

pub returns-in_err-clone-clause-err : goal.returns-in_err-clone-clause-err
returns-in_err-clone-clause-err c = search rules

pub invariant_of-self : goal.invariant_of-self
invariant_of-self c = search rules

pub returns-in_err-push-clause-answer : goal.returns-in_err-push-clause-answer
returns-in_err-push-clause-answer c = search rules

pub returns-in_err-push-clause-ok : goal.returns-in_err-push-clause-ok
returns-in_err-push-clause-ok c = search rules

pub returns-in_err-push-clause-err : goal.returns-in_err-push-clause-err
returns-in_err-push-clause-err c = search rules

pub returns-in-Ok-None-clause-answer : goal.returns-in-Ok-None-clause-answer
returns-in-Ok-None-clause-answer c = search rules

pub returns-in-Ok-None-clause-err : goal.returns-in-Ok-None-clause-err
returns-in-Ok-None-clause-err c = search rules

pub returns-in-Ok-Some-clause-answer : goal.returns-in-Ok-Some-clause-answer
returns-in-Ok-Some-clause-answer c = search rules

pub returns-clause-answer : goal.returns-clause-answer
returns-clause-answer c = search rules

pub returns-clause-ok : goal.returns-clause-ok
returns-clause-ok c = search rules

pub returns-in-Ok-Some-clause-err : goal.returns-in-Ok-Some-clause-err
returns-in-Ok-Some-clause-err c =
    let s = surroundings_view c.self.inside.surroundings in
    let ls = declared_target_views c.self.inside.linked.items in
    let notes = notes_view c.self.inside.notes in
    let is : c.truncate.new.self.items ≡ c.self.inside.outputs.items =
    taken_off c.self.inside.outputs.items c.push.new.self.items c.truncate.new.self.items c.args.path c.len-number.result c.in_ok-push.ensures.items (search rules) c.truncate.ensures.items in
    on_err c.refuse.result (ap (λ x. world_of s ls (texts x) notes) is ∙ c.self.view_is)

pub returns-clause-err : goal.returns-clause-err
returns-clause-err c =
    let s = surroundings_view c.self.inside.surroundings in
    let ls = declared_target_views c.self.inside.linked.items in
    let notes = notes_view c.self.inside.notes in
    let is : c.truncate-in-Err.new.self.items ≡ c.self.inside.outputs.items =
    taken_off c.self.inside.outputs.items c.push.new.self.items c.truncate-in-Err.new.self.items c.args.path c.len-number.result c.in_ok-push.ensures.items (search rules) c.truncate-in-Err.ensures.items in
    ap (λ x. world_of s ls (texts x) notes) is ∙ c.self.view_is

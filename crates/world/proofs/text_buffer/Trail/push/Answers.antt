use Rattle.std.proofs.Common.{[], ◌∷◌, ◌++◌, string_bytes, ap, ◌∙◌}
use Rattle.world.specs.Trail.{are_within, pieces}
use Rattle.world.proofs.Trails.{are_within-longer, are_within-more, last, pieces-more}
use Rattle.world.proofs.text_buffer.Trail.push.Goals as goal

pub invariant_of-self-in_err-push : goal.invariant_of-self-in_err-push
invariant_of-self-in_err-push c =
    let whole = string_bytes c.self.inside.whole in
    let spans = c.self.inside.spans.items in
    ap (are_within (string_bytes c.push_str.new.self)) c.in_err-push.ensures.items
    ∙ ap (λ w. are_within w spans) c.in_ok-push_str.ensures.bytes ∙ are_within-longer whole c.args.text.now spans c.self.invariant

pub invariant_of-self-2 : goal.invariant_of-self-2
invariant_of-self-2 c =
    let whole = string_bytes c.self.inside.whole in
    let spans = c.self.inside.spans.items in
    ap (are_within (string_bytes c.push_str.new.self)) (c.in_ok-push.ensures.items ∙ ap (λ w. spans ++ last w c.args.text.now ∷ []) c.as_str-from.ensures.value)
    ∙ ap (λ w. are_within w (spans ++ last whole c.args.text.now ∷ [])) c.in_ok-push_str.ensures.bytes ∙ are_within-more whole c.args.text.now spans c.self.invariant

pub returns : goal.returns
returns c =
    let whole = string_bytes c.self.inside.whole in
    let spans = c.self.inside.spans.items in
    ap (pieces (string_bytes c.push_str.new.self)) (c.in_ok-push.ensures.items ∙ ap (λ w. spans ++ last w c.args.text.now ∷ []) c.as_str-from.ensures.value)
    ∙ ap (λ w. pieces w (spans ++ last whole c.args.text.now ∷ [])) c.in_ok-push_str.ensures.bytes ∙ pieces-more whole c.args.text.now spans c.self.invariant
    ∙ ap (λ v. v ++ c.args.text.now ∷ []) c.self.view_is

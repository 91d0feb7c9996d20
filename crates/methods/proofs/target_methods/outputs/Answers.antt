use Rattle.std.proofs.Common.{◌+◌, ◌-◌, refl, sym, ap, ◌∙◌}
use Rattle.values.specs.Data.{item, items_append, no_items, object}
use Rattle.values.specs.View.{items_of}
use Rattle.values.specs.declared.object.Object.TheVariants as objects
use Rattle.values.proofs.ItemsLemmas.{items_append_assoc, items_append_none, items_of-push}
use Rattle.methods.specs.Targets.{outputs_from}
use Rattle.methods.proofs.Outputs.{first_of, none_of}
use Rattle.methods.proofs.target_methods.outputs.Goals as goal

pub loop-output-preserved : goal.loop-output-preserved
loop-output-preserved c =
    let l = c.loop-output in
    let before = items_of l.outputs.items in
    let rest = outputs_from c.args.target (c.args.count - (l.output + 1)) (l.output + 1) in
    ap (λ ds. items_append ds rest) (items_of-push l.outputs.items _ _ before c.in_ok-push.ensures.items refl
    ∙ ap (λ d. items_append before (item d no_items)) c.in_ok-of_object.ensures)
    ∙ items_append_assoc before (item (object (objects.CustomOutput c.args.target l.output)) no_items) rest
    ∙ ap (items_append before) (sym (first_of c.args.target c.args.count l.output c.loop-output-test.true))
    ∙ l.invariant

pub returns : goal.returns
returns c =
    let l = c.loop-output in
    let before = items_of l.outputs.items in
    sym (items_append_none before) ∙ ap (items_append before) (sym (none_of c.args.target c.args.count l.output c.loop-output-test.false)) ∙ l.invariant

use Rattle.std.proofs.Common.{◌≡◌, Some, true, false, refl, sym, ap, ◌∙◌}
use Rattle.std.specs.Prelude.{if◌then◌else◌}
use Rattle.arguments.specs.Given.{text_or_none}
use Rattle.values.specs.Data.{item, items_append, no_items}
use Rattle.values.specs.View.{data_of, items_of}
use Rattle.values.proofs.ItemsLemmas.{items_append_none, items_of-push}
use Rattle.machine_file.specs.Questions.{answer_to}
use Rattle.machine_file.specs.View.{machine_in}
use Rattle.methods.specs.CompilerSaid.{argument_topic, is_true}
use Rattle.methods.proofs.compiler.dispatch.keep.Goals as goal

pub returns-in_ok-push : goal.returns-in_ok-push
returns-in_ok-push c =
    let before = items_of c.args.taken.now.items in
    let d = data_of c.args.value.now in
    let same : data_of c.in_ok-clone.field-0 ≡ d = c.in_ok-clone.ensures.cases in
    let yes : is_true (answer_to (machine_in c.args.machine.now) (argument_topic (text_or_none (Some d)))) ≡ true =
    sym c.in_ok-is_supported.ensures ∙ c.if-branch.true in
    items_of-push c.args.taken.now.items _ _ before c.in_ok-push.ensures.items refl ∙ ap (λ e. items_append before (item e no_items)) same
    ∙ ap (λ b. items_append before (if b then item d no_items else no_items)) (sym yes)

pub returns-else-branch : goal.returns-else-branch
returns-else-branch c =
    let before = items_of c.args.taken.now.items in
    let d = data_of c.args.value.now in
    let no : is_true (answer_to (machine_in c.args.machine.now) (argument_topic (text_or_none (Some d)))) ≡ false =
    sym c.in_ok-is_supported.ensures ∙ c.if-branch.false in
    sym (items_append_none before) ∙ ap (λ b. items_append before (if b then item d no_items else no_items)) (sym no)

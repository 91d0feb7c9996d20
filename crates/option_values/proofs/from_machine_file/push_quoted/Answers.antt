use Rattle.std.proofs.Common.{◌∙◌, ◌++◌, get_or, rules, ap, string_bytes}
use Rattle.std.specs.Prelude.{codes}
use Rattle.option_values.proofs.OptionValuesItems.{printed_more}
use Rattle.option_values.proofs.from_machine_file.push_quoted.Goals as goal

pub loop-item-preserved : goal.loop-item-preserved
loop-item-preserved c =
    let item = get_or c.args.items.now c.loop-item.item-index c.item-item.result in (
      search rules,
      printed_more c.args.items.now (string_bytes c.loop-item.text) _ c.loop-item.separator.now _ c.item-item.result c.loop-item.item-index
          c.loop-item-test.true c.loop-item.invariant.1
          (c.in_ok-push_str-4.ensures.bytes
          ∙ ap (λ t. t ++ codes "'")
          (c.in_ok-push_str-3.ensures.bytes
          ∙ ap (λ x. string_bytes c.push_str-in-loop-item.new.self ++ x) (c.as_str.ensures.value ∙ ap string_bytes c.item-item.is)
          ∙ ap (λ t. t ++ string_bytes item) (c.in_ok-push_str-2.ensures.bytes ∙ ap (λ t. t ++ codes "'") c.in_ok-push_str.ensures.bytes))),
    )

use Rattle.std.proofs.Common.{ap, ◌∙◌}
use Rattle.project_calls.specs.Flags.{level_of}
use Rattle.project_calls.proofs.flags.flags_of.Goals as goal

pub returns : goal.returns
returns c = λ i. record {
  warning_level = (c.level_of.ensures ∙ ap level_of c.text_of.ensures) i;
  is_werror = c.is_set.ensures i;
  c_std = (c.in_ok-from_str.ensures.ok ∙ c.text_of-2.ensures) i;
  optimization = (c.in_ok-from_str-2.ensures.ok ∙ c.text_of-3.ensures) i;
  is_debug = c.is_set-2.ensures i;
  c_args = (c.in_ok-copies.ensures ∙ c.items_of.ensures) i;
  c_link_args = (c.in_ok-copies-2.ensures ∙ c.items_of-2.ensures) i;
}

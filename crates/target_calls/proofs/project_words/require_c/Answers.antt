use Rattle.std.proofs.Common.{codes, map, string_bytes, ap, ◌∙◌}
use Rattle.arguments.specs.declared.rule.Rule.TheVariants as rules
use Rattle.world.specs.Ruled.{obeyed_rule}
use Rattle.world.proofs.Answering.{carries_as, carries_none}
use Rattle.target_calls.specs.ProjectWords.{are_c, required_c}
use Rattle.target_calls.proofs.project_words.require_c.Goals as goal

pub returns-in_err-languages : goal.returns-in_err-languages
returns-in_err-languages g c = carries_none c.from_residual.ensures.1

pub returns : goal.returns
unfolding required_c
returns g c =
    let is_so = c.are_c-is_so.ensures ∙ ap (λ ls. are_c (map string_bytes ls)) c.deref.ensures.value ∙ ap are_c c.in_ok-languages.ensures in
    carries_as (ap (λ b. obeyed_rule b rules.TakesC (codes "language")) is_so) c.obey.ensures

use Rattle.std.proofs.Common.{arith}
use Rattle.std.proofs.lemmas.Grind.{common_steps}
use Rattle.template.proofs.Settings.{quoting_other}
use Rattle.template.specs.Config.{double_quoted_text, escaped_quotes}
use Rattle.template.proofs.config.make_quoted.Goals as goal

pub loop-c-preserved : goal.loop-c-preserved
loop-c-preserved c = quoting_other _ _ _ _ _ c.in-Some.c c.loop-c.invariant c.in-Some.ensures.steps.0 c.if-c-eq34.false c.in_ok-push.ensures.bytes

pub loop-c-init : goal.loop-c-init
loop-c-init c = grind (arith, common_steps)

pub loop-c-preserved-in-Continue-branch-2 : goal.loop-c-preserved-in-Continue-branch-2
unfolding double_quoted_text escaped_quotes
loop-c-preserved-in-Continue-branch-2 c = grind (arith, common_steps)

pub returns : goal.returns
unfolding double_quoted_text escaped_quotes
returns c = grind (arith, common_steps)

use Rattle.std.proofs.Common.{◌≡◌, ℕ, ◌<◌, true, nat_lt, ap, ◌∙◌, arith}
use Rattle.std.proofs.lemmas.Bool.Decides.{nat_tests}
use Rattle.std.proofs.lemmas.Grind.{common_steps}
use Rattle.options.specs.Verdicts.{Entry}
use Rattle.project_calls.proofs.Entries.{defaults_more}
use Rattle.project_calls.proofs.defaults.defaults.Goals as goal

there : (i n : ℕ) → true ≡ nat_lt i n → i < n
there i n e = grind (arith, nat_tests)

pub loop-i-preserved : goal.loop-i-preserved
loop-i-preserved c =
    defaults_more c.loop-i.defaults.items c.push-in-loop-i.new.self.items _ c.args.keys.now c.args.printed.now c.loop-i.i c.index-keys-i.result c.in-Some.value.now _
    c.loop-i-test.true c.index-keys-i.is (there _ _ c.in-Some.ensures.lookup.0) c.in-Some.ensures.lookup.1 (ap (λ k. Entry k c.as_str-in-loop-i-2.result.now) c.as_str-in-loop-i.ensures.text ∙ ap (Entry c.index-keys-i.result) c.as_str-in-loop-i-2.ensures.value)
    c.in_ok-push-2.ensures.items c.loop-i.invariant

pub loop-text-init : goal.loop-text-init
loop-text-init c = grind (arith, common_steps)

pub loop-text-preserved : goal.loop-text-preserved
loop-text-preserved c = grind (arith, common_steps)

pub loop-i-init : goal.loop-i-init
loop-i-init c = grind (arith, common_steps)

pub returns-in_default : goal.returns-in_default
returns-in_default c = grind (arith, common_steps)

pub returns : goal.returns
returns c = grind (arith, common_steps)

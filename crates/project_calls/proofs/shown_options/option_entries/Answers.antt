use Rattle.std.proofs.Common.{arith}
use Rattle.option_values.specs.SettingsView.{options_in}
use Rattle.project_calls.proofs.Listed.{is_listed, listed_more}
use Rattle.project_calls.proofs.shown_options.option_entries.Goals as goal

pub loop-i-preserved : goal.loop-i-preserved
loop-i-preserved c = listed_more _ _ (options_in c.args.options.now) c.loop-i.i _ c.in_ok-push.ensures.items c.in_ok-entry_of.ensures c.loop-i.invariant c.in-Some.ensures

pub returns-in_default : goal.returns-in_default
returns-in_default c = is_listed (options_in c.args.options.now) c.loop-i.i c.in_default.ensures (omega arith)

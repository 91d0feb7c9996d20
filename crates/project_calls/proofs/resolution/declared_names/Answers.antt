use Rattle.std.proofs.Common.{arith}
use Rattle.options.specs.option_file.View.{options_in}
use Rattle.options.proofs.Folds.{is_there}
use Rattle.project_calls.proofs.Listed.{named_more}
use Rattle.project_calls.proofs.resolution.declared_names.Goals as goal

pub loop-i-preserved : goal.loop-i-preserved
loop-i-preserved c =
    named_more _ _ (options_in c.args.declared.now) c.loop-i.i _ c.in_ok-push.ensures.items
    c.in_ok-from_str.ensures.ok c.loop-i.invariant c.in-Some.ensures

pub returns-in_default : goal.returns-in_default
returns-in_default c = is_there (options_in c.args.declared.now) c.loop-i.i c.in_default.ensures (omega arith)

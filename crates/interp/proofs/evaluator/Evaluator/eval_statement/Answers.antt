use Rattle.interp.proofs.Coming.{comes_rule}
use Rattle.interp.proofs.evaluator.Evaluator.eval_statement.Goals as goal

pub returns-clause-gives : goal.returns-clause-gives
returns-clause-gives g c = λ files left ts hold reads.
    comes_rule c.eval_links_or_node-answer.result c.end_rule_inside.new.answer c.end_rule_inside.ensures.ends (c.eval_links_or_node-answer.ensures.gives files left ts hold reads)

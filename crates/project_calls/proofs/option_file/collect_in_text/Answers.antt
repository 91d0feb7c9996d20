use Rattle.std.proofs.Common.{◌≡◌, Err, refl, subst}
use Rattle.syntax.specs.Parsed.{parsed_file}
use Rattle.syntax.specs.Tree.{file_of}
use Rattle.syntax.specs.lexer.Answers.{Refuses}
use Rattle.world.proofs.Answering.{carries_none}
use Rattle.project_calls.proofs.SpelledOptions.{carries_spelled, carries_unspelled}
use Rattle.project_calls.proofs.option_file.collect_in_text.Goals as goal

pub returns-in-Ok : goal.returns-in-Ok
returns-in-Ok g c = carries_spelled c.args.text.now (file_of c.in-Ok.file) c.in-Ok.ensures.reads c.collect_in_file.ensures

pub returns-in-Err-Memory : goal.returns-in-Err-Memory
returns-in-Err-Memory g c = carries_none refl

pub returns-in-Err-Fault : goal.returns-in-Err-Fault
returns-in-Err-Fault g c =
    let reads : parsed_file c.args.text.now ≡ Err c.in-Err-Fault.fault = subst (λ e. Refuses e (parsed_file c.args.text.now)) c.in-Err-Fault.field-0-is c.in-Err-Fault.ensures.reads in
    carries_unspelled c.args.text.now c.in-Err-Fault.fault c.refusal_of.result c.refuse.result reads c.refusal_of.ensures c.at.ensures.world c.at.ensures.names c.refuse.ensures

use Rattle.machine_file.proofs.Saying.{read_answers, read_only}
use Rattle.machine_file.proofs.machine.Machine.read_bytes.Goals as goal

pub returns-clause-answer : goal.returns-clause-answer
returns-clause-answer c =
    read_answers c.args.bytes.now c.in-Ok.text.now c.read_lines.result c.in-Ok.ensures.cases c.read_lines.ensures

pub returns-clause-only : goal.returns-clause-only
returns-clause-only c =
    read_only c.args.bytes.now c.in-Ok.text.now c.read_lines.result c.in-Ok.ensures.cases c.read_lines.ensures

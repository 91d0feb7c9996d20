use Rattle.configuration_calls.proofs.Filling.{written_short, written_whole}
use Rattle.configuration_calls.proofs.Telling.{still_open}
use Rattle.configuration_calls.proofs.output_file.fill_template.Goals as goal

pub pass-requires : goal.pass-requires
pass-requires g c = record { tree = c.requires.room.tree; out = c.requires.open; line_len = c.requires.line }

pub returns-in-Ok-clause-acts : goal.returns-in-Ok-clause-acts
returns-in-Ok-clause-acts g c =
    let e = c.in-Ok.ensures in
    written_whole c.args.values.now.entries c.args.template.now e.events e.fault e.stays e.failures

pub returns-in-Ok-clause-open : goal.returns-in-Ok-clause-open
returns-in-Ok-clause-open g c = still_open c.requires.open c.in-Ok.ensures.name c.in-Ok.ensures.failures.1

pub returns-in-Err-clause-acts : goal.returns-in-Err-clause-acts
returns-in-Err-clause-acts g c =
    let e = c.in-Err.ensures in
    written_short c.args.values.now.entries c.args.template.now c.in-Err.stop c.stop_for.result c.stop_for.ensures e.events e.fault e.stays e.failures

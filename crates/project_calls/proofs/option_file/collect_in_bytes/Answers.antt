use Rattle.std.proofs.Common.{ap, ◌∙◌}
use Rattle.world.specs.DefinitionFiles.{line_at}
use Rattle.support.specs.declared.faults.refusal.Refusal.TheVariants as refusals
use Rattle.world.proofs.Answering.{carries_as}
use Rattle.project_calls.specs.OptionFile.{text_declares}
use Rattle.project_calls.proofs.SpelledOptions.{carries_line_first, text_is, text_is_not}
use Rattle.project_calls.proofs.option_file.collect_in_bytes.Goals as goal

pub returns-in-Ok : goal.returns-in-Ok
returns-in-Ok g c = carries_as (ap text_declares c.in-Ok.ensures.cases.0 ∙ text_is c.args.bytes.now c.in-Ok.ensures.cases.1) c.collect_in_text.ensures

pub returns-in-Err : goal.returns-in-Err
returns-in-Err g c =
    carries_as (text_is_not c.args.bytes.now c.line_at.result c.in-Err.ensures.cases.0 (c.line_at.ensures ∙ ap (line_at c.args.bytes.now) (c.valid_up_to.ensures ∙ c.in-Err.ensures.valid_len)))
    (carries_line_first c.line_at.result refusals.NotUtf8 c.refuse.result c.at.ensures.world c.at.ensures.names c.refuse.ensures)

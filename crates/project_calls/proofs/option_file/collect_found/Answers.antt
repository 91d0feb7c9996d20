use Rattle.std.proofs.Common.{ap, sym, ◌∙◌}
use Rattle.world.specs.FindingView.{found_in}
use Rattle.world.proofs.Answering.{carries_as, carries_give, carries_refuse}
use Rattle.project_calls.specs.OptionFile.{bytes_declare, declared_in}
use Rattle.project_calls.proofs.option_file.collect_found.Goals as goal

pub returns-in-Nothing : goal.returns-in-Nothing
unfolding declared_in
returns-in-Nothing g c = carries_as (ap (λ f. declared_in (found_in f)) (sym c.in-Nothing.is)) (carries_give c.empty.ensures)

pub returns-in-TooLong : goal.returns-in-TooLong
unfolding declared_in
returns-in-TooLong g c = carries_as (ap (λ f. declared_in (found_in f)) (sym c.in-TooLong.is)) (carries_refuse c.refuse.ensures)

pub returns-in-Bytes : goal.returns-in-Bytes
unfolding declared_in
returns-in-Bytes g c =
    carries_as (ap bytes_declare c.deref.ensures.value ∙ ap (λ f. declared_in (found_in f)) (sym c.in-Bytes.is)) c.collect_in_bytes.ensures

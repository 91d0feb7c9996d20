use Rattle.std.proofs.Common.{ap, sym, codes, ◌∙◌}
use Rattle.world.specs.FindingView.{found_in}
use Rattle.world.proofs.Answering.{carries_as, carries_stop, carries_then}
use Rattle.project_calls.specs.OptionFile.{declared_at, option_file_by}
use Rattle.project_calls.proofs.option_file.option_file_by.Goals as goal

pub returns-in_err-old-in-Nothing : goal.returns-in_err-old-in-Nothing
unfolding option_file_by
returns-in_err-old-in-Nothing g c = carries_as (ap (λ f. option_file_by (found_in f)) (sym c.in-Nothing.is)) (carries_stop c.in_err-old-in-Nothing.ensures c.from_residual.ensures.1)

pub returns-in_ok-old-in-Nothing : goal.returns-in_ok-old-in-Nothing
unfolding option_file_by
returns-in_ok-old-in-Nothing g c = carries_as (ap (λ f. option_file_by (found_in f)) (sym c.in-Nothing.is)) (carries_then c.in_ok-old-in-Nothing.ensures c.collect_at.ensures)

pub returns-in-TooLong : goal.returns-in-TooLong
unfolding option_file_by
returns-in-TooLong g c = carries_as (ap (λ f. declared_at (codes "meson.options") (found_in f)) c.in-TooLong.is ∙ ap (λ f. option_file_by (found_in f)) (sym c.in-TooLong.is)) c.collect_at-in-TooLong.ensures

pub returns-in-Bytes : goal.returns-in-Bytes
unfolding option_file_by
returns-in-Bytes g c = carries_as (ap (λ f. declared_at (codes "meson.options") (found_in f)) c.in-Bytes.is ∙ ap (λ f. option_file_by (found_in f)) (sym c.in-Bytes.is)) c.collect_at-in-Bytes.ensures

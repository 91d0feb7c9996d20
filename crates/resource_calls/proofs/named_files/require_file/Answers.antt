use Rattle.std.proofs.Common.{ap, refl, sym}
use Rattle.sources.specs.SourcesView.{named_view}
use Rattle.world.specs.Deed.{required_file}
use Rattle.world.proofs.Answering.{carries_as, carries_give}
use Rattle.resource_calls.specs.NamedFiles.{file_required}
use Rattle.resource_calls.proofs.named_files.require_file.Goals as goal

pub returns-in-Tree : goal.returns-in-Tree
unfolding file_required
returns-in-Tree g c =
    carries_as (ap (λ n. file_required (named_view n)) (sym c.in-Tree.is)) (carries_as (ap required_file c.as_str.ensures.value) c.require_file.ensures)

pub returns-in-Built : goal.returns-in-Built
unfolding file_required
returns-in-Built g c = carries_as (ap (λ n. file_required (named_view n)) (sym c.in-Built.is)) (carries_give refl)

pub returns-in-Outputs : goal.returns-in-Outputs
unfolding file_required
returns-in-Outputs g c = carries_as (ap (λ n. file_required (named_view n)) (sym c.in-Outputs.is)) (carries_give refl)

pub returns-in-Output : goal.returns-in-Output
unfolding file_required
returns-in-Output g c = carries_as (ap (λ n. file_required (named_view n)) (sym c.in-Output.is)) (carries_give refl)

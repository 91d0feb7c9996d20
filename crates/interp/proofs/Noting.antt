-- What the project of an evaluation notes.
use Rattle.std.proofs.Common.{false, refl}
use Rattle.world.specs.Deed.{Files}
use Rattle.world.specs.Noted.{NotesLooks}
use Rattle.world.specs.Run.{world_after}
use Rattle.world.specs.Settings.{SettingsData}
use Rattle.world.specs.Start.{first_world}
use Rattle.world.proofs.Noting.{plan-notes, present_are_files}
use Rattle.interp.specs.Evaluation.{MachineSaid, evaluated_files, evaluation, sections_of}
use Rattle.interp.specs.Laws.{NotesWhatItLooksAt}

looks : (files : Files) (settings : SettingsData) (said : MachineSaid) → NotesLooks files (world_after (evaluated_files files settings said))
unfolding evaluated_files
looks files settings said = plan-notes files (evaluation false said) (first_world settings (sections_of said)) refl

pub notes_what_it_looks_at : NotesWhatItLooksAt
notes_what_it_looks_at = record {
  looks = looks;
  present = λ files settings said. present_are_files files (world_after (evaluated_files files settings said)) (looks files settings said);
}

use Rattle.meson.proofs.law.machine_files_say.Goals as goal

pub returns : goal.returns
returns c = c.machine_files_say.ensures

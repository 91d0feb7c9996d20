use Rattle.std.proofs.Common.{ap, ◌∙◌}
use Rattle.interp.specs.Evaluation.{evaluated_files}
use Rattle.meson.specs.Setup.{whole_of}
use Rattle.meson.proofs.Runs.{over_whole}
use Rattle.meson.proofs.law.depends_on_looked.Goals as goal

pub returns : goal.returns
returns c = λ f g s said other h i. ap whole_of (c.depends_on_looked.ensures f g s said other h i) ∙ over_whole other (evaluated_files f s said)

-- What an evaluation depends on.
use Rattle.std.proofs.Common.{false, ◌≡◌, [], Ok, Err, ap, ◌∙◌}
use Rattle.world.specs.Details.{refuse_about}
use Rattle.machine_file.specs.Fault.{MachineFaultData}
use Rattle.world.specs.Deed.{Files}
use Rattle.world.specs.Look.{ran_over}
use Rattle.world.specs.Settings.{SettingsData}
use Rattle.world.specs.Start.{first_world}
use Rattle.world.proofs.Look.{plan-depends}
use Rattle.interp.specs.Evaluation.{definitions, evaluated_files, evaluation}
use Rattle.interp.specs.Laws.{DependsOnLooked}

-- a machine file that is refused, before anything is looked at or asked
same_refused : (f g : Files) (settings : SettingsData) (fault : MachineFaultData) → evaluated_files g settings (Err fault) ≡ ran_over [] (evaluated_files f settings (Err fault))
unfolding evaluated_files refuse_about
same_refused f g settings fault = (plan-depends (evaluation false (Err fault))).same f g [] (first_world settings []) tt tt

pub depends_on_looked : DependsOnLooked
unfolding evaluated_files
depends_on_looked f g settings (Ok sections) (Ok others) h i = (plan-depends definitions).same f g others (first_world settings sections) h i
depends_on_looked f g settings (Ok sections) (Err fault) h i = absurd i
depends_on_looked f g settings (Err fault) (Ok others) h i = absurd i
depends_on_looked f g settings (Err fault) (Err other) h i = ap (λ (x : MachineFaultData). evaluated_files g settings (Err x)) i ∙ same_refused f g settings fault

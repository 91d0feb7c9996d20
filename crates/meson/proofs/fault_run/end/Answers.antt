use Rattle.std.proofs.Common.{subst, sym}
use Rattle.std.specs.Prelude.{option_map}
use Rattle.support.specs.View.{fault_view}
use Rattle.backend.specs.declared.run_end.Status.TheVariants as statuses
use Rattle.meson.specs.FaultRun.{ending_told}
use Rattle.meson.specs.Setup.{Concludes}
use Rattle.meson.proofs.Endings.{nothing_told}
use Rattle.meson.proofs.fault_run.end.Goals as goal

pub returns-in-None : goal.returns-in-None
returns-in-None g c =
    let out = g.O.Outputs.seen c.args.out.now in
    subst (λ f. Concludes (ending_told (option_map fault_view f)) statuses.Done out out) (sym c.in-None.is) (nothing_told out)

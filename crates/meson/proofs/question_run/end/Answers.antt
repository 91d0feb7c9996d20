use Rattle.std.proofs.Common.{subst, sym}
use Rattle.std.specs.Prelude.{option_map}
use Rattle.support.specs.View.{fault_view}
use Rattle.backend.specs.declared.run_end.Status.TheVariants as statuses
use Rattle.meson.specs.Questions.{ending_with}
use Rattle.meson.specs.Setup.{Concludes}
use Rattle.meson.proofs.Tellings.{ends_none}
use Rattle.meson.proofs.question_run.end.Goals as goal

pub returns-in-None : goal.returns-in-None
returns-in-None g c =
    let out = g.O.Outputs.seen c.args.out.now in
    subst (λ f. Concludes (ending_with (option_map fault_view f)) statuses.Done out out) (sym c.in-None.is) (ends_none out)

use Rattle.ports.proofs.Sending.{makes_then}
use Rattle.backend.proofs.Stopping.{makes_ends}
use Rattle.backend.specs.Document.{document_steps}
use Rattle.backend.proofs.run_end.write_outputs.Goals as goal

pub returns-in_err-write_build_file : goal.returns-in_err-write_build_file
returns-in_err-write_build_file g c =
    makes_ends _ c.in_err-write_build_file.field-0.0 (document_steps c.args.project.now) c.from_residual.ensures.1 c.in_err-write_build_file.ensures

pub returns : goal.returns
returns g c = makes_then c.in_ok-write_build_file.ensures c.write_document.ensures

use Rattle.std.proofs.Common.{refl, ◌∙◌}
use Rattle.ports.proofs.Sending.{makes_took, makes_writes, makes_then, makes_stop, makes_none}
use Rattle.backend.proofs.Stopping.{makes_device, makes_wants}
use Rattle.backend.specs.Document.{document_steps}
use Rattle.backend.proofs.document.write_document.Goals as goal

pub returns-in_err-text : goal.returns-in_err-text
returns-in_err-text g c = makes_wants _ (g.O.Outputs.seen c.args.out.now) (document_steps c.args.project.now) c.from_residual.ensures.1

pub returns-in_err-open : goal.returns-in_err-open
returns-in_err-open g c = makes_device _ c.from_residual-in_err-open.ensures.1 (makes_none (makes_took c.in_err-open.ensures.took))

pub returns-in_err-put_all : goal.returns-in_err-put_all
returns-in_err-put_all g c =
    let is = c.as_bytes.ensures.value ∙ c.in_ok-text.ensures.text in
    makes_device _ c.from_residual-in_err-put_all.ensures.1
    (makes_then (makes_took c.in_ok-open.ensures.took) (makes_stop _ refl (makes_writes (rw is at c.in_err-put_all.ensures))))

pub returns-in_err-close : goal.returns-in_err-close
returns-in_err-close g c =
    let is = c.as_bytes.ensures.value ∙ c.in_ok-text.ensures.text in
    makes_device _ c.from_residual-in_err-close.ensures.1
    (makes_then (makes_took c.in_ok-open.ensures.took) (makes_then (makes_writes (rw is at c.in_ok-put_all.ensures)) (makes_none (makes_took c.in_err-close.ensures))))

pub returns : goal.returns
returns g c =
    let is = c.as_bytes.ensures.value ∙ c.in_ok-text.ensures.text in
    makes_then (makes_took c.in_ok-open.ensures.took) (makes_then (makes_writes (rw is at c.in_ok-put_all.ensures)) (makes_took c.in_ok-close.ensures))

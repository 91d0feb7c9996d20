use Rattle.std.proofs.Common.{◌++◌, ap, ◌∙◌}
use Rattle.ports.proofs.Sending.{writes_then}
use Rattle.ports.specs.Outputs.{puts}
use Rattle.build.specs.target_edges.PartsView.{build_parts_edges}
use Rattle.ninja.proofs.Puts.{writes_over}
use Rattle.ninja.specs.Writing.{edges_text}
use Rattle.backend.proofs.Stopping.{writes_device, writes_ends}
use Rattle.backend.proofs.TargetTexts.{build_is, compile_steps, rest_steps}
use Rattle.backend.proofs.build_file.write_build.Goals as goal

pub returns-in_err-write_compiles : goal.returns-in_err-write_compiles
returns-in_err-write_compiles g c =
    let p = c.args.parts.now in
    writes_over (compile_steps p ++ rest_steps p.rest.items) (puts (edges_text (build_parts_edges p))) (build_is p)
    (writes_ends _ c.in_err-write_compiles.field-0.0 (rest_steps p.rest.items) c.from_residual.ensures.1 c.in_err-write_compiles.ensures)

pub returns-in_err-write_edges : goal.returns-in_err-write_edges
returns-in_err-write_edges g c =
    let p = c.args.parts.now in
    let rest = c.deref.result.now in
    writes_device _ c.from_residual-in_err-write_edges.ensures.1
    (writes_over (compile_steps p ++ rest_steps rest) (puts (edges_text (build_parts_edges p)))
    (ap (λ es. compile_steps p ++ rest_steps es) c.deref.ensures.value ∙ build_is p)
    (writes_then c.in_ok-write_compiles.ensures c.in_err-write_edges.ensures))

pub returns : goal.returns
returns g c =
    let p = c.args.parts.now in
    let rest = c.deref.result.now in
    writes_over (compile_steps p ++ rest_steps rest) (puts (edges_text (build_parts_edges p)))
    (ap (λ es. compile_steps p ++ rest_steps es) c.deref.ensures.value ∙ build_is p)
    (writes_then c.in_ok-write_compiles.ensures c.in_ok-write_edges.ensures)

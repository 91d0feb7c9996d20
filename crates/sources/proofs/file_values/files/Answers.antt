use Rattle.std.proofs.Common.{◌≡◌, Ok, string_bytes, ap, sym, ◌∙◌, arith}
use Rattle.std.specs.Result.{result_from_control_flow}
use Rattle.std.proofs.lemmas.Grind.{common_steps}
use Rattle.values.specs.Limits.{within_bytes}
use Rattle.sources.proofs.FilesBehind.{files_more}
use Rattle.sources.proofs.file_values.files.Goals as goal

pub loop-path-preserved : goal.loop-path-preserved
loop-path-preserved c =
    let w : within_bytes (string_bytes c.path-item.result) ≡ Ok c.in_ok-path.path =
    ap within_bytes (sym c.as_str.ensures.value) ∙ sym c.in_ok-of_str.ensures ∙ c.branch-path.ensures ∙ ap result_from_control_flow c.in_ok-path.is in
    files_more _ _ _ c.args.paths.now c.loop-path.path-index c.path-item.result c.in_ok-path.path _ c.loop-path-test.true c.path-item.is w
    c.in_ok-of_object.ensures c.in_ok-push.ensures.items c.loop-path.invariant

pub loop-path-init : goal.loop-path-init
loop-path-init c = grind (arith, common_steps)

pub returns : goal.returns
returns c = grind (arith, common_steps)

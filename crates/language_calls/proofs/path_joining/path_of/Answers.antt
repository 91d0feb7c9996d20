use Rattle.std.proofs.Common.{[], map, take, ap, ◌∙◌, sym}
use Rattle.values.specs.Limits.{within_bytes}
use Rattle.language_calls.specs.JoinPaths.{path_of}
use Rattle.language_calls.proofs.Joining.{path_more}
use Rattle.language_calls.proofs.path_joining.path_of.Goals as goal

pub loop-text-preserved : goal.loop-text-preserved
loop-text-preserved c =
    let texts = c.args.texts.now in
    let i = c.loop-text.text-index in
    c.in_ok-path.ensures (path_of [] (take i (map (λ t. t.now) texts))) c.loop-text.invariant
    ∙ ap within_bytes (sym (path_more texts i (record { ref_ptr = (0, 0); now = [] }) c.loop-text-test.true))

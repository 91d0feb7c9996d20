use Rattle.std.proofs.Common.{◌<◌, length, arith}
use Rattle.build.proofs.InputLists.{few_inputs, kept-present, seen-present, kept-new, seen-new}
use Rattle.build.proofs.sources.first_inputs.Goals as goal

pub loop-input-preserved-in_ok-push : goal.loop-input-preserved-in_ok-push
loop-input-preserved-in_ok-push c =
    let all = c.loop-input.yielded in
    let kept = c.loop-input.kept.items in
    let keys = c.loop-input.seen.keys in
    let h = c.loop-input.invariant in
    record {
      kept = kept-new all kept keys c.insert.new.self.keys c.in-Some.input c.in_ok-clone.field-0 c.in_ok-insert.field-0 h.kept h.seen c.in_ok-clone.ensures.cases c.in_ok-insert.ensures.added c.in_ok-insert.ensures.keys c.push.new.self.items c.in_ok-push.ensures.items c.if-branch.true;
      seen = seen-new all kept keys c.insert.new.self.keys c.in-Some.input c.in_ok-clone.field-0 c.in_ok-insert.field-0 h.kept h.seen c.in_ok-clone.ensures.cases c.in_ok-insert.ensures.added c.in_ok-insert.ensures.keys c.push.new.self.items c.in_ok-push.ensures.items c.if-branch.true;
    }

pub loop-input-preserved : goal.loop-input-preserved
loop-input-preserved c =
    let all = c.loop-input.yielded in
    let kept = c.loop-input.kept.items in
    let keys = c.loop-input.seen.keys in
    let h = c.loop-input.invariant in
    record {
      kept = kept-present all kept keys c.insert.new.self.keys c.in-Some.input c.in_ok-clone.field-0 c.in_ok-insert.field-0 h.kept h.seen c.in_ok-clone.ensures.cases c.in_ok-insert.ensures.added c.in_ok-insert.ensures.keys c.if-branch.false;
      seen = seen-present all kept keys c.insert.new.self.keys c.in-Some.input c.in_ok-clone.field-0 c.in_ok-insert.field-0 h.kept h.seen c.in_ok-clone.ensures.cases c.in_ok-insert.ensures.added c.in_ok-insert.ensures.keys c.if-branch.false;
    }

pub returns-then-len-lt2 : goal.returns-then-len-lt2
returns-then-len-lt2 c =
    let few : length c.args.inputs.items < 2 = omega (arith, c.if-len-lt2.true, c.len.ensures, c.args.inputs.ok.0) in
    few_inputs c.args.inputs.items few

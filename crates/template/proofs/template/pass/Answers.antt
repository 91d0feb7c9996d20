use Rattle.std.proofs.Common.{arith, ◌≡◌, ◌+◌, ◌-◌, ◌≤◌, ◌<◌, [], take, drop, length, refl, append-nil, ◌++◌, ap, ◌∙◌}
use Rattle.std.proofs.Common.{unwrap_or, Err}
use Rattle.ports.specs.Tree.{bytes_at, file_at}
use Rattle.ports.proofs.Sending.{sends_none}
use Rattle.template.proofs.Passing.{cut_at, file_goes_on, file_over, whole_kept, passing_fault, passing_as, passing_last, passing_line}
use Rattle.template.proofs.Passing.{passing_long, passing_start, passing_stop, size_is, exit_sends, exit_same, filled_more, filled_last}
use Rattle.template.proofs.Passing.{buffer_len, lacks_whole, stays_then, file_past}
use Rattle.template.proofs.Reading.{lacks_kept}
use Rattle.template.proofs.Reading.{before, buffer_kept, buffer_more, piece_length, piece_none, piece_some, reading_as, reading_last}
use Rattle.template.proofs.Reading.{reading_line, reading_long, reading_more, reading_start, reading_stop}
use Rattle.template.proofs.Scan.{lacks_all}
use Rattle.template.proofs.template.pass.Goals as goal

pub returns-in_err-size-clause-events : goal.returns-in_err-size-clause-events
returns-in_err-size-clause-events g c = λ steady. exit_sends _ c.from_residual.ensures.1 (sends_none _ _)

pub lines-init : goal.lines-init
lines-init g c = record {
  ends = omega arith;
  in_line = omega arith;
  line_len = c.requires.line_len;
  in_file = omega arith;
  counted = omega arith;
  size = λ steady. c.unwrap_or-size.ensures ∙ ap (λ o. unwrap_or o 0) (c.in_ok-size.ensures.size steady) ∙ size_is (file_at (g.T.Tree.seen c.args.tree.now).files c.args.path.now);
  passing = λ steady. passing_start _ _ _ _;
  reading = reading_start g.T.Tree.tells_size g.T.Tree.gives c.args.config.now.entries c.args.path.now c.args.tree.now (g.O.Outputs.seen c.args.out.now) _ _ _ c.in_ok-size.ensures.tells c.unwrap_or-size.ensures;
  stays = c.in_ok-size.ensures.asks.stays;
  tree_failures = c.in_ok-size.ensures.asks.failures;
  name = refl;
  out_failures = refl;
}

pub returns-in_err-replace_line-in-Some-clause-events : goal.returns-in_err-replace_line-in-Some-clause-events
returns-in_err-replace_line-in-Some-clause-events g c = λ steady.
    let file = bytes_at (g.T.Tree.seen c.args.tree.now).files c.args.path.now in
    let inv = c.lines.invariant in
    let cut = cut_at c.lines.line (drop c.lines.at file) c.lines.start c.lines.end c.in-Some.len inv.ends inv.in_line c.in-Some.ensures in
    let x = c.in_err-replace_line-in-Some.field-0.0 in
    let p = passing_stop _ _ (Err x) refl (passing_as (inv.passing steady) cut.rest) cut.lacks (rw cut.whole at c.in_err-replace_line-in-Some.ensures.writes) (rw cut.whole at c.in_err-replace_line-in-Some.ensures.fault) in
    rw (exit_same _ x c.from_residual-in_err-replace_line-in-Some.ensures.1) p.events

pub returns-in_err-replace_line-in-Some-clause-fault : goal.returns-in_err-replace_line-in-Some-clause-fault
returns-in_err-replace_line-in-Some-clause-fault g c = λ steady.
    let file = bytes_at (g.T.Tree.seen c.args.tree.now).files c.args.path.now in
    let inv = c.lines.invariant in
    let cut = cut_at c.lines.line (drop c.lines.at file) c.lines.start c.lines.end c.in-Some.len inv.ends inv.in_line c.in-Some.ensures in
    let x = c.in_err-replace_line-in-Some.field-0.0 in
    let p = passing_stop _ _ (Err x) refl (passing_as (inv.passing steady) cut.rest) cut.lacks (rw cut.whole at c.in_err-replace_line-in-Some.ensures.writes) (rw cut.whole at c.in_err-replace_line-in-Some.ensures.fault) in
    rw (exit_same _ x c.from_residual-in_err-replace_line-in-Some.ensures.1) p.fault

pub lines-preserved-in-Some : goal.lines-preserved-in-Some
lines-preserved-in-Some g c =
    let file = bytes_at (g.T.Tree.seen c.args.tree.now).files c.args.path.now in
    let inv = c.lines.invariant in
    let cut = cut_at c.lines.line (drop c.lines.at file) c.lines.start c.lines.end c.in-Some.len inv.ends inv.in_line c.in-Some.ensures in
    record {
      ends = cut.range;
      in_line = inv.in_line;
      line_len = inv.line_len;
      in_file = inv.in_file;
      counted = let range = cut.range in omega arith;
      size = inv.size;
      passing = λ steady. passing_line _ _ (passing_as (inv.passing steady) cut.rest) cut.lacks (rw cut.whole at c.in_ok-replace_line-in-Some.ensures.writes) (rw cut.whole at c.in_ok-replace_line-in-Some.ensures.fault);
      reading = reading_line g.T.Tree.tells_size g.T.Tree.gives c.args.config.now.entries c.args.path.now c.args.tree.now (g.O.Outputs.seen c.args.out.now) c.lines.line c.lines.start c.lines.end c.in-Some.len inv.reading inv.ends inv.in_line c.in-Some.ensures
          (rw cut.whole at c.in_ok-replace_line-in-Some.ensures.writes) (rw cut.whole at c.in_ok-replace_line-in-Some.ensures.fault);
      stays = inv.stays;
      tree_failures = inv.tree_failures;
      name = c.in_ok-replace_line-in-Some.ensures.writes.name ∙ inv.name;
      out_failures = c.in_ok-replace_line-in-Some.ensures.writes.failures ∙ inv.out_failures;
    }

pub returns-in_err-has_more-in-None-clause-events : goal.returns-in_err-has_more-in-None-clause-events
returns-in_err-has_more-in-None-clause-events g c = λ steady.
    exit_sends _ c.from_residual-in_err-has_more-in-None.ensures.1 (passing_fault (c.lines.invariant.passing steady))

pub returns-then-branch-clause-events : goal.returns-then-branch-clause-events
returns-then-branch-clause-events g c = λ steady.
    let file = bytes_at (g.T.Tree.seen c.args.tree.now).files c.args.path.now in
    let inv = c.lines.invariant in
    let buffer = take (c.lines.end - c.lines.start) (drop c.lines.start c.lines.line) in
    let len : length buffer ≡ 65536 =
    let n = buffer_len c.lines.line c.lines.start c.lines.end inv.ends inv.in_line in
    let full = c.if-end-line.true in
    let count = c.keep_rest-end.ensures.count in
    let same = c.keep_rest-end.auto.line in
    omega arith in
    let more = rw (inv.stays.files steady) at (c.in_ok-has_more-in-None.ensures.more (inv.stays.steady steady)) in
    let left = file_goes_on file c.lines.at _ _ more c.if-branch.true (inv.size steady) in
    (passing_long buffer (drop c.lines.at file) (inv.passing steady) (lacks_all 10 buffer c.in-None.ensures) left len).events

pub returns-then-branch-clause-fault : goal.returns-then-branch-clause-fault
returns-then-branch-clause-fault g c = λ steady.
    let file = bytes_at (g.T.Tree.seen c.args.tree.now).files c.args.path.now in
    let inv = c.lines.invariant in
    let buffer = take (c.lines.end - c.lines.start) (drop c.lines.start c.lines.line) in
    let len : length buffer ≡ 65536 =
    let n = buffer_len c.lines.line c.lines.start c.lines.end inv.ends inv.in_line in
    let full = c.if-end-line.true in
    let count = c.keep_rest-end.ensures.count in
    let same = c.keep_rest-end.auto.line in
    omega arith in
    let more = rw (inv.stays.files steady) at (c.in_ok-has_more-in-None.ensures.more (inv.stays.steady steady)) in
    let left = file_goes_on file c.lines.at _ _ more c.if-branch.true (inv.size steady) in
    (passing_long buffer (drop c.lines.at file) (inv.passing steady) (lacks_all 10 buffer c.in-None.ensures) left len).fault

pub put_last-requires-clause-lacks : goal.put_last-requires-clause-lacks
put_last-requires-clause-lacks g c =
    lacks_whole c.lines.line c.keep_rest-end.new.line c.lines.start c.lines.end c.keep_rest-end.result c.keep_rest-end.ensures.count
    c.keep_rest-end.ensures.rest c.if-end-line.true (lacks_all 10 _ c.in-None.ensures)

pub returns-then-end-line-clause-events : goal.returns-then-end-line-clause-events
returns-then-end-line-clause-events g c = λ steady.
    let file = bytes_at (g.T.Tree.seen c.args.tree.now).files c.args.path.now in
    let inv = c.lines.invariant in
    let more = rw (inv.stays.files steady) at (c.in_ok-has_more-in-None.ensures.more (inv.stays.steady steady)) in
    let gone = file_over file c.lines.at _ _ more c.if-branch.false (inv.size steady) in
    let moved = c.keep_rest-end.new.line in
    let kept = whole_kept c.lines.line moved c.lines.start c.lines.end _ c.keep_rest-end.ensures.count c.keep_rest-end.ensures.rest c.if-end-line.true in
    let rest = ap (λ l. l ++ drop c.lines.at file) kept ∙ ap (λ l. moved ++ l) gone ∙ append-nil moved in
    (passing_last c.put_last.result (passing_as (inv.passing steady) rest) c.put_last.ensures.writes c.put_last.ensures.fault).events

pub returns-then-end-line-clause-fault : goal.returns-then-end-line-clause-fault
returns-then-end-line-clause-fault g c = λ steady.
    let file = bytes_at (g.T.Tree.seen c.args.tree.now).files c.args.path.now in
    let inv = c.lines.invariant in
    let more = rw (inv.stays.files steady) at (c.in_ok-has_more-in-None.ensures.more (inv.stays.steady steady)) in
    let gone = file_over file c.lines.at _ _ more c.if-branch.false (inv.size steady) in
    let moved = c.keep_rest-end.new.line in
    let kept = whole_kept c.lines.line moved c.lines.start c.lines.end _ c.keep_rest-end.ensures.count c.keep_rest-end.ensures.rest c.if-end-line.true in
    let rest = ap (λ l. l ++ drop c.lines.at file) kept ∙ ap (λ l. moved ++ l) gone ∙ append-nil moved in
    (passing_last c.put_last.result (passing_as (inv.passing steady) rest) c.put_last.ensures.writes c.put_last.ensures.fault).fault

pub returns-in_err-count-in-None-clause-events : goal.returns-in_err-count-in-None-clause-events
returns-in_err-count-in-None-clause-events g c = λ steady.
    exit_sends _ c.from_residual-in_err-count-in-None.ensures.1 (passing_fault (c.lines.invariant.passing steady))

pub put_last-requires-then-count-eq0-clause-lacks : goal.put_last-requires-then-count-eq0-clause-lacks
put_last-requires-then-count-eq0-clause-lacks g c =
    lacks_kept c.lines.line c.keep_rest-end.new.line c.fill.new.line c.lines.start c.lines.end c.keep_rest-end.result
    c.keep_rest-end.ensures.count c.keep_rest-end.ensures.rest c.in_ok-count-in-None.ensures.kept (lacks_all 10 _ c.in-None.ensures)

pub returns-then-count-eq0-clause-events : goal.returns-then-count-eq0-clause-events
returns-then-count-eq0-clause-events g c = λ steady.
    let file = bytes_at (g.T.Tree.seen c.args.tree.now).files c.args.path.now in
    let inv = c.lines.invariant in
    let read = rw (inv.stays.files steady) at (c.in_ok-count-in-None.ensures.bytes (inv.stays.steady steady)) in
    let some = rw (inv.stays.files steady) at (c.in_ok-count-in-None.ensures.some (inv.stays.steady steady)) in
    let none = c.if-count-eq0.true in
    let size = inv.size steady in
    let past : length file ≤ c.lines.at = file_past _ _ _ _ _ _ some none (omega arith) c.if-end-line.false size in
    let last =
    filled_last c.lines.line c.keep_rest-end.new.line c.fill.new.line file c.lines.start c.lines.end c.keep_rest-end.result c.lines.at
    c.in_ok-count-in-None.count c.keep_rest-end.ensures.count c.keep_rest-end.ensures.rest read none past in
    (passing_last c.put_last-then-count-eq0.result (passing_as (inv.passing steady) last.0) c.put_last-then-count-eq0.ensures.writes c.put_last-then-count-eq0.ensures.fault).events

pub returns-then-count-eq0-clause-fault : goal.returns-then-count-eq0-clause-fault
returns-then-count-eq0-clause-fault g c = λ steady.
    let file = bytes_at (g.T.Tree.seen c.args.tree.now).files c.args.path.now in
    let inv = c.lines.invariant in
    let read = rw (inv.stays.files steady) at (c.in_ok-count-in-None.ensures.bytes (inv.stays.steady steady)) in
    let some = rw (inv.stays.files steady) at (c.in_ok-count-in-None.ensures.some (inv.stays.steady steady)) in
    let none = c.if-count-eq0.true in
    let size = inv.size steady in
    let past : length file ≤ c.lines.at = file_past _ _ _ _ _ _ some none (omega arith) c.if-end-line.false size in
    let last =
    filled_last c.lines.line c.keep_rest-end.new.line c.fill.new.line file c.lines.start c.lines.end c.keep_rest-end.result c.lines.at
    c.in_ok-count-in-None.count c.keep_rest-end.ensures.count c.keep_rest-end.ensures.rest read none past in
    (passing_last c.put_last-then-count-eq0.result (passing_as (inv.passing steady) last.0) c.put_last-then-count-eq0.ensures.writes c.put_last-then-count-eq0.ensures.fault).fault

pub lines-preserved : goal.lines-preserved
lines-preserved g c =
    let file = bytes_at (g.T.Tree.seen c.args.tree.now).files c.args.path.now in
    let inv = c.lines.invariant in
    let n = c.in_ok-count-in-None.count in
    record {
      ends = omega arith;
      in_line = let within = c.in_ok-count-in-None.ensures.within in omega arith;
      line_len = omega arith;
      in_file = c.in_ok-count-in-None.ensures.size;
      counted = let count = c.keep_rest-end.ensures.count in omega arith;
      size = inv.size;
      passing = λ steady.
          let read = c.in_ok-count-in-None.ensures.bytes (inv.stays.steady steady) in
          let read' = rw (inv.stays.files steady) at read in
          passing_as (inv.passing steady) (filled_more c.lines.line c.keep_rest-end.new.line c.fill.new.line file c.lines.start c.lines.end c.keep_rest-end.result c.lines.at n c.keep_rest-end.ensures.count c.keep_rest-end.ensures.rest read');
      reading =
          let to = c.keep_rest-end.result in
          let now = c.fill.new.line in
          let within : to + n ≤ length now = let read = c.in_ok-count-in-None.ensures.within in omega (arith, c.fill.auto.line) in
          let room : to < length c.keep_rest-end.new.line = before _ _ (omega arith) c.if-end-line.false in
          reading_as g.T.Tree.tells_size g.T.Tree.gives c.args.config.now.entries c.args.path.now c.args.tree.now (g.O.Outputs.seen c.args.out.now)
          (reading_more g.T.Tree.tells_size g.T.Tree.gives c.args.config.now.entries c.args.path.now c.args.tree.now (g.O.Outputs.seen c.args.out.now) (take n (drop to now)) n inv.reading (c.in_ok-count-in-None.ensures.given room) (piece_length now to n within))
          (buffer_more c.lines.line c.keep_rest-end.new.line now c.lines.start c.lines.end to n c.keep_rest-end.ensures.count c.keep_rest-end.ensures.rest c.in_ok-count-in-None.ensures.kept);
      stays = stays_then inv.stays c.in_ok-count-in-None.ensures.asks.stays;
      tree_failures = c.in_ok-count-in-None.ensures.asks.failures ∙ inv.tree_failures;
      name = inv.name;
      out_failures = inv.out_failures;
    }

pub returns-in_err-replace_line-in-Some-clause-given : goal.returns-in_err-replace_line-in-Some-clause-given
returns-in_err-replace_line-in-Some-clause-given g c =
    let inv = c.lines.invariant in
    let cut = cut_at c.lines.line [] c.lines.start c.lines.end c.in-Some.len inv.ends inv.in_line c.in-Some.ensures in
    let x = c.in_err-replace_line-in-Some.field-0.0 in
    let p = reading_stop g.T.Tree.tells_size g.T.Tree.gives c.args.config.now.entries c.args.path.now c.args.tree.now (g.O.Outputs.seen c.args.out.now) c.lines.line c.lines.start c.lines.end c.in-Some.len (Err x) refl inv.reading inv.ends inv.in_line c.in-Some.ensures
    (rw cut.whole at c.in_err-replace_line-in-Some.ensures.writes) (rw cut.whole at c.in_err-replace_line-in-Some.ensures.fault) in
    rw (exit_same _ x c.from_residual-in_err-replace_line-in-Some.ensures.1) p

pub returns-then-branch-clause-given : goal.returns-then-branch-clause-given
returns-then-branch-clause-given g c =
    let inv = c.lines.invariant in
    let buffer = take (c.lines.end - c.lines.start) (drop c.lines.start c.lines.line) in
    let len : length buffer ≡ 65536 =
    let n = buffer_len c.lines.line c.lines.start c.lines.end inv.ends inv.in_line in
    let full = c.if-end-line.true in
    let count = c.keep_rest-end.ensures.count in
    let same = c.keep_rest-end.auto.line in
    omega arith in
    let gave = c.in_ok-has_more-in-None.ensures.given in
    reading_long g.T.Tree.tells_size g.T.Tree.gives c.args.config.now.entries c.args.path.now c.args.tree.now (g.O.Outputs.seen c.args.out.now) buffer gave.0 inv.reading (lacks_all 10 buffer c.in-None.ensures) gave.2 (piece_some gave.0 _ gave.1 c.if-branch.true) len

pub returns-then-end-line-clause-given : goal.returns-then-end-line-clause-given
returns-then-end-line-clause-given g c =
    let inv = c.lines.invariant in
    let moved = c.keep_rest-end.new.line in
    let kept = whole_kept c.lines.line moved c.lines.start c.lines.end _ c.keep_rest-end.ensures.count c.keep_rest-end.ensures.rest c.if-end-line.true in
    let gave = c.in_ok-has_more-in-None.ensures.given in
    reading_last g.T.Tree.tells_size g.T.Tree.gives c.args.config.now.entries c.args.path.now c.args.tree.now (g.O.Outputs.seen c.args.out.now) moved gave.0 c.put_last.result (reading_as g.T.Tree.tells_size g.T.Tree.gives c.args.config.now.entries c.args.path.now c.args.tree.now (g.O.Outputs.seen c.args.out.now) inv.reading kept) inv.in_file (piece_none gave.0 _ gave.1 c.if-branch.false) gave.2
    c.put_last.ensures.writes c.put_last.ensures.fault

pub returns-then-count-eq0-clause-given : goal.returns-then-count-eq0-clause-given
returns-then-count-eq0-clause-given g c =
    let inv = c.lines.invariant in
    let to = c.keep_rest-end.result in
    let now = c.fill.new.line in
    let n = c.in_ok-count-in-None.count in
    let room : to < length c.keep_rest-end.new.line = before _ _ (omega arith) c.if-end-line.false in
    let same = buffer_kept c.lines.line c.keep_rest-end.new.line now c.lines.start c.lines.end to c.keep_rest-end.ensures.count c.keep_rest-end.ensures.rest c.in_ok-count-in-None.ensures.kept in
    reading_last g.T.Tree.tells_size g.T.Tree.gives c.args.config.now.entries c.args.path.now c.args.tree.now (g.O.Outputs.seen c.args.out.now) (take to now) (take n (drop to now)) c.put_last-then-count-eq0.result (reading_as g.T.Tree.tells_size g.T.Tree.gives c.args.config.now.entries c.args.path.now c.args.tree.now (g.O.Outputs.seen c.args.out.now) inv.reading same) inv.in_file (ap (λ m. take m (drop to now)) c.if-count-eq0.true)
    (c.in_ok-count-in-None.ensures.given room) c.put_last-then-count-eq0.ensures.writes c.put_last-then-count-eq0.ensures.fault

-- ---- what stays

pub returns-in_err-size-clause-name : goal.returns-in_err-size-clause-name
returns-in_err-size-clause-name g c = refl

pub returns-in_err-size-clause-stays : goal.returns-in_err-size-clause-stays
returns-in_err-size-clause-stays g c = c.in_err-size.ensures.asks.stays

pub returns-in_err-replace_line-in-Some-clause-name : goal.returns-in_err-replace_line-in-Some-clause-name
returns-in_err-replace_line-in-Some-clause-name g c = c.in_err-replace_line-in-Some.ensures.writes.name ∙ c.lines.invariant.name

pub returns-in_err-replace_line-in-Some-clause-stays : goal.returns-in_err-replace_line-in-Some-clause-stays
returns-in_err-replace_line-in-Some-clause-stays g c = c.lines.invariant.stays

pub returns-in_err-has_more-in-None-clause-name : goal.returns-in_err-has_more-in-None-clause-name
returns-in_err-has_more-in-None-clause-name g c = c.lines.invariant.name

pub returns-in_err-has_more-in-None-clause-stays : goal.returns-in_err-has_more-in-None-clause-stays
returns-in_err-has_more-in-None-clause-stays g c = stays_then c.lines.invariant.stays c.in_err-has_more-in-None.ensures.asks.stays

pub returns-then-branch-clause-name : goal.returns-then-branch-clause-name
returns-then-branch-clause-name g c = c.lines.invariant.name

pub returns-then-branch-clause-stays : goal.returns-then-branch-clause-stays
returns-then-branch-clause-stays g c = stays_then c.lines.invariant.stays c.in_ok-has_more-in-None.ensures.asks.stays

pub returns-then-end-line-clause-name : goal.returns-then-end-line-clause-name
returns-then-end-line-clause-name g c = c.put_last.ensures.writes.name ∙ c.lines.invariant.name

pub returns-then-end-line-clause-stays : goal.returns-then-end-line-clause-stays
returns-then-end-line-clause-stays g c = stays_then c.lines.invariant.stays c.in_ok-has_more-in-None.ensures.asks.stays

pub returns-in_err-count-in-None-clause-name : goal.returns-in_err-count-in-None-clause-name
returns-in_err-count-in-None-clause-name g c = c.lines.invariant.name

pub returns-in_err-count-in-None-clause-stays : goal.returns-in_err-count-in-None-clause-stays
returns-in_err-count-in-None-clause-stays g c = stays_then c.lines.invariant.stays c.in_err-count-in-None.ensures.asks.stays

pub returns-then-count-eq0-clause-name : goal.returns-then-count-eq0-clause-name
returns-then-count-eq0-clause-name g c = c.put_last-then-count-eq0.ensures.writes.name ∙ c.lines.invariant.name

pub returns-then-count-eq0-clause-stays : goal.returns-then-count-eq0-clause-stays
returns-then-count-eq0-clause-stays g c = stays_then c.lines.invariant.stays c.in_ok-count-in-None.ensures.asks.stays

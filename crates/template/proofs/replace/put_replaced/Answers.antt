use Rattle.std.proofs.Common.{arith}
use Rattle.ports.proofs.Sending.{open_after, writes_exit}
use Rattle.ports.proofs.Going.{going_on, going_open, going_start, going_stop}
use Rattle.template.proofs.Scan.{sign_text, sign_text_stop, name_on, name_stop, alone_going, plain_last, sign_at, sign_name, sign_named}
use Rattle.template.specs.Line.{replaced_line}
use Rattle.template.proofs.replace.put_replaced.Goals as goal

pub returns-in_err-put_all : goal.returns-in_err-put_all
returns-in_err-put_all g c =
    let s = c.in-Some.sign in
    writes_exit _ c.from_residual.ensures.0 (sign_text_stop {run = replaced_line c.args.config.now.entries c.args.path.now c.args.number c.args.line.now} c.args.config.now.entries c.args.path.now c.args.number c.args.line.now c.loop-sign.from s.text s.at s.name c.loop-sign.invariant.going c.in-Some.ensures c.in_err-put_all.ensures)

pub returns-in_err-put_in_place : goal.returns-in_err-put_in_place
returns-in_err-put_in_place g c =
    let s = c.in-Some.sign in
    let h = sign_text {run = replaced_line c.args.config.now.entries c.args.path.now c.args.number c.args.line.now} c.args.config.now.entries c.args.path.now c.args.number c.args.line.now c.loop-sign.from s.text s.at s.name c.loop-sign.invariant.going c.in-Some.ensures c.in_ok-put_all.ensures in
    writes_exit _ c.from_residual-in_err-put_in_place.ensures.0 (name_stop {run = replaced_line c.args.config.now.entries c.args.path.now c.args.number c.args.line.now} c.args.config.now.entries c.args.path.now c.args.number c.args.line.now _ s.name h c.if-sign-gt0.true c.in_err-put_in_place.ensures)

pub loop-sign-preserved-then-sign-gt0 : goal.loop-sign-preserved-then-sign-gt0
loop-sign-preserved-then-sign-gt0 g c =
    let s = c.in-Some.sign in
    let h = sign_text {run = replaced_line c.args.config.now.entries c.args.path.now c.args.number c.args.line.now} c.args.config.now.entries c.args.path.now c.args.number c.args.line.now c.loop-sign.from s.text s.at s.name c.loop-sign.invariant.going c.in-Some.ensures c.in_ok-put_all.ensures in
    record {
      in_range = sign_name c.args.line.now c.loop-sign.from s.text s.at s.name c.loop-sign.invariant.in_range c.in-Some.ensures c.if-sign-gt0.true;
      going = name_on {run = replaced_line c.args.config.now.entries c.args.path.now c.args.number c.args.line.now} c.args.config.now.entries c.args.path.now c.args.number c.args.line.now _ s.name h c.if-sign-gt0.true c.in_ok-put_in_place.ensures;
    }

pub loop-sign-preserved : goal.loop-sign-preserved
loop-sign-preserved g c =
    let s = c.in-Some.sign in
    let h = sign_text {run = replaced_line c.args.config.now.entries c.args.path.now c.args.number c.args.line.now} c.args.config.now.entries c.args.path.now c.args.number c.args.line.now c.loop-sign.from s.text s.at s.name c.loop-sign.invariant.going c.in-Some.ensures c.in_ok-put_all.ensures in
    record {
      in_range = sign_at c.args.line.now c.loop-sign.from s.text s.at s.name c.loop-sign.invariant.in_range c.in-Some.ensures;
      going = going_on (alone_going {run = replaced_line c.args.config.now.entries c.args.path.now c.args.number c.args.line.now} c.args.config.now.entries c.args.path.now c.args.number s.name _ h c.if-sign-gt0.false) c.in_ok-put_all-2.ensures;
    }

pub returns-in_err-put_all-2 : goal.returns-in_err-put_all-2
returns-in_err-put_all-2 g c =
    let s = c.in-Some.sign in
    let h = sign_text {run = replaced_line c.args.config.now.entries c.args.path.now c.args.number c.args.line.now} c.args.config.now.entries c.args.path.now c.args.number c.args.line.now c.loop-sign.from s.text s.at s.name c.loop-sign.invariant.going c.in-Some.ensures c.in_ok-put_all.ensures in
    writes_exit _ c.from_residual-in_err-put_all-2.ensures.0 (going_stop _ (alone_going {run = replaced_line c.args.config.now.entries c.args.path.now c.args.number c.args.line.now} c.args.config.now.entries c.args.path.now c.args.number s.name _ h c.if-sign-gt0.false) c.in_err-put_all-2.ensures)

pub returns : goal.returns
returns g c = plain_last {run = replaced_line c.args.config.now.entries c.args.path.now c.args.number c.args.line.now} c.args.config.now.entries c.args.path.now c.args.number c.args.line.now c.loop-sign.from c.loop-sign.invariant.going c.in_default.ensures c.put_all-2.ensures

pub put_in_place-requires-clause-named : goal.put_in_place-requires-clause-named
put_in_place-requires-clause-named g c = let s = c.in-Some.sign in sign_named c.args.line.now c.loop-sign.from s.text s.at s.name c.in-Some.ensures

pub loop-sign-init : goal.loop-sign-init
loop-sign-init g c = record {
  in_range = omega arith;
  going = going_start _ _;
}

pub put_all-requires : goal.put_all-requires
put_all-requires g c = going_open c.loop-sign.invariant.going c.requires

pub put_in_place-requires-clause-out : goal.put_in_place-requires-clause-out
put_in_place-requires-clause-out g c = open_after c.in_ok-put_all.ensures (going_open c.loop-sign.invariant.going c.requires)

pub put_all-requires-else-sign-gt0 : goal.put_all-requires-else-sign-gt0
put_all-requires-else-sign-gt0 g c = open_after c.in_ok-put_all.ensures (going_open c.loop-sign.invariant.going c.requires)

pub put_all-requires-2 : goal.put_all-requires-2
put_all-requires-2 g c = going_open c.loop-sign.invariant.going c.requires

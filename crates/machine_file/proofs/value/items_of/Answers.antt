use Rattle.std.proofs.Common.{◌∙◌, sym, ap, arith, is_ok, string_bytes}
use Rattle.std.proofs.ResultArms.{chosen}
use Rattle.std.specs.Option.{option_map}
use Rattle.machine_file.proofs.Items.{seen, found_first, found_more, found_close, found_end, found_none}
use Rattle.machine_file.proofs.value.items_of.Goals as goal

pub loop-rest-init : goal.loop-rest-init
loop-rest-init c = found_first c.args.tokens.now c.new-items.result.items c.new-items.ensures.items

pub returns-in_default : goal.returns-in_default
returns-in_default c = found_none c.args.tokens.now c.loop-rest.rest.now c.loop-rest.items.items _ c.loop-rest.invariant (omega arith)
    (ap (option_map string_bytes) (sym c.in_default.is) ∙ c.in_ok-text.ensures)

pub returns-then-not-is : goal.returns-then-not-is
returns-then-not-is c = ap seen c.then_some.ensures
    ∙ found_close c.args.tokens.now c.loop-rest.rest.now c.loop-rest.items.items c.push.new.self c.in-Some.text _ _ c.is.result
    c.closes.result _ c.loop-rest.invariant (omega arith) (omega arith)
    (ap (option_map string_bytes) (sym c.in-Some.is)
    ∙ c.in_ok-text.ensures) c.is.ensures c.if-not-is.true (chosen _ _ _ _ c.push.ensures.items (ap is_ok c.in_ok-push.was)) c.closes.ensures

pub loop-rest-preserved : goal.loop-rest-preserved
loop-rest-preserved c = found_more c.args.tokens.now c.loop-rest.rest.now c.loop-rest.items.items c.push.new.self.items c.in-Some.text _ _
    c.is.result _ c.loop-rest.invariant (omega arith) (omega arith)
    (ap (option_map string_bytes) (sym c.in-Some.is)
    ∙ c.in_ok-text.ensures) c.is.ensures c.if-not-is.false (chosen _ _ _ _ c.push.ensures.items (ap is_ok c.in_ok-push.was))

pub returns : goal.returns
returns c = ap seen c.then_some-2.ensures
    ∙ found_end c.args.tokens.now c.loop-rest.rest.now c.loop-rest.items c.closes-2.result c.loop-rest.invariant c.loop-rest-test.false
    c.closes-2.ensures

use Rattle.std.proofs.Common.{sym}
use Rattle.machine_file.proofs.Said.{fresh_new}
use Rattle.machine_file.proofs.reader.with_section.Goals as goal

pub invariant_of-result : goal.invariant_of-result
invariant_of-result c = record {
  fresh = λ x e. fresh_new c.in_ok-ended.ended.entries _ x c.args.name.now e c.in_ok-from_str.ensures.ok
      (sym c.if-has_name.ensures);
}

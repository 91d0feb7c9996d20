use Rattle.std.proofs.Common.{sym}
use Rattle.syntax.proofs.Cuts.{symbol_two, symbol_one}
use Rattle.syntax.proofs.lexer.symbol.symbol_at.Goals as goal

pub returns-in-Some : goal.returns-in-Some
returns-in-Some c = sym (symbol_two c.args.first c.args.bytes.now c.in-Some.kind (sym c.in-Some.ensures))

pub returns-in-Some-single_kind : goal.returns-in-Some-single_kind
returns-in-Some-single_kind c = sym (symbol_one c.args.first c.args.bytes.now c.in-Some-single_kind.kind (sym c.in_default.ensures) (sym c.in-Some-single_kind.ensures))

use Rattle.std.proofs.Common.{sym, arith, false-eqb}
use Rattle.syntax.proofs.Escapes.{escape_digits, escape_control}
use Rattle.syntax.proofs.lexer.escape.escape_at.Goals as goal

pub returns-in_ok-code : goal.returns-in_ok-code
returns-in_ok-code c =
    sym (escape_digits c.args.bytes.now c.in-Some.count c.in_ok-code.code (omega (arith, false-eqb _ 0 c.if-is_empty.ensures)) (sym c.if-is_octal_digit.ensures) (sym c.in-Some.ensures.count) (sym c.in_ok-code.ensures))

pub returns-in_ok-code-2 : goal.returns-in_ok-code-2
returns-in_ok-code-2 c =
    sym (escape_control c.args.bytes.now c.in_ok-code-2.code (omega (arith, false-eqb _ 0 c.if-is_empty.ensures)) (sym c.if-is_octal_digit.ensures) (sym c.in_default.ensures.count) (sym c.in_ok-code-2.ensures))

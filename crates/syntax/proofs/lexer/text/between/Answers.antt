use Rattle.std.proofs.Common.{◌∙◌, sym, ap}
use Rattle.syntax.specs.lexer.Texts.{is_framed}
use Rattle.syntax.proofs.Frames.{framed_start, between_framed, between_all}
use Rattle.syntax.proofs.lexer.text.between.Goals as goal

pub range-requires-clause-start_boundary : goal.range-requires-clause-start_boundary
range-requires-clause-start_boundary c = λ some.
    framed_start c.args.front c.args.back c.args.text.now c.utf8.text some c.requires.behind (ap (is_framed c.args.front c.args.back) (sym c.as_bytes.ensures.value) ∙ sym c.if-is_framed.ensures)

pub returns-then-is_framed : goal.returns-then-is_framed
returns-then-is_framed c =
    c.range.ensures.value ∙ sym (between_framed c.args.front c.args.back c.args.text.now (ap (is_framed c.args.front c.args.back) (sym c.as_bytes.ensures.value) ∙ sym c.if-is_framed.ensures))

pub returns-else-is_framed : goal.returns-else-is_framed
returns-else-is_framed c = sym (between_all c.args.front c.args.back c.args.text.now (ap (is_framed c.args.front c.args.back) (sym c.as_bytes.ensures.value) ∙ sym c.if-is_framed.ensures))

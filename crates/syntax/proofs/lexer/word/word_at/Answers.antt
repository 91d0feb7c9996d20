use Rattle.std.proofs.Common.{ap, subst, ◌∙◌}
use Rattle.std.specs.Str.{IsUtf8}
use Rattle.syntax.specs.lexer.Bytes.{continues_word}
use Rattle.syntax.specs.lexer.Lexing.{run_length}
use Rattle.syntax.proofs.Boundaries.{word_boundary}
use Rattle.syntax.proofs.lexer.word.word_at.Goals as goal

pub range-requires-clause-end_boundary : goal.range-requires-clause-end_boundary
range-requires-clause-end_boundary c =
    let utf8 = subst IsUtf8 c.as_bytes.ensures.value c.as_bytes.ensures.utf8 in
    word_boundary c.args.text.now c.word_length-length.result utf8
    (c.word_length-length.ensures ∙ ap (run_length continues_word) c.as_bytes.ensures.value)

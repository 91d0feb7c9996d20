use Rattle.std.proofs.Common.{ap, ◌∙◌, sym}
use Rattle.syntax.specs.lexer.Lexing.{run_length}
use Rattle.syntax.specs.lexer.Texts.{is_no_backslash}
use Rattle.syntax.proofs.Texts.{plain_whole}
use Rattle.syntax.proofs.lexer.text.without_escapes.Goals as goal

pub returns-then-plain_length-text : goal.returns-then-plain_length-text
returns-then-plain_length-text c =
    plain_whole c.args.text.now
    (sym (c.plain_length.ensures ∙ ap (run_length is_no_backslash) c.as_bytes.ensures.value) ∙ c.if-plain_length-text.true)

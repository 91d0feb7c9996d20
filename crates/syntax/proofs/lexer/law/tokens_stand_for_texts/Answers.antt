use Rattle.syntax.proofs.EveryLexedText.{tokens_stand_for_texts}
use Rattle.syntax.proofs.lexer.law.tokens_stand_for_texts.Goals as goal

pub returns : goal.returns
returns c = tokens_stand_for_texts

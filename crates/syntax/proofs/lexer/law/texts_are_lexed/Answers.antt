use Rattle.syntax.proofs.EveryLexedText.{texts_are_lexed}
use Rattle.syntax.proofs.lexer.law.texts_are_lexed.Goals as goal

pub returns : goal.returns
returns c = texts_are_lexed

-- What a text is: one list of tokens or one fault; and what a token stands for.
use Rattle.std.proofs.Common.{◌≡◌, ℕ, List, Result, Ok, Err, refl, sym, ap, ◌∙◌}
use Rattle.syntax.specs.declared.lexer.fault.SyntaxFault.{SyntaxFault}
use Rattle.syntax.specs.declared.lexer.fault.FaultKind.{FaultKind}
use Rattle.syntax.specs.declared.lexer.fault.FaultKind.TheVariants as Faults
use Rattle.syntax.specs.lexer.Lexeme.{Lexeme}
use Rattle.syntax.specs.lexer.Lexing.{fault_at, lexed_tokens}
use Rattle.syntax.specs.lexer.Laws.{IsLexed, TextsAreLexed, TokensStandForTexts}
use Rattle.syntax.proofs.NamedTokens.{names_only, token_names}
use Rattle.syntax.proofs.Spans.{lexed_breaks, lexed_complete, lexed_fault, lexed_sound}

something : (text : List ℕ) (read : Result (List Lexeme) SyntaxFault) → lexed_tokens text ≡ read → IsLexed text read
something text (Ok ts) e = lexed_sound text ts e
something text (Err f) e = let w = lexed_fault text f e in (ap (λ (g : SyntaxFault). g.kind) w.0, w.1)

fault_is : (f : SyntaxFault) → f.kind ≡ Faults.Token → fault_at f.line ≡ f
fault_is f e = ap (λ (k : FaultKind). record { kind = k; line = f.line }) (sym e)

once : (text : List ℕ) (read : Result (List Lexeme) SyntaxFault) → IsLexed text read → lexed_tokens text ≡ read
once text (Ok ts) h = lexed_complete text ts h
once text (Err f) h = lexed_breaks text f.line h.1 ∙ ap (λ (g : SyntaxFault). Err g) (fault_is f h.0)

pub texts_are_lexed : TextsAreLexed
texts_are_lexed = record { something = λ text. something text (lexed_tokens text) refl; once = once }

pub tokens_stand_for_texts : TokensStandForTexts
tokens_stand_for_texts = record { something = token_names; once = names_only }

-- What a text spells: one file, or it has one fault.
use Rattle.std.proofs.Common.{◌≡◌, ℕ, List, Result, Ok, Err, refl}
use Rattle.syntax.specs.declared.lexer.fault.SyntaxFault.{SyntaxFault}
use Rattle.syntax.specs.Laws.{IsParsed, TextsAreParsed}
use Rattle.syntax.specs.Parsed.{parsed_file}
use Rattle.syntax.specs.Tree.{FileTree}
use Rattle.syntax.proofs.Parses.{fronts_shorter, parsed_complete, parsed_fault, parsed_faulty, parsed_only, parsed_spelled}

something : (text : List ℕ) (read : Result FileTree SyntaxFault) → parsed_file text ≡ read → IsParsed text read
something text (Ok f) e = parsed_spelled text f e
something text (Err fault) e = parsed_fault text fault e

once : (text : List ℕ) (read : Result FileTree SyntaxFault) → IsParsed text read → parsed_file text ≡ read
once text (Ok f) h = parsed_complete text f h
once text (Err fault) h = parsed_faulty text fault h

pub texts_are_parsed : TextsAreParsed
texts_are_parsed = record {
  something = λ text. something text (parsed_file text) refl;
  once = once;
  one_file = parsed_only;
  first = fronts_shorter;
}

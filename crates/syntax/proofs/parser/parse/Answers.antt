use Rattle.std.proofs.Common.{◌≡◌, ◌≤◌, ◌∙◌, sym, ap, subst, List, length, Ok, Err}
use Rattle.std.proofs.lemmas.Result.{err_from_is_err_and}
use Rattle.syntax.specs.declared.lexer.fault.SyntaxFault.{SyntaxFault}
use Rattle.syntax.specs.declared.lexer.fault.SyntaxError.TheVariants as errors
use Rattle.syntax.specs.declared.lexer.token.Token.{Token}
use Rattle.syntax.specs.Grammar.{most_levels}
use Rattle.syntax.specs.lexer.Lexeme.{lexemes}
use Rattle.syntax.specs.lexer.Answers.{Answers}
use Rattle.syntax.specs.Parsed.{located_fault, parsed_file}
use Rattle.syntax.specs.Reading.{all_of, tokens_left}
use Rattle.syntax.specs.ReadingStatements.{file_at}
use Rattle.syntax.specs.Tree.{file_of}
use Rattle.syntax.proofs.Parses.{complete_all, faulty_all, fronts_shorter, no_tokens, only_all, read_all, refused_all, spelled_all}
use Rattle.syntax.proofs.Parses.{stop_is, stop_within, stopped}
use Rattle.syntax.proofs.parser.parse.Goals as goal
use Rattle.syntax.proofs.parser.parse.Goals.{After-from_residual, After-drop-tokens, After-drop-tokens-2}

no_tokens_here : (c : After-from_residual) → Answers file_of c.from_residual.result (parsed_file c.args.source.now)
no_tokens_here c =
    let p = err_from_is_err_and c.from_residual.result c.from_residual.ensures.1 in
    rw (p.1, p.2) (no_tokens c.args.source.now c.in_err-tokens.field-0.0 c.in_err-tokens.ensures.reads)

pub returns-in_err-tokens-clause-reads : goal.returns-in_err-tokens-clause-reads
returns-in_err-tokens-clause-reads c = no_tokens_here c

pub returns-in_err-tokens-clause-complete : goal.returns-in_err-tokens-clause-complete
returns-in_err-tokens-clause-complete c = complete_all c.args.source.now c.from_residual.result (no_tokens_here c)

pub returns-in_err-tokens-clause-refused : goal.returns-in_err-tokens-clause-refused
returns-in_err-tokens-clause-refused c = refused_all c.args.source.now c.from_residual.result (no_tokens_here c)

read_here : (c : After-drop-tokens) → parsed_file c.args.source.now ≡ Ok (file_of c.in-Ok.file)
read_here c = read_all c.args.source.now (lexemes c.in_ok-tokens.tokens.items) (file_of c.in-Ok.file) c.in_ok-tokens.ensures.reads
    (ap (λ (ts : List Token). all_of (file_at most_levels) (lexemes ts)) (sym c.deref.ensures.value) ∙ c.in-Ok.ensures)

pub returns-in-Ok-clause-reads : goal.returns-in-Ok-clause-reads
returns-in-Ok-clause-reads c = read_here c

pub returns-in-Ok-clause-spelled : goal.returns-in-Ok-clause-spelled
returns-in-Ok-clause-spelled c = spelled_all c.args.source.now (Ok c.in-Ok.file) (read_here c)

pub returns-in-Ok-clause-complete : goal.returns-in-Ok-clause-complete
returns-in-Ok-clause-complete c = complete_all c.args.source.now (Ok c.in-Ok.file) (read_here c)

pub returns-in-Ok-clause-only : goal.returns-in-Ok-clause-only
returns-in-Ok-clause-only c = only_all c.args.source.now (Ok c.in-Ok.file) (read_here c)

pub locate-requires : goal.locate-requires
locate-requires c =
    let e = stop_is c.in-Err-Stop.field-0 c.in-Err-Stop.stop _ c.in-Err-Stop.field-0-is c.in-Err-Stop.ensures in
    let same = c.deref.ensures.value ∙ sym c.deref-in-Err-Stop.ensures.value in
    subst (λ (ts : List Token). tokens_left c.in-Err-Stop.stop ≤ length ts) same (stop_within c.args.source.now c.deref.result.now c.in-Err-Stop.stop e)

stop_here : (c : After-drop-tokens-2) → parsed_file c.args.source.now ≡ Err c.locate.result
stop_here c =
    let e = stop_is c.in-Err-Stop.field-0 c.in-Err-Stop.stop _ c.in-Err-Stop.field-0-is c.in-Err-Stop.ensures in
    let same = sym c.deref.ensures.value in
    stopped c.args.source.now (lexemes c.in_ok-tokens.tokens.items) c.in-Err-Stop.stop c.in_ok-tokens.ensures.reads (ap (λ (ts : List Token). all_of (file_at most_levels) (lexemes ts)) same ∙ e)
    ∙ ap (λ (ts : List Token). Err (located_fault c.args.source.now (lexemes ts) c.in-Err-Stop.stop)) (sym c.deref-in-Err-Stop.ensures.value) ∙ ap (λ (f : SyntaxFault). Err f) (sym c.locate.ensures)

pub returns-clause-reads : goal.returns-clause-reads
returns-clause-reads c = stop_here c

pub returns-clause-complete : goal.returns-clause-complete
returns-clause-complete c = complete_all c.args.source.now (Err (errors.Fault c.locate.result)) (stop_here c)

pub returns-clause-refused : goal.returns-clause-refused
returns-clause-refused c = refused_all c.args.source.now (Err (errors.Fault c.locate.result)) (stop_here c)

pub returns-in_err-tokens-clause-faulty : goal.returns-in_err-tokens-clause-faulty
returns-in_err-tokens-clause-faulty c = faulty_all c.args.source.now c.from_residual.result (no_tokens_here c)

pub returns-in_err-tokens-clause-fronts : goal.returns-in_err-tokens-clause-fronts
returns-in_err-tokens-clause-fronts c = fronts_shorter c.args.source.now

pub returns-in-Ok-clause-faulty : goal.returns-in-Ok-clause-faulty
returns-in-Ok-clause-faulty c = faulty_all c.args.source.now (Ok c.in-Ok.file) (read_here c)

pub returns-in-Ok-clause-fronts : goal.returns-in-Ok-clause-fronts
returns-in-Ok-clause-fronts c = fronts_shorter c.args.source.now

pub returns-in-Err-Memory-clause-faulty : goal.returns-in-Err-Memory-clause-faulty
returns-in-Err-Memory-clause-faulty c = faulty_all c.args.source.now (Err errors.Memory) tt

pub returns-in-Err-Memory-clause-fronts : goal.returns-in-Err-Memory-clause-fronts
returns-in-Err-Memory-clause-fronts c = fronts_shorter c.args.source.now

pub returns-clause-faulty : goal.returns-clause-faulty
returns-clause-faulty c = faulty_all c.args.source.now (Err (errors.Fault c.locate.result)) (stop_here c)

pub returns-clause-fronts : goal.returns-clause-fronts
returns-clause-fronts c = fronts_shorter c.args.source.now

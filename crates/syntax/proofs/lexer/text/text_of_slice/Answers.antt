use Rattle.std.proofs.Common.{◌≡◌, ◌∙◌, sym, subst, string_bytes}
use Rattle.syntax.specs.lexer.Texts.{text_of, TokenStandsFor}
use Rattle.syntax.proofs.NamedTokens.{token_names, names_only, if_ok}
use Rattle.syntax.proofs.lexer.text.text_of_slice.Goals as goal

pub returns-clause-source : goal.returns-clause-source
returns-clause-source c = λ rest t.
    if_ok (λ s. string_bytes s ≡ text_of c.args.kind c.args.slice.now) (λ s. TokenStandsFor c.args.kind c.args.slice.now (string_bytes s))
    (λ s e. subst (TokenStandsFor c.args.kind c.args.slice.now) (sym e) (token_names c.args.kind c.args.slice.now rest t)) c.stood_for.result c.stood_for.ensures

pub returns-clause-only : goal.returns-clause-only
returns-clause-only c = λ text t.
    if_ok (λ s. string_bytes s ≡ text_of c.args.kind c.args.slice.now) (λ s. string_bytes s ≡ text) (λ s e. e ∙ names_only c.args.kind c.args.slice.now text t) c.stood_for.result c.stood_for.ensures

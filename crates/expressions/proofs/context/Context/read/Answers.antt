use Rattle.std.proofs.Common.{List, [], ◌≡◌, ℕ, ◌<◌, ◌≤◌, Option, length, unwrap_or, ap, refl, sym, subst, ◌∙◌}
use Rattle.std.specs.Str.{is_utf8}
use Rattle.ports.specs.Tree.{bytes_at, file_at}
use Rattle.world.specs.Plan.{deed}
use Rattle.world.proofs.Holding.{holds_later}
use Rattle.world.specs.DefinitionFiles.{most_bytes, spelled_by}
use Rattle.expressions.proofs.Evaluating.{given_as}
use Rattle.expressions.proofs.Opening.{given_over, given_short, given_within}
use Rattle.expressions.proofs.context.Context.read.Goals as goal

pub returns-then-size-gt-MOST_BYTES-clause-gives : goal.returns-then-size-gt-MOST_BYTES-clause-gives
returns-then-size-gt-MOST_BYTES-clause-gives g c = λ files bytes h at size.
    given_over bytes (subst (λ n. most_bytes < n) size c.if-size-gt-MOST_BYTES.true) h c.line-line.ensures c.refuse.ensures

pub returns-in_err-bytes-clause-gives : goal.returns-in_err-bytes-clause-gives
returns-in_err-bytes-clause-gives g c = λ files bytes h at size.
    given_short c.in_err-bytes.field-0.0 (holds_later c.in_err-bytes.ensures.stays h) c.in_err-bytes.ensures.no_fault c.from_residual.ensures.1 refl

pub returns-clause-gives : goal.returns-clause-gives
returns-clause-gives g c = λ files bytes h at size.
    let there : bytes_at files c.file.result.now ≡ bytes = ap (λ path. unwrap_or (file_at files path) []) c.file.ensures ∙ ap (λ (o : Option (List ℕ)). unwrap_or o []) at in
    let all : c.deref.result.now ≡ bytes = c.deref.ensures.value ∙ c.in_ok-bytes.ensures.bytes files h (size ∙ ap length (sym there)) ∙ there in
    let rest = given_as (ap (λ bs. deed (spelled_by (is_utf8 bs) bs)) all) (c.code_of.ensures.gives files (holds_later c.in_ok-bytes.ensures.stays h)) in
    given_within bytes (subst (λ n. n ≤ most_bytes) size c.if-size-gt-MOST_BYTES.false) (record { gives = rest.gives; holds = rest.holds })

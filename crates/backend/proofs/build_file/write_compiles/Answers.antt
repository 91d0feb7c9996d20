use Rattle.std.proofs.Common.{◌≡◌, ◌<◌, List, length, get_or, subst, arith}
use Rattle.std.proofs.lemmas.Grind.{common_steps}
use Rattle.ports.proofs.Sending.{writes_next}
use Rattle.ports.specs.Outputs.{puts}
use Rattle.build.specs.declared.sources.Input.{Input}
use Rattle.ninja.specs.Writing.{edge_text}
use Rattle.backend.proofs.Stopping.{writes_ends_at}
use Rattle.backend.proofs.TargetTexts.{edge_for, first_held}
use Rattle.backend.proofs.build_file.write_compiles.Goals as goal

pub write_compile-requires-clause-first : goal.write_compile-requires-clause-first
write_compile-requires-clause-first g c =
    let p = c.args.parts.now in
    let i = c.loop-input.input-index in
    let within : i < length p.inputs.items = subst (λ (xs : List Input). i < length xs) c.deref-input-items.ensures.value c.loop-input-test.true in
    first_held p.words.items p.inputs.items i within p.first

pub returns-in_err-write_compile : goal.returns-in_err-write_compile
returns-in_err-write_compile g c =
    let p = c.args.parts.now in
    let i = c.loop-input.input-index in
    let one = c.input-item.result in
    let within : i < length p.inputs.items = subst (λ (xs : List Input). i < length xs) c.deref-input-items.ensures.value c.loop-input-test.true in
    let at : one ≡ get_or p.inputs.items i one = subst (λ (xs : List Input). one ≡ get_or xs i one) c.deref-input-items.ensures.value c.input-item.is in
    writes_ends_at (λ i. puts (edge_text (edge_for p i))) p.inputs.items i one _ c.in_err-write_compile.field-0.0
    c.loop-input.invariant within at c.from_residual.ensures.1 c.in_err-write_compile.ensures

pub loop-input-preserved : goal.loop-input-preserved
loop-input-preserved g c =
    let p = c.args.parts.now in
    let i = c.loop-input.input-index in
    let one = c.input-item.result in
    let within : i < length p.inputs.items = subst (λ (xs : List Input). i < length xs) c.deref-input-items.ensures.value c.loop-input-test.true in
    let at : one ≡ get_or p.inputs.items i one = subst (λ (xs : List Input). one ≡ get_or xs i one) c.deref-input-items.ensures.value c.input-item.is in
    writes_next (λ i. puts (edge_text (edge_for p i))) p.inputs.items i one c.loop-input.invariant within at c.in_ok-write_compile.ensures

pub returns : goal.returns
returns g c = grind (arith, common_steps)

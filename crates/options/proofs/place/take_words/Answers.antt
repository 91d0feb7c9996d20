use Rattle.std.proofs.Common.{◌∙◌, ◌+◌, sym, ap, string_bytes}
use Rattle.options.specs.option_file.View.{options_in}
use Rattle.options.specs.Resolves.{State, next}
use Rattle.options.specs.declared.fault.Origin.TheVariants.{CommandLine}
use Rattle.options.specs.Verdicts.{of_assignment}
use Rattle.options.specs.View.{state_in}
use Rattle.options.proofs.Folds.{fold_word_at, rest_of_words}
use Rattle.options.proofs.place.take_words.Goals as goal

pub loop-i-preserved : goal.loop-i-preserved
loop-i-preserved c =
    let ds = options_in c.args.known.now.declared.now in
    let f = of_assignment ds (CommandLine (c.loop-i.i + 1)) in
    c.in_ok-next.ensures ∙ ap (next (state_in c.loop-i.state)) (c.in_ok-verdict.ensures ∙ ap f c.as_str.ensures.value)
    ∙ ap (λ (s : State). next s (f (string_bytes c.index-words-i.result))) c.loop-i.invariant
    ∙ sym (fold_word_at ds (state_in c.args.state.now) c.args.words.now c.loop-i.i c.index-words-i.result c.loop-i-test.true
    c.index-words-i.is)

pub returns-then-is_refused : goal.returns-then-is_refused
returns-then-is_refused c = rest_of_words (options_in c.args.known.now.declared.now) (state_in c.args.state.now) (state_in c.loop-i.state)
    c.args.words.now c.loop-i.i
    c.loop-i.invariant (sym c.is_refused.ensures ∙ c.if-is_refused.true)

use Rattle.std.proofs.Common.{[], Bor, List, ℕ, arith, get_or}
use Rattle.std.proofs.lemmas.Grind.{common_steps}
use Rattle.ports.proofs.Sending.{writes_exit, writes_next, writes_until}
use Rattle.ninja.specs.Steps.{later_word_steps}
use Rattle.ninja.proofs.words.write_last_words.Goals as goal

-- a text that stands nowhere
abbrev none : Bor (List ℕ)
none = record { ref_ptr = (0, 0); now = [] }

pub returns-in_err-write_later_word : goal.returns-in_err-write_later_word
returns-in_err-write_later_word g c =
    let words = c.args.words.now in
    let i = c.loop-word.word-index in
    writes_exit _ c.from_residual.ensures.0
    (writes_until (λ (w : Bor (List ℕ)). later_word_steps w.now) words i (get_or words i none) c.loop-word.invariant c.loop-word-test.true
    (grind (arith, common_steps)) c.in_err-write_later_word.ensures)

pub loop-word-preserved : goal.loop-word-preserved
loop-word-preserved g c =
    let words = c.args.words.now in
    let i = c.loop-word.word-index in
    writes_next (λ (w : Bor (List ℕ)). later_word_steps w.now) words i (get_or words i none) c.loop-word.invariant c.loop-word-test.true
    (grind (arith, common_steps)) c.in_ok-write_later_word.ensures

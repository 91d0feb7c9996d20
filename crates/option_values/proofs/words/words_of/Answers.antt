use Rattle.std.proofs.Common.{◌≡◌, ◌∙◌, sym, arith, subst, IfOk}
use Rattle.std.proofs.lemmas.Iterator.{YieldsList-from_chars}
use Rattle.std.proofs.lemmas.Iterator.Consumers.{YieldsList-turn, YieldsList-end}
use Rattle.std.proofs.lemmas.List.{at_drop_all, length_push}
use Rattle.std.specs.Option.{option_map}
use Rattle.std.specs.Str.{chars}
use Rattle.option_values.specs.View.{strings_in}
use Rattle.option_values.specs.Words.{Cut, initial_cut, cut_from, words_of_cut}
use Rattle.option_values.specs.WordsView.{cut_in}
use Rattle.option_values.proofs.OptionValuesCutting.{cut_on}
use Rattle.option_values.proofs.Shell.{both_ways, cut_written, written_cut}
use Rattle.option_values.proofs.words.words_of.Goals as goal

pub loop-character-preserved : goal.loop-character-preserved
loop-character-preserved c =
    let turn = YieldsList-turn (YieldsList-from_chars c.args.text.now c.utf8.text cc) c.loop-character.yielded _ c.loop-character.yielded_by
    _ _ c.in-Some.character c.in-Some.is c.next.ensures.steps in
    cut_on (cut_in c.loop-character.cutting) _ _ (chars c.args.text.now) _ _ _ turn c.loop-character.invariant c.in_ok-cutting.ensures
    (length_push c.loop-character.yielded c.in-Some.character)

pub returns : goal.returns
returns c =
    let end = YieldsList-end (YieldsList-from_chars c.args.text.now c.utf8.text cc) c.loop-character.yielded _ c.loop-character.yielded_by _
    _ c.in-None.is c.next.ensures.steps in
    let whole : cut_in c.loop-character.cutting ≡ cut_from initial_cut (chars c.args.text.now) =
    sym (at_drop_all (cut_from (cut_in c.loop-character.cutting)) (chars c.args.text.now) _ (omega (arith, end.1)))
    ∙ c.loop-character.invariant in
    let P : Cut → Type 0 = λ s. IfOk c.end.result (λ words. option_map (λ w. strings_in w.items) words ≡ words_of_cut s) in
    let value = subst P whole c.end.ensures in
    record {
      value = value;
      written = λ given. both_ways (λ w. strings_in w.items) c.end.result _ given _ value (cut_written (chars c.args.text.now) given)
          (written_cut (chars c.args.text.now) given);
    }

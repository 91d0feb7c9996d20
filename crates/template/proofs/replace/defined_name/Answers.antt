use Rattle.std.proofs.Common.{sym, ◌∙◌, ap, eqb-true, eq-eqb}
use Rattle.std.proofs.lemmas.Bool.{false≢true}
use Rattle.std.specs.Str.{bytes_eq}
use Rattle.template.proofs.Words.{defines_name, is_name_bytes, malformed_word, malformed_name, malformed_more}
use Rattle.template.proofs.replace.defined_name.Goals.{else-eq-via-then-eq+then-is_placeholder_name+else-is_empty, else-eq-via-then-eq+else-is_placeholder_name}
use Rattle.template.proofs.replace.defined_name.Goals.{else-eq-via-else-eq}
use Rattle.template.proofs.replace.defined_name.Goals as goal

pub returns-then-is_empty-clause-read : goal.returns-then-is_empty-clause-read
returns-then-is_empty-clause-read c =
    let second = c.first_word-second.result in
    let third = c.first_word-third.result in
    let a = c.if-eq.ensures in let b = c.if-is_placeholder_name.ensures in let e = c.if-is_empty.ensures in
    defines_name c.args.word.now c.args.rest.now second.word.now second.rest.now third.word.now third.rest.now c.first_word-second.ensures c.first_word-third.ensures
    (sym (a ∙ ap (bytes_eq c.args.word.now) c.as_slice.ensures)) (sym b) (eqb-true _ 0 (sym e))

pub returns-then-is_empty-clause-named : goal.returns-then-is_empty-clause-named
returns-then-is_empty-clause-named c = let b = c.if-is_placeholder_name.ensures in is_name_bytes c.first_word-second.result.word.now (sym b)

pub returns-else-eq-clause-read : goal.returns-else-eq-clause-read
returns-else-eq-clause-read c =
    let second = c.first_word-second.result in
    let third = c.first_word-third.result in
    elim c.else-eq.branch [
      | else-eq-via-then-eq+then-is_placeholder_name+else-is_empty w ↦ malformed_more c.args.word.now c.args.rest.now second.word.now second.rest.now third.word.now third.rest.now c.first_word-second.ensures c.first_word-third.ensures (λ none. false≢true (w.if-is_empty.ensures ∙ eq-eqb _ 0 none))
      | else-eq-via-then-eq+else-is_placeholder_name w ↦ malformed_name c.args.word.now c.args.rest.now second.word.now second.rest.now c.first_word-second.ensures (sym w.if-is_placeholder_name.ensures)
      | else-eq-via-else-eq w ↦ (let a = w.if-eq.ensures in malformed_word c.args.word.now c.args.rest.now (sym (a ∙ ap (bytes_eq c.args.word.now) c.as_slice.ensures)))
    ]

use Rattle.std.proofs.Common.{◌-◌, length, take, drop, sym, ap, ◌∙◌, subst}
use Rattle.std.proofs.lemmas.List.{take_rest}
use Rattle.template.specs.Scan.{IsFirstWord}
use Rattle.template.proofs.Words.{first_word_is}
use Rattle.template.proofs.replace.first_word.Goals as goal

pub returns : goal.returns
returns c =
    let bytes = c.args.bytes.now in
    let blanks = c.blank_prefix.result in
    let text = take (length bytes - blanks) (drop blanks bytes) in
    let len = c.word_prefix-len.result in
    let is = first_word_is bytes text len (take_rest bytes blanks ∙ ap (λ n. drop n bytes) c.blank_prefix.ensures.same) c.word_prefix-len.ensures.same c.word_prefix-len.ensures.within in
    subst (λ r. IsFirstWord bytes (take len text) r) (sym (take_rest text len)) is

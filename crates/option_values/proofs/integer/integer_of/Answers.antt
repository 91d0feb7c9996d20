use Rattle.std.proofs.Common.{◌∙◌, lit<, sym}
use Rattle.std.proofs.lemmas.Bool.{false≢true}
use Rattle.std.proofs.lemmas.Str.Pattern.{starts_char}
use Rattle.option_values.proofs.Parsing.{integer_read}
use Rattle.option_values.proofs.integer.integer_of.Goals as goal

pub returns : goal.returns
returns c =
    let plus = starts_char 43 c.args.text.now c.starts_with.result c.starts_with.ensures.cases (lit< tt) (lit< tt) in
    c.ok.ensures.value ∙ integer_read c.args.text.now c.parse.result c.parse.ensures.value.0 (λ e. false≢true (sym c.if-starts_with.false
    ∙ plus.1 e))

use Rattle.std.proofs.Common.{sym}
use Rattle.std.proofs.lemmas.List.{length-take-le}
use Rattle.syntax.proofs.Cuts.{word_fits}
use Rattle.syntax.proofs.lexer.number.number_at.Goals as goal

pub slice_bounds-is_number-end : goal.slice_bounds-is_number-end
slice_bounds-is_number-end c = sym (length-take-le c.word_length-length.result c.args.bytes.now (word_fits c.args.bytes.now c.word_length-length.result c.word_length-length.ensures))

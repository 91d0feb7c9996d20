use Rattle.std.proofs.Common.{ap, ◌∙◌, rules}
use Rattle.values.specs.View.{data_of}
use Rattle.values.specs.printing.Pieces.{whole}
use Rattle.values.proofs.PieceLemmas.{whole_pieces}
use Rattle.values.proofs.printing.pieces.Printer.new.Goals as goal

pub returns-clause-pieces : goal.returns-clause-pieces
returns-clause-pieces c = search rules

pub returns-clause-whole : goal.returns-clause-whole
returns-clause-whole c = ap whole (returns-clause-pieces c) ∙ whole_pieces (data_of c.args.value.now)

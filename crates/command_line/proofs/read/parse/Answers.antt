use Rattle.std.proofs.Common.{◌∙◌, ap, map, string_bytes, subst}
use Rattle.clap.specs.Words.{App, kind_of}
use Rattle.clap.specs.Kinds.{HasKind}
use Rattle.clap.specs.Faults.{fault_of, is_simple_and_free}
use Rattle.command_line.proofs.Lines.{due, meson_is_simple}
use Rattle.command_line.proofs.read.parse.Goals as goal

pub returns-in-Err : goal.returns-in-Err
returns-in-Err c =
    let words = map string_bytes c.args.words.now in
    let kinds = c.in-Err.ensures.kinds (ap is_simple_and_free c.in_ok-command.ensures ∙ meson_is_simple) in
    due words (kind_of c.in-Err.error) c.fault_of.result c.fault_of.ensures
    (subst (λ (a : App). HasKind (fault_of a words) c.in-Err.error) c.in_ok-command.ensures kinds)

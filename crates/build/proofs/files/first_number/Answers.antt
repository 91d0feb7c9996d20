use Rattle.std.proofs.Common.{sym, ap, ◌∙◌, lit<}
use Rattle.std.proofs.lemmas.Str.Pattern.{split_parts}
use Rattle.build.specs.Files.{first_number}
use Rattle.build.proofs.FirstNumber.{first_number-plain, first_number-parts}
use Rattle.build.proofs.files.first_number.Goals as goal

pub returns-in-Some : goal.returns-in-Some
returns-in-Some c =
    let version = c.args.version.now in
    let cut = rw c.in-Some.is at (split_parts 46 version c.split_once.result c.split_once.ensures.cases (lit< tt)) in
    sym (ap first_number cut.0 ∙ first_number-parts c.in-Some.number.now _ cut.1)

pub returns-in-None : goal.returns-in-None
returns-in-None c =
    let version = c.args.version.now in
    let none = rw c.in-None.is at (split_parts 46 version c.split_once.result c.split_once.ensures.cases (lit< tt)) in
    sym (first_number-plain version none)

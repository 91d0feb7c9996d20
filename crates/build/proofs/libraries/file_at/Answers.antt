use Rattle.std.proofs.Common.{ap, sym, option_map, ◌∙◌}
use Rattle.build.specs.Files.{file_path}
use Rattle.build.proofs.LinkedLists.{build_got, build_missed}
use Rattle.build.proofs.libraries.file_at.Goals as goal

pub returns-in-Some : goal.returns-in-Some
returns-in-Some c =
    c.file_of.ensures
    ∙ ap (option_map file_path) (sym (build_got c.args.earlier.now c.args.number c.in-Some.linked.now c.in-Some.ensures.lookup.0 c.in-Some.ensures.lookup.1))

pub returns-in-None : goal.returns-in-None
returns-in-None c = ap (option_map file_path) (sym (build_missed c.args.earlier.now c.args.number c.in-None.ensures.lookup.0))

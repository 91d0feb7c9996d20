use Rattle.std.proofs.Common.{rules, tests, sym, ◌∙◌, string_bytes}
use Rattle.std.proofs.lemmas.Iterator.{YieldsList-from_slice}
use Rattle.std.proofs.lemmas.Iterator.Search.{all_from_yields_List}
use Rattle.build.proofs.TextLists.{texts-list_all}
use Rattle.support.specs.paths.Names.{is_file_name}
use Rattle.build.proofs.project.acceptance.all_file_names.Goals as goal

pub returns : goal.returns
returns c =
    all_from_yields_List (λ s. is_file_name (string_bytes s)) _ _ _ c.all.ensures.ran (YieldsList-from_slice c.args.names.now (cc)) (λ x b q k. search (rules, tests))
    ∙ sym (texts-list_all is_file_name c.args.names.now)

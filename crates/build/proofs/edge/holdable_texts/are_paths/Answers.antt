use Rattle.std.proofs.Common.{rules, tests, sym, ◌∙◌, string_bytes}
use Rattle.std.proofs.lemmas.Iterator.{YieldsList-from_slice}
use Rattle.std.proofs.lemmas.Iterator.Search.{all_from_yields_List}
use Rattle.build.specs.edge.Holding.{is_path}
use Rattle.build.proofs.TextLists.{texts-list_all}
use Rattle.build.proofs.edge.holdable_texts.are_paths.Goals as goal

pub returns : goal.returns
returns c =
    all_from_yields_List (λ s. is_path (string_bytes s)) _ _ _ c.all.ensures.ran (YieldsList-from_slice c.args.paths.now (cc)) (λ x b q k. search (rules, tests))
    ∙ sym (texts-list_all is_path c.args.paths.now)

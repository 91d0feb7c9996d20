use Rattle.std.proofs.Common.{rules, tests, sym, ◌∙◌, string_bytes}
use Rattle.std.proofs.lemmas.Iterator.{YieldsList-from_slice}
use Rattle.std.proofs.lemmas.Iterator.Search.{any_from_yields_List}
use Rattle.build.proofs.TextLists.{list_any-map}
use Rattle.build.specs.Sources.{is_c}
use Rattle.build.proofs.project.acceptance.are_some_c.Goals as goal

pub returns : goal.returns
returns c =
    any_from_yields_List (λ s. is_c (string_bytes s)) _ _ _ c.any.ensures.ran (YieldsList-from_slice c.args.paths.now (cc)) (λ x b q k. search (rules, tests))
    ∙ sym (list_any-map is_c string_bytes c.args.paths.now)

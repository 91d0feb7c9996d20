use Rattle.std.proofs.Common.{rules, tests, ◌∙◌}
use Rattle.std.specs.Prelude.{bytes_eq}
use Rattle.std.proofs.lemmas.Iterator.{YieldsList-from_slice}
use Rattle.std.proofs.lemmas.Iterator.Search.{any_from_yields_List}
use Rattle.option_values.specs.declared.built_in.BuiltIn.{BuiltIn}
use Rattle.option_values.proofs.BuiltInRows.{any_built_in}
use Rattle.option_values.proofs.built_in.is_built_in.Goals as goal

pub returns : goal.returns
returns c =
    any_from_yields_List (λ (row : BuiltIn). bytes_eq c.args.name.now row.name.now) _ _ _ c.any.ensures.ran
    (YieldsList-from_slice c.built_ins.result.now (cc)) (λ x b q k. search (rules, tests))
    ∙ any_built_in c.args.name.now c.built_ins.result.now c.built_ins.ensures

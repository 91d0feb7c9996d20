use Rattle.std.proofs.Common.{◌∙◌, ap, [], List, map, arith}
use Rattle.std.specs.List.{fold}
use Rattle.std.proofs.lemmas.List.{take_all}
use Rattle.option_values.specs.declared.built_in.BuiltIn.{BuiltIn}
use Rattle.option_values.specs.BuiltIns.{add_kind}
use Rattle.option_values.specs.View.{kinds_in, row_in}
use Rattle.option_values.proofs.BuiltInRows.{step_more}
use Rattle.option_values.proofs.BuiltInRows.{all_kinds, seventeen}
use Rattle.option_values.proofs.built_in.built_in_kinds.Goals as goal

pub loop-row-init : goal.loop-row-init
loop-row-init c = ap kinds_in c.new_map-kinds.ensures.entries

pub loop-row-preserved : goal.loop-row-preserved
loop-row-preserved c = step_more add_kind row_in [] _ _ _ c.loop-row.row-index _ c.in_ok-put_kind_of.ensures c.loop-row.invariant
    (omega (arith, seventeen _ c.built_ins-row-items.ensures, c.loop-row-test.true))

pub returns : goal.returns
returns c =
    c.loop-row.invariant
    ∙ ap (λ (xs : List BuiltIn). fold add_kind [] (map row_in xs))
    (take_all c.loop-row.row-index _ (omega (arith, seventeen _ c.built_ins-row-items.ensures, c.loop-row-test.false)))
    ∙ ap (fold add_kind []) c.built_ins-row-items.ensures ∙ all_kinds

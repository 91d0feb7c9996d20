use Rattle.std.proofs.Common.{◌≡◌, List, [], ◌∷◌, map, refl, ap, subst, IfOk, ◌∙◌}
use Rattle.build.specs.edge.Texts.{texts}
use Rattle.option_values.specs.BuiltIns as plain
use Rattle.option_values.specs.View.{row_in}
use Rattle.option_values.specs.declared.built_in.BuiltIn.{BuiltIn}
use Rattle.project_calls.proofs.resolution.built_in_names.Goals as goal

names_are : (rows : List BuiltIn) → map (λ (row : BuiltIn). row.name.now) rows ≡ map (λ (b : plain.BuiltIn). b.name) (map row_in rows)
names_are [] = refl
names_are (row ∷ rows) = ap (λ ns. row.name.now ∷ ns) (names_are rows)

pub returns : goal.returns
returns c =
    subst (λ names. IfOk c.row_names.result (λ v. texts v.items ≡ names))
    (names_are c.built_ins.result.now ∙ ap (map (λ (b : plain.BuiltIn). b.name)) c.built_ins.ensures) c.row_names.ensures

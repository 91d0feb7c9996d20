use Rattle.std.proofs.Common.{◌≡◌, List, [], ◌∷◌, true, length, Option, map, sym, ap, ◌∙◌, arith}
use Rattle.std.specs.Prelude.{◌==◌, option_map}
use Rattle.std.proofs.lemmas.Iterator.Adapters.{option_map_id}
use Rattle.std.proofs.lemmas.List.{map-id}
use Rattle.build.specs.edge.Texts.{Path, Text}
use Rattle.support.specs.paths.Paths.{path_in}
use Rattle.target_calls.specs.CustomNames.{NamesData}
use Rattle.target_calls.specs.CustomTargetsView.{names_view}
use Rattle.target_calls.proofs.custom.files_below.Goals as goal

abbrev named : List Text → Option Text → NamesData
named outputs depfile = record { outputs = outputs; depfile = depfile }

-- in the root a name is a path
in_root : (folder : Path) (n : NamesData) → true ≡ (length folder == 0)
    → n ≡ named (map (path_in folder) n.outputs) (option_map (path_in folder) n.depfile)
in_root [] n h = ap (λ os. named os n.depfile) (sym (map-id n.outputs)) ∙ ap (named (map (path_in []) n.outputs)) (sym (option_map_id n.depfile))
in_root (b ∷ bs) n h = absurd (grind arith)

pub returns-then-is_empty : goal.returns-then-is_empty
returns-then-is_empty c = in_root c.args.here.now.folder.now (names_view c.args.names.now) (sym c.if-is_empty.true ∙ c.is_empty.ensures)

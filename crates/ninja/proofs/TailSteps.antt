-- The edge `all`, put piece by piece: its text.
use Rattle.std.proofs.Common.{◌≡◌, Bool, true, false, List, [], ◌∷◌, ◌++◌, String, Global, codes, refl, sym, ap, ◌∙◌}
use Rattle.std.specs.Prelude.{if◌then◌else◌}
use Rattle.std.specs.List.{flat_map}
use Rattle.std.proofs.lemmas.List.Concat.{flat_map-append}
use Rattle.std.proofs.lemmas.List.Folds.{flat_map-map}
use Rattle.ports.specs.Outputs.{puts}
use Rattle.build.specs.edge.Texts.{Path, texts}
use Rattle.build.specs.Data.{TargetData}
use Rattle.build.specs.Files.{default_paths}
use Rattle.build.specs.Libraries.{linked_of}
use Rattle.build.specs.DeclaredTargetViews.{declared_target_views}
use Rattle.build.specs.View.{target_view}
use Rattle.build.specs.declared.declared_target.DeclaredTarget.{DeclaredTarget}
use Rattle.build.proofs.LinkedLists.{kept_targets}
use Rattle.ninja.specs.Defaults.{defaults_of, is_default}
use Rattle.ninja.specs.Steps.{paths_steps}
use Rattle.ninja.specs.Tail.{all_steps, default_steps}
use Rattle.ninja.specs.Writing.{paths_text, spaced_path_text, tail_text}
use Rattle.ninja.proofs.EdgeSteps.{paths_is}
use Rattle.ninja.proofs.EdgeTexts.{tail_is}
use Rattle.ninja.proofs.Puts.{join, puts-nil}

chosen : (b : Bool) (kept : List (String Global)) (paths : List Path) → texts kept ≡ paths
    → (if b then paths_steps kept else []) ≡ puts (paths_text (if b then paths else []))
chosen true kept paths e = paths_is kept ∙ ap (λ ps. puts (paths_text ps)) e
chosen false kept paths e = sym puts-nil

abbrev kept_defaults : DeclaredTarget → List Path
kept_defaults l = defaults_of (target_view l.target)

defaults_are : (ls : List DeclaredTarget) → flat_map default_steps ls ≡ puts (paths_text (flat_map kept_defaults ls))
defaults_are [] = sym puts-nil
defaults_are (l ∷ ls) =
    join (paths_text (kept_defaults l)) (paths_text (flat_map kept_defaults ls))
    (chosen (is_default (target_view l.target)) l.paths.items (default_paths (target_view l.target)) l.paths_are) (defaults_are ls)
    ∙ ap puts (sym (flat_map-append spaced_path_text (kept_defaults l) (flat_map kept_defaults ls)))

-- the targets, as they are kept
asked_are : (kept : List DeclaredTarget) (ts : List TargetData) → declared_target_views kept ≡ linked_of ts → flat_map kept_defaults kept ≡ flat_map defaults_of ts
asked_are kept ts e = sym (flat_map-map defaults_of (λ (l : DeclaredTarget). target_view l.target) kept) ∙ ap (flat_map defaults_of) (kept_targets kept ts e)

pub all_is : (kept : List DeclaredTarget) (ts : List TargetData) → declared_target_views kept ≡ linked_of ts
    → all_steps kept ≡ puts (tail_text (flat_map defaults_of ts))
all_is kept ts e =
    let names = flat_map kept_defaults kept in
    join (codes "build all: phony") (paths_text names ++ codes "\n\ndefault all\n") refl
    (join (paths_text names) (codes "\n\ndefault all\n") (defaults_are kept) refl)
    ∙ ap puts (tail_is names) ∙ ap (λ ps. puts (tail_text ps)) (asked_are kept ts e)

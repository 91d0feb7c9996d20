-- Settings that are made of texts.
use Rattle.std.proofs.Common.{◌≡◌, ℕ, Bool, true, false, List, length, Option, Some, None, refl, ap, ◌∙◌, if◌then◌else◌}
use Rattle.support.specs.paths.Below.{path_below}
use Rattle.support.specs.paths.BuildFolders.{tidy_path}
use Rattle.support.specs.paths.Paths.{parts_of}
use Rattle.world.specs.MakingSettings.{settings_of}
use Rattle.world.specs.Settings.{SettingsData}

-- a folder that was given is the one that is named
pub named : (b : Bool) (x y : List ℕ) → Some x ≡ (if b then Some y else None) → (b ≡ true) × (x ≡ y)
named true x y e = (refl, cc)
named false x y e = cc

pub made : (root folder : List ℕ) (words : List (List ℕ)) (d : ℕ) (r b t : List ℕ) → d ≡ length (parts_of t) → r ≡ root
    → b ≡ path_below root t → t ≡ tidy_path folder
    → record { words = words; depth = d; source_root = r; build_root = b } ≡ settings_of root folder words
made root folder words d r b t depth source build tidy =
    ap (λ (x : ℕ). let s : SettingsData = record { words = words; depth = x; source_root = r; build_root = b } in s)
    (depth ∙ ap (λ x. length (parts_of x)) tidy)
    ∙ ap (λ (x : List ℕ). let s : SettingsData = record { words = words; depth = length (parts_of (tidy_path folder)); source_root = x; build_root = b } in s)
    source
    ∙ ap (λ (x : List ℕ). let s : SettingsData = record { words = words; depth = length (parts_of (tidy_path folder)); source_root = root; build_root = x } in s)
    (build ∙ ap (path_below root) tidy)

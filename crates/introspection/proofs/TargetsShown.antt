-- What targets show.
use Rattle.std.proofs.Common.{◌≡◌, List, [], ◌∷◌, ap, codes, take, String, Global, string_bytes}
use Rattle.build.specs.edge.Texts.{Path, Text, texts}
use Rattle.build.specs.Data.{BuildData, CustomData}
use Rattle.build.specs.Files.{file_path, output_paths}
use Rattle.introspection.specs.Document.{build_entry, custom_entry, kind_name}
use Rattle.introspection.specs.Pieces.{entry_of}

pub build_shown : (t : BuildData) (folder : Path) (files : List Path) (name kind : Text)
    → folder ≡ t.folder → files ≡ file_path t ∷ [] → name ≡ t.name → kind ≡ kind_name t.kind
    → entry_of t.is_default folder files t.is_installed name kind ≡ build_entry t
build_shown t folder files name kind a b c d = rw (a, b, c, d)

pub custom_shown : (t : CustomData) (folder : Path) (files : List Path) (name : Text) → folder ≡ t.folder → files ≡ output_paths t → name ≡ t.name
    → entry_of t.is_default folder files t.is_installed name (codes "custom") ≡ custom_entry t
custom_shown t folder files name a b c = rw (a, b, c)

-- the file of a build target among what it is asked for
pub first_file : (paths : List (String Global)) (file : Path) (links : List Path) → texts paths ≡ file ∷ links → texts (take 1 paths) ≡ file ∷ []
first_file [] file links e = absurd cc
first_file (p ∷ ps) file links e = let same : string_bytes p ≡ file = cc in ap (λ f. f ∷ []) same

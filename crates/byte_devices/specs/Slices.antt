-- Defines when three slices spell a tree of files.
use Rattle.std.specs.Prelude.{◌≡◌, ℕ, List, [], ◌∷◌, ◌++◌, map, drop, length, None}
use Rattle.std.specs.List.{flat_map}
use Rattle.ports.specs.Tree.{file_at}
use Rattle.byte_devices.specs.Texts.{IsText, BeginsWith, null_terminated_text}

-- Holds if the paths are texts, and no two of them are the same.
abbrev pub AreNamed : List (List ℕ × List ℕ) → Type 0
AreNamed [] = Unit {0}
AreNamed (file ∷ files) = IsText file.0 × (file_at files file.0 ≡ None) × AreNamed files

-- Holds if the slices spell these files: the paths, each ended by a zero byte; the sizes; and the contents, joined.
pub record Spells (paths sizes contents : List ℕ) (files : List (List ℕ × List ℕ)) : Type 0 where
  pub are_paths : paths ≡ flat_map (λ file. null_terminated_text file.0) files
  pub are_sizes : sizes ≡ map (λ file. length file.1) files
  pub are_contents : contents ≡ flat_map (λ file. file.1) files
  pub named : AreNamed files

-- Holds if this is the first file: the paths begin with its path, the contents with its bytes, and there are as many bytes as the size
-- says.
pub record IsFirst (paths : List ℕ) (size : ℕ) (contents : List ℕ) (path bytes : List ℕ) : Type 0 where
  pub path_first : BeginsWith paths path
  pub long : length bytes ≡ size
  pub bytes_first : contents ≡ bytes ++ drop size contents

-- Holds if no file of this size is first.
abbrev pub HasNoFirst : List ℕ → ℕ → List ℕ → Type 0
HasNoFirst paths size contents = (path bytes more rest : List ℕ) → IsText path → paths ≡ null_terminated_text path ++ more
    → length bytes ≡ size
    → contents ≡ bytes ++ rest → ⊥

-- Defines the words for the value of a keyword.
use Rattle.std.specs.Prelude.{ℕ, List, [], ◌∷◌, true, false, codes}
use Rattle.std.specs.List.{flat_map}
use Rattle.values.specs.Data.{Data, boolean, object, text}
use Rattle.values.specs.declared.object.Feature.{Feature}
use Rattle.values.specs.declared.object.Feature.TheVariants as features
use Rattle.values.specs.declared.object.Object.TheVariants as objects

-- Returns the name of a feature's state.
abbrev pub state_word : Feature → List ℕ
state_word features.Enabled = codes "enabled"
state_word features.Disabled = codes "disabled"
state_word features.Auto = codes "auto"

-- Returns the words for a value: a text itself, the name of a boolean, of a feature's state or of a dependency, and the paths of
-- directories.
abbrev pub words_of : Data → List (List ℕ)
words_of (text t) = t ∷ []
words_of (boolean true) = codes "true" ∷ []
words_of (boolean false) = codes "false" ∷ []
words_of (object (objects.Feature feature)) = state_word feature ∷ []
words_of (object (objects.Dependency dependency)) = dependency.name ∷ []
words_of (object (objects.IncludeDirectories folders)) = folders
words_of _ = []

-- Returns the words for some values.
abbrev pub words_in : List Data → List (List ℕ)
words_in ds = flat_map words_of ds

-- Defines equality by structure.
use Rattle.std.specs.Prelude.{ℕ, Bool, true, false, ◌&&◌, ◌==◌, List, [], ◌∷◌, bytes_eq, not}
use Rattle.std.specs.Ordering.{int_eq}
use Rattle.values.specs.declared.object.Object.{Object}
use Rattle.values.specs.declared.object.Object.TheVariants as TheObject
use Rattle.values.specs.declared.object.Feature.{Feature}
use Rattle.values.specs.declared.object.Feature.TheVariants as TheFeature
use Rattle.values.specs.declared.object.Program.{Program}
use Rattle.values.specs.declared.object.Program.TheVariants as TheProgram
use Rattle.values.specs.declared.object.Source.{Source}
use Rattle.values.specs.declared.object.Source.TheVariants as TheSource
use Rattle.values.specs.declared.object.Dependency.{Dependency}
use Rattle.values.specs.Data.{Data, boolean, integer, text, list, dictionary, object, Items, no_items, item, Entries, no_entries, entry}

-- Holds if two booleans are equal.
abbrev pub same_boolean : Bool → Bool → Bool
same_boolean true b = b
same_boolean false b = not b

-- Holds if two lists of texts are equal.
abbrev pub same_texts : List (List ℕ) → List (List ℕ) → Bool
same_texts [] [] = true
same_texts (x ∷ xs) (y ∷ ys) = bytes_eq x y && same_texts xs ys
same_texts _ _ = false

-- Holds if two states of a feature are equal.
abbrev pub same_feature : Feature → Feature → Bool
same_feature TheFeature.Enabled TheFeature.Enabled = true
same_feature TheFeature.Disabled TheFeature.Disabled = true
same_feature TheFeature.Auto TheFeature.Auto = true
same_feature _ _ = false

-- Holds if two programs are equal.
abbrev pub same_program : Program → Program → Bool
same_program TheProgram.NotFound TheProgram.NotFound = true
same_program (TheProgram.Words v) (TheProgram.Words w) = same_texts v w
same_program (TheProgram.File p) (TheProgram.File q) = bytes_eq p q
same_program _ _ = false

-- Holds if two sources are equal.
abbrev pub same_source : Source → Source → Bool
same_source (TheSource.File p b) (TheSource.File q c) = bytes_eq p q && same_boolean b c
same_source (TheSource.CustomTarget m i) (TheSource.CustomTarget n j) = (m == n) && (i == j)
same_source (TheSource.CustomOutput m i) (TheSource.CustomOutput n j) = (m == n) && (i == j)
same_source _ _ = false

-- Holds if two lists of sources are equal.
abbrev pub same_sources : List Source → List Source → Bool
same_sources [] [] = true
same_sources (x ∷ xs) (y ∷ ys) = same_source x y && same_sources xs ys
same_sources _ _ = false

-- Holds if two dependencies are equal in all fields.
abbrev pub same_dependency : Dependency → Dependency → Bool
same_dependency d e =
    same_boolean d.is_found e.is_found && (bytes_eq d.name e.name && (bytes_eq d.version e.version
    && (same_texts d.include_directories e.include_directories && (same_texts d.compile_args e.compile_args
    && (same_texts d.link_args e.link_args && (bytes_eq d.link_with e.link_with && same_sources d.sources e.sources))))))

-- Holds if two objects have the same type and are equal.
abbrev pub same_object : Object → Object → Bool
same_object (TheObject.Feature f) (TheObject.Feature g) = same_feature f g
same_object (TheObject.Dependency d) (TheObject.Dependency e) = same_dependency d e
same_object (TheObject.Program p) (TheObject.Program q) = same_program p q
same_object (TheObject.BuildTarget m) (TheObject.BuildTarget n) = m == n
same_object (TheObject.CustomTarget m i) (TheObject.CustomTarget n j) = (m == n) && (i == j)
same_object (TheObject.CustomOutput m i) (TheObject.CustomOutput n j) = (m == n) && (i == j)
same_object (TheObject.File p b) (TheObject.File q c) = bytes_eq p q && same_boolean b c
same_object (TheObject.IncludeDirectories v) (TheObject.IncludeDirectories w) = same_texts v w
same_object TheObject.Machine TheObject.Machine = true
same_object TheObject.Meson TheObject.Meson = true
same_object TheObject.Compiler TheObject.Compiler = true
same_object (TheObject.ConfigurationData m) (TheObject.ConfigurationData n) = m == n
same_object TheObject.Disabler TheObject.Disabler = true
same_object _ _ = false

-- Holds if two values have the same type and equal parts, with entries of dictionaries in the same order.
abbrev mutual
  pub same : Data → Data → Bool
  same (boolean b) (boolean c) = same_boolean b c
  same (integer y) (integer z) = int_eq y z
  same (text s) (text t) = bytes_eq s t
  same (list xs) (list ys) = same_items xs ys
  same (dictionary es) (dictionary fs) = same_entries es fs
  same (object o) (object p) = same_object o p
  same _ _ = false

  -- Holds if two lists have the same number of items, and the items at each index are the same.
  pub same_items : Items → Items → Bool
  same_items no_items no_items = true
  same_items (item x xs) (item y ys) = same x y && same_items xs ys
  same_items _ _ = false

  -- Holds if two dictionaries have the same keys in the same order, with the same values.
  pub same_entries : Entries → Entries → Bool
  same_entries no_entries no_entries = true
  same_entries (entry k d es) (entry l e fs) = bytes_eq k l && (same d e && same_entries es fs)
  same_entries _ _ = false

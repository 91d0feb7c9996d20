-- Decides whether two values have the same type.
use Rattle.std.specs.Prelude.{Bool, true, false}
use Rattle.values.specs.declared.object.Object.{Object}
use Rattle.values.specs.declared.object.Object.TheVariants as TheObject
use Rattle.values.specs.Data.{Data, boolean, integer, text, list, dictionary, object}

-- Holds if two objects have the same type of the manual. All targets count as one type, and outputs of custom targets as another.
abbrev pub is_one_kind : Object → Object → Bool
is_one_kind (TheObject.Feature f) (TheObject.Feature g) = true
is_one_kind (TheObject.Dependency d) (TheObject.Dependency e) = true
is_one_kind (TheObject.Program p) (TheObject.Program q) = true
is_one_kind (TheObject.BuildTarget m) (TheObject.BuildTarget n) = true
is_one_kind (TheObject.BuildTarget m) (TheObject.CustomTarget n j) = true
is_one_kind (TheObject.CustomTarget m i) (TheObject.BuildTarget n) = true
is_one_kind (TheObject.CustomTarget m i) (TheObject.CustomTarget n j) = true
is_one_kind (TheObject.CustomOutput m i) (TheObject.CustomOutput n j) = true
is_one_kind (TheObject.File p b) (TheObject.File q c) = true
is_one_kind (TheObject.IncludeDirectories v) (TheObject.IncludeDirectories w) = true
is_one_kind TheObject.Machine TheObject.Machine = true
is_one_kind TheObject.Meson TheObject.Meson = true
is_one_kind TheObject.Compiler TheObject.Compiler = true
is_one_kind (TheObject.ConfigurationData m) (TheObject.ConfigurationData n) = true
is_one_kind TheObject.Disabler TheObject.Disabler = true
is_one_kind _ _ = false

-- Holds if two values have the same type.
abbrev pub is_one_type : Data → Data → Bool
is_one_type (boolean b) (boolean c) = true
is_one_type (integer y) (integer z) = true
is_one_type (text s) (text t) = true
is_one_type (list ds) (list es) = true
is_one_type (dictionary es) (dictionary fs) = true
is_one_type (object o) (object p) = is_one_kind o p
is_one_type _ _ = false

-- Describes kinds and values in words.
use Rattle.std.specs.Prelude.{ℕ, List, [], ◌∷◌, ◌++◌, length, codes, decimal}
use Rattle.values.specs.Data.{Data, boolean, integer, text, list, dictionary, object}
use Rattle.values.specs.declared.object.Object.{Object}
use Rattle.values.specs.declared.object.Object.TheVariants as objects
use Rattle.arguments.specs.declared.row.ArgumentKind.{ArgumentKind}
use Rattle.arguments.specs.declared.row.ArgumentKind.TheVariants as kinds
use Rattle.arguments.specs.declared.row.Piece.{Piece}
use Rattle.arguments.specs.declared.row.Piece.TheVariants as pieces

-- Describes the items of a list of such pieces.
abbrev pub piece_words : Piece → List ℕ
piece_words pieces.Path = codes "texts and files"
piece_words pieces.Source = codes "texts, files and custom targets"
piece_words pieces.Folder = codes "texts and include_directories"
piece_words pieces.BuildTarget = codes "executables and libraries"
piece_words pieces.Dependency = codes "dependencies"
piece_words pieces.Target = codes "targets"
piece_words pieces.Word = codes "texts, files and targets"
piece_words pieces.CommandWord = codes "texts, files, programs and targets"

-- Describes the values of a kind of argument.
abbrev pub kind_words : ArgumentKind → List ℕ
kind_words kinds.Any = codes "any value"
kind_words kinds.Boolean = codes "a truth value"
kind_words kinds.Integer = codes "an integer"
kind_words kinds.Text = codes "a text"
kind_words kinds.IntegerOrText = codes "a text or an integer"
kind_words kinds.Setting = codes "a text, an integer or a truth value"
kind_words kinds.Requirement = codes "a truth value or a feature option"
kind_words kinds.Texts = codes "texts"
kind_words kinds.Dictionary = codes "a dictionary"
kind_words kinds.TextsOrDictionary = codes "texts, or a dictionary"
kind_words kinds.ConfigurationData = codes "configuration data"
kind_words kinds.Configuration = codes "configuration data or a dictionary"
kind_words kinds.File = codes "a file"
kind_words kinds.Command = codes "a program, a target or a file"
kind_words (kinds.Flat piece) = piece_words piece

-- Describes an object.
abbrev pub object_words : Object → List ℕ
object_words (objects.Feature feature) = codes "a feature option"
object_words (objects.Dependency dependency) = codes "a dependency"
object_words (objects.Program program) = codes "a program"
object_words (objects.BuildTarget number) = codes "an executable or a library"
object_words (objects.CustomTarget number outputs) = codes "a custom target"
object_words (objects.CustomOutput target output) = codes "an output of a custom target"
object_words (objects.File path is_built) = codes "a file"
object_words (objects.IncludeDirectories paths) = codes "include_directories"
object_words objects.Machine = codes "a machine"
object_words objects.Meson = codes "the object 'meson'"
object_words objects.Compiler = codes "a compiler"
object_words (objects.ConfigurationData number) = codes "configuration data"
object_words objects.Disabler = codes "a disabler"

-- Describes a value.
abbrev pub value_words : Data → List ℕ
value_words (boolean b) = codes "a truth value"
value_words (integer z) = codes "an integer"
value_words (text t) = codes "a text"
value_words (list ds) = codes "a list"
value_words (dictionary es) = codes "a dictionary"
value_words (object o) = object_words o

-- Describes two values.
abbrev pub pair_words : Data → Data → List ℕ
pair_words d e = value_words d ++ (codes " and " ++ value_words e)

-- Describes the arguments of a call: one or two by their values, more by their number.
abbrev pub values_words : List Data → List ℕ
values_words [] = codes "none"
values_words (d ∷ []) = value_words d
values_words (d ∷ e ∷ []) = pair_words d e
values_words ds = decimal (length ds) ++ codes " arguments"

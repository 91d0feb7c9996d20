-- Defines the methods of the object `meson`: the page of its type in the manual.
use Rattle.std.specs.Prelude.{ℕ, false, ◌==◌, List, length, Option, Some, None, Result, Ok, Err, codes, bytes_eq, if◌then◌else◌}
use Rattle.arguments.specs.Arguments.{ArgumentsData}
use Rattle.arguments.specs.Given.{text_at}
use Rattle.values.specs.Data.{Data, boolean, object, text}
use Rattle.values.specs.Limits.{within}
use Rattle.values.specs.declared.object.Object.TheVariants as objects
use Rattle.values.specs.declared.refusal.OperationRefusal.{OperationRefusal}
use Rattle.values.specs.declared.refusal.OperationRefusal.TheVariants as refusal
use Rattle.support.specs.paths.Below.{path_below}
use Rattle.world.specs.World.{Facts}
use Rattle.values.specs.declared.language_names.object_methods.MesonMethod.{MesonMethod}
use Rattle.values.specs.declared.language_names.object_methods.MesonMethod.TheVariants as methods
use Rattle.values.specs.language_names.ObjectMethods.{meson_method_named}

-- Returns a folder below a root. The root folder is the root itself.
abbrev pub folder_below : List ℕ → List ℕ → List ℕ
folder_below root folder = if length folder == 0 then root else path_below root folder

-- Returns the compiler of a language. C is the only language.
abbrev pub compiler_of : List ℕ → Result Data OperationRefusal
compiler_of language = if bytes_eq language (codes "c") then Ok (object objects.Compiler) else Err refusal.Arguments

-- Returns the result of a method. A path that is too long for a text is refused.
abbrev pub answer_by : Option MesonMethod → Facts → ArgumentsData → Result Data OperationRefusal
answer_by None f a = Err refusal.UnknownMethod
answer_by (Some methods.Backend) f a = within (text (codes "ninja"))
answer_by (Some methods.BuildRoot) f a = within (text f.settings.build_root)
answer_by (Some methods.CurrentBuildDir) f a = within (text (folder_below f.settings.build_root f.folder))
answer_by (Some methods.CurrentSourceDir) f a = within (text (folder_below f.settings.source_root f.folder))
answer_by (Some methods.GetCompiler) f a = compiler_of (text_at 0 a)
answer_by (Some methods.IsCrossBuild) f a = Ok (boolean false)
answer_by (Some methods.IsSubproject) f a = Ok (boolean false)
answer_by (Some methods.ProjectName) f a = within (text f.project.surroundings.facts.name)
answer_by (Some methods.ProjectVersion) f a = within (text f.project.surroundings.facts.version)
answer_by (Some methods.SourceRoot) f a = within (text f.settings.source_root)
answer_by (Some methods.Version) f a = within (text (codes "1.3.0"))

-- Returns the result of the method of `meson` with this name.
abbrev pub answer : Facts → List ℕ → ArgumentsData → Result Data OperationRefusal
answer f name a = answer_by (meson_method_named name) f a

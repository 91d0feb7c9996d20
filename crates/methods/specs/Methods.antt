-- Defines the methods of objects, by the type of the receiver.
use Rattle.std.specs.Prelude.{ℕ, Bool, false, List, Option, Some, is_some, Result, Err}
use Rattle.arguments.specs.Arguments.{ArgumentsData}
use Rattle.arguments.specs.Given.{text_at}
use Rattle.arguments.specs.declared.rule.Rule.{Rule}
use Rattle.arguments.specs.declared.rule.Rule.TheVariants as rules
use Rattle.methods.specs.CompilerMethods as compilers
use Rattle.configuration_calls.specs.Methods as configurations
use Rattle.values.specs.Data.{Data}
use Rattle.values.specs.declared.object.Object.{Object}
use Rattle.values.specs.declared.object.Object.TheVariants as objects
use Rattle.values.specs.declared.refusal.OperationRefusal.{OperationRefusal}
use Rattle.values.specs.declared.refusal.OperationRefusal.TheVariants as refusal
use Rattle.values.specs.language_names.ObjectMethods.{build_target_method_named, custom_target_method_named, dependency_method_named}
use Rattle.values.specs.language_names.ObjectMethods.{feature_method_named, machine_method_named, meson_method_named}
use Rattle.values.specs.language_names.ObjectMethods.{output_method_named, program_method_named}
use Rattle.world.specs.Deed.{Deed, give, read, ◌>>=◌}
use Rattle.world.specs.Fit.{fit}
use Rattle.world.specs.Ruled.{answered_by}
use Rattle.world.specs.World.{Facts}
use Rattle.methods.specs.Dependencies as dependencies
use Rattle.methods.specs.Features as features
use Rattle.methods.specs.Machines as machines
use Rattle.methods.specs.Meson as meson
use Rattle.methods.specs.Programs as programs
use Rattle.methods.specs.Rows.{row_of}
use Rattle.methods.specs.Targets as targets

-- Holds if the type of an object has a supported method with this name.
abbrev pub has_method : Object → List ℕ → Bool
has_method (objects.Feature f) name = is_some (feature_method_named name)
has_method (objects.Dependency d) name = is_some (dependency_method_named name)
has_method (objects.Program p) name = is_some (program_method_named name)
has_method (objects.BuildTarget number) name = is_some (build_target_method_named name)
has_method (objects.CustomTarget number outputs) name = is_some (custom_target_method_named name)
has_method (objects.CustomOutput target output) name = is_some (output_method_named name)
has_method objects.Machine name = is_some (machine_method_named name)
has_method objects.Meson name = is_some (meson_method_named name)
has_method objects.Compiler name = compilers.has_method name
has_method (objects.ConfigurationData number) name = configurations.has_method name
has_method _ name = false

-- Returns the result of a method that depends only on its receiver and the facts of the run.
abbrev pub told_of : Facts → Object → List ℕ → ArgumentsData → Result Data OperationRefusal
told_of facts (objects.Feature f) name a = features.answer f name
told_of facts (objects.Dependency d) name a = dependencies.answer d name
told_of facts (objects.Program p) name a = programs.answer facts.settings.source_root p name
told_of facts (objects.BuildTarget number) name a = targets.build_answer facts number name
told_of facts (objects.CustomTarget number outputs) name a = targets.custom_answer facts number outputs name
told_of facts (objects.CustomOutput target output) name a = targets.output_answer facts target output name
told_of facts objects.Meson name a = meson.answer facts name a
told_of facts _ name a = Err refusal.UnknownMethod

-- Returns the rule that such a method requires of its receiver, or of its argument.
abbrev pub rule_of : Object → Rule
rule_of (objects.Program p) = rules.HasProgram
rule_of objects.Meson = rules.HasCompiler
rule_of _ = rules.HasOneOutput

-- Returns what breaks that rule: the language given to `meson.get_compiler`, or the name of the method.
abbrev pub breaking_text : Object → List ℕ → ArgumentsData → List ℕ
breaking_text objects.Meson name a = text_at 0 a
breaking_text _ name a = name

-- Checks the arguments of such a method by its row, and then runs it.
unfoldable pub tell : Object → List ℕ → ArgumentsData → Deed (Option Data)
tell o name a = do
  _ ← fit (row_of o name) a
  facts ← read
  d ← answered_by (rule_of o) (breaking_text o name a) (told_of facts o name a)
  give (Some d)

-- Runs a method of an object. It returns a value or nothing.
unfoldable pub object_method : Object → List ℕ → ArgumentsData → Deed (Option Data)
object_method objects.Compiler name a = compilers.compiler_method name a
object_method objects.Machine name a = machines.machine_method name a
object_method (objects.ConfigurationData number) name a = configurations.configuration_method number name a
object_method o name a = tell o name a

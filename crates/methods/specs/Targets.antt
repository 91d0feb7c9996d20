-- Defines the methods of targets, and of the outputs of custom targets: the types `build_tgt`, `custom_tgt` and `custom_idx` of the page
-- "Reference manual".
use Rattle.std.specs.Prelude.{ℕ, zero, suc, ◌+◌, List, [], ◌∷◌, Option, Some, None, Result, Err, slice_get, option_map}
use Rattle.std.specs.Prelude.{option_and_then}
use Rattle.values.specs.Data.{Data, list, object, text, Items, no_items, item}
use Rattle.values.specs.Limits.{within}
use Rattle.values.specs.declared.object.Object.TheVariants as objects
use Rattle.values.specs.declared.refusal.OperationRefusal.{OperationRefusal}
use Rattle.values.specs.declared.refusal.OperationRefusal.TheVariants as refusal
use Rattle.build.specs.edge.Texts.{Path, Text}
use Rattle.support.specs.paths.Below.{path_below}
use Rattle.build.specs.Data.{TargetData, Build, Custom}
use Rattle.support.specs.paths.Paths.{path_in}
use Rattle.build.specs.Files.{file_path}
use Rattle.build.specs.Libraries.{DeclaredTargetData, linked_of}
use Rattle.world.specs.World.{Facts}
use Rattle.values.specs.declared.language_names.object_methods.TargetMethod.{TargetMethod}
use Rattle.values.specs.declared.language_names.object_methods.TargetMethod.TheVariants.{FullPath, Name, ToList}
use Rattle.values.specs.language_names.ObjectMethods.{build_target_method_named, custom_target_method_named, output_method_named}

-- ---- names

-- ---- attributes of a target

-- Returns the name of a target.
abbrev pub name_of : TargetData → Text
name_of (Build t) = t.name
name_of (Custom t) = t.name

-- Returns the path of the only file of a folder, and none if there is not exactly one.
abbrev pub only_path : Path → List Text → Option Path
only_path folder (name ∷ []) = Some (path_in folder name)
only_path folder _ = None

-- Returns the path of a target's file, not of its symbolic links. For a custom target it is that of its only output.
abbrev pub path_of : TargetData → Option Path
path_of (Build t) = Some (file_path t)
path_of (Custom t) = only_path t.folder t.outputs

-- Returns the path of an output of a custom target.
abbrev pub output_of : (output : ℕ) → TargetData → Option Path
output_of output (Build t) = None
output_of output (Custom t) = option_map (path_in t.folder) (slice_get t.outputs output)

-- Returns an attribute of the target with a number.
abbrev pub at : {A : Type 0} → List DeclaredTargetData → (number : ℕ) → (TargetData → Option A) → Option A
at targets number has = option_and_then (λ l. has l.target) (slice_get targets number)

-- ---- values

-- Returns a name, and E9 if there is no such target.
abbrev pub name_value : Option Text → Result Data OperationRefusal
name_value None = Err refusal.Arguments
name_value (Some name) = within (text name)

-- Returns the absolute path for a path in the build directory, and E9 if there is none.
abbrev pub path_value : (build_root : Path) → Option Path → Result Data OperationRefusal
path_value build_root None = Err refusal.Arguments
path_value build_root (Some path) = within (text (path_below build_root path))

-- Returns `count` outputs of a target, from the output `first` on.
abbrev pub outputs_from : (target count first : ℕ) → Items
outputs_from target zero first = no_items
outputs_from target (suc count) first = item (object (objects.CustomOutput target first)) (outputs_from target count (first + 1))

-- Returns the list of the first `count` outputs of a target.
abbrev pub output_list : (target count : ℕ) → Result Data OperationRefusal
output_list target count = within (list (outputs_from target count 0))

-- ---- methods

-- Returns the targets of the project.
abbrev pub targets_of : Facts → List DeclaredTargetData
targets_of facts = linked_of facts.project.targets

-- Returns the result of a method of the target with this number and this many outputs.
abbrev pub told_of : TargetMethod → Facts → (number outputs : ℕ) → Result Data OperationRefusal
told_of FullPath facts number outputs = path_value facts.settings.build_root (at (targets_of facts) number path_of)
told_of Name facts number outputs = name_value (at (targets_of facts) number (λ t. Some (name_of t)))
told_of ToList facts number outputs = output_list number outputs

-- Returns the result of a method of a target, or E8 if there is none.
abbrev pub answer_by : Option TargetMethod → Facts → (number outputs : ℕ) → Result Data OperationRefusal
answer_by None facts number outputs = Err refusal.UnknownMethod
answer_by (Some method) facts number outputs = told_of method facts number outputs

-- Returns the result of a method of an executable or a library, which has one output.
abbrev pub build_answer : Facts → (number : ℕ) → List ℕ → Result Data OperationRefusal
build_answer facts number name = answer_by (build_target_method_named name) facts number 1

-- Returns the result of the method of a custom target with this name.
abbrev pub custom_answer : Facts → (number outputs : ℕ) → List ℕ → Result Data OperationRefusal
custom_answer facts number outputs name = answer_by (custom_target_method_named name) facts number outputs

-- Returns the result of a method of an output, or E8 if there is none.
abbrev pub output_answer_by : Option TargetMethod → Facts → (target output : ℕ) → Result Data OperationRefusal
output_answer_by None facts target output = Err refusal.UnknownMethod
output_answer_by (Some method) facts target output =
    path_value facts.settings.build_root (at (targets_of facts) target (output_of output))

-- Returns the result of a method of an output of a custom target.
abbrev pub output_answer : Facts → (target output : ℕ) → List ℕ → Result Data OperationRefusal
output_answer facts target output name = output_answer_by (output_method_named name) facts target output

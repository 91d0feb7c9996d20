-- Defines the methods of objects by name, for each type of the page "Reference manual".
use Rattle.std.specs.Prelude.{ℕ, List, Option, Some, None, codes, bytes_eq, if◌then◌else◌}
use Rattle.values.specs.declared.language_names.object_methods.CompilerMethod.{CompilerMethod}
use Rattle.values.specs.declared.language_names.object_methods.CompilerMethod.TheVariants as compilers
use Rattle.values.specs.declared.language_names.object_methods.ConfigurationMethod.{ConfigurationMethod}
use Rattle.values.specs.declared.language_names.object_methods.ConfigurationMethod.TheVariants as configurations
use Rattle.values.specs.declared.language_names.object_methods.DependencyMethod.{DependencyMethod}
use Rattle.values.specs.declared.language_names.object_methods.DependencyMethod.TheVariants as dependencies
use Rattle.values.specs.declared.language_names.object_methods.FeatureMethod.{FeatureMethod}
use Rattle.values.specs.declared.language_names.object_methods.FeatureMethod.TheVariants as features
use Rattle.values.specs.declared.language_names.object_methods.MachineMethod.{MachineMethod}
use Rattle.values.specs.declared.language_names.object_methods.MachineMethod.TheVariants as machines
use Rattle.values.specs.declared.language_names.object_methods.MesonMethod.{MesonMethod}
use Rattle.values.specs.declared.language_names.object_methods.MesonMethod.TheVariants as meson
use Rattle.values.specs.declared.language_names.object_methods.ProgramMethod.{ProgramMethod}
use Rattle.values.specs.declared.language_names.object_methods.ProgramMethod.TheVariants as programs
use Rattle.values.specs.declared.language_names.object_methods.TargetMethod.{TargetMethod}
use Rattle.values.specs.declared.language_names.object_methods.TargetMethod.TheVariants as targets

-- Returns the method of a compiler with this name.
abbrev pub compiler_method_named : List ℕ → Option CompilerMethod
compiler_method_named name =
    if bytes_eq name (codes "alignment") then Some compilers.Number
    else if bytes_eq name (codes "check_header") then Some compilers.Check
    else if bytes_eq name (codes "find_library") then Some compilers.FindLibrary
    else if bytes_eq name (codes "get_id") then Some compilers.Id
    else if bytes_eq name (codes "get_supported_arguments") then Some compilers.SupportedArguments
    else if bytes_eq name (codes "has_argument") then Some compilers.Check
    else if bytes_eq name (codes "has_function") then Some compilers.Check
    else if bytes_eq name (codes "has_header") then Some compilers.Check
    else if bytes_eq name (codes "has_header_symbol") then Some compilers.CheckInside
    else if bytes_eq name (codes "has_link_argument") then Some compilers.Check
    else if bytes_eq name (codes "has_member") then Some compilers.CheckInside
    else if bytes_eq name (codes "has_type") then Some compilers.Check
    else if bytes_eq name (codes "sizeof") then Some compilers.Number
    else if bytes_eq name (codes "version") then Some compilers.Version
    else None

-- Returns the method of a configuration data object with this name.
abbrev pub configuration_method_named : List ℕ → Option ConfigurationMethod
configuration_method_named name =
    if bytes_eq name (codes "get") then Some configurations.Get
    else if bytes_eq name (codes "get_unquoted") then Some configurations.GetUnquoted
    else if bytes_eq name (codes "has") then Some configurations.Has
    else if bytes_eq name (codes "keys") then Some configurations.Keys
    else if bytes_eq name (codes "merge_from") then Some configurations.MergeFrom
    else if bytes_eq name (codes "set") then Some configurations.Set
    else if bytes_eq name (codes "set10") then Some configurations.Set10
    else if bytes_eq name (codes "set_quoted") then Some configurations.SetQuoted
    else None

-- Returns the method of a dependency with this name.
abbrev pub dependency_method_named : List ℕ → Option DependencyMethod
dependency_method_named name =
    if bytes_eq name (codes "found") then Some dependencies.Found
    else if bytes_eq name (codes "name") then Some dependencies.Name
    else if bytes_eq name (codes "version") then Some dependencies.Version
    else None

-- Returns the method of a feature with this name.
abbrev pub feature_method_named : List ℕ → Option FeatureMethod
feature_method_named name =
    if bytes_eq name (codes "allowed") then Some features.Allowed
    else if bytes_eq name (codes "auto") then Some features.Auto
    else if bytes_eq name (codes "disabled") then Some features.Disabled
    else if bytes_eq name (codes "enabled") then Some features.Enabled
    else None

-- Returns the method of a machine with this name.
abbrev pub machine_method_named : List ℕ → Option MachineMethod
machine_method_named name =
    if bytes_eq name (codes "cpu") then Some machines.Cpu
    else if bytes_eq name (codes "cpu_family") then Some machines.CpuFamily
    else if bytes_eq name (codes "endian") then Some machines.Endian
    else if bytes_eq name (codes "system") then Some machines.System
    else None

-- Returns the method of the object `meson` with this name.
abbrev pub meson_method_named : List ℕ → Option MesonMethod
meson_method_named name =
    if bytes_eq name (codes "backend") then Some meson.Backend
    else if bytes_eq name (codes "build_root") then Some meson.BuildRoot
    else if bytes_eq name (codes "current_build_dir") then Some meson.CurrentBuildDir
    else if bytes_eq name (codes "current_source_dir") then Some meson.CurrentSourceDir
    else if bytes_eq name (codes "get_compiler") then Some meson.GetCompiler
    else if bytes_eq name (codes "is_cross_build") then Some meson.IsCrossBuild
    else if bytes_eq name (codes "is_subproject") then Some meson.IsSubproject
    else if bytes_eq name (codes "project_build_root") then Some meson.BuildRoot
    else if bytes_eq name (codes "project_name") then Some meson.ProjectName
    else if bytes_eq name (codes "project_source_root") then Some meson.SourceRoot
    else if bytes_eq name (codes "project_version") then Some meson.ProjectVersion
    else if bytes_eq name (codes "source_root") then Some meson.SourceRoot
    else if bytes_eq name (codes "version") then Some meson.Version
    else None

-- Returns the method of a program with this name.
abbrev pub program_method_named : List ℕ → Option ProgramMethod
program_method_named name =
    if bytes_eq name (codes "found") then Some programs.Found
    else if bytes_eq name (codes "full_path") then Some programs.FullPath
    else if bytes_eq name (codes "path") then Some programs.FullPath
    else None

-- Returns the method of an executable or a library with this name.
abbrev pub build_target_method_named : List ℕ → Option TargetMethod
build_target_method_named name =
    if bytes_eq name (codes "full_path") then Some targets.FullPath
    else if bytes_eq name (codes "name") then Some targets.Name
    else None

-- Returns the method of a custom target with this name.
abbrev pub custom_target_method_named : List ℕ → Option TargetMethod
custom_target_method_named name =
    if bytes_eq name (codes "full_path") then Some targets.FullPath
    else if bytes_eq name (codes "name") then Some targets.Name
    else if bytes_eq name (codes "to_list") then Some targets.ToList
    else None

-- Returns the method of an output of a custom target with this name.
abbrev pub output_method_named : List ℕ → Option TargetMethod
output_method_named name = if bytes_eq name (codes "full_path") then Some targets.FullPath else None

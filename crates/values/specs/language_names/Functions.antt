-- Defines which function each name calls.
use Rattle.std.specs.Prelude.{ℕ, List, Option, Some, None, codes, if◌then◌else◌, option_map}
use Rattle.std.specs.Str.{bytes_eq}
use Rattle.values.specs.declared.language_names.functions.Function.{Function}
use Rattle.values.specs.declared.language_names.functions.Function.TheVariants as functions
use Rattle.values.specs.declared.language_names.functions.ProjectFunction.{ProjectFunction}
use Rattle.values.specs.declared.language_names.functions.ProjectFunction.TheVariants as project

-- Returns the function with this name among those that declare something about the project.
abbrev pub project_function_named : List ℕ → Option ProjectFunction
project_function_named name =
    if bytes_eq name (codes "add_project_arguments") then Some project.AddProjectArguments
    else if bytes_eq name (codes "add_project_link_arguments") then Some project.AddProjectLinkArguments
    else if bytes_eq name (codes "configuration_data") then Some project.ConfigurationData
    else if bytes_eq name (codes "configure_file") then Some project.ConfigureFile
    else if bytes_eq name (codes "custom_target") then Some project.CustomTarget
    else if bytes_eq name (codes "declare_dependency") then Some project.DeclareDependency
    else if bytes_eq name (codes "dependency") then Some project.Dependency
    else if bytes_eq name (codes "executable") then Some project.Executable
    else if bytes_eq name (codes "files") then Some project.Files
    else if bytes_eq name (codes "find_program") then Some project.FindProgram
    else if bytes_eq name (codes "get_option") then Some project.GetOption
    else if bytes_eq name (codes "include_directories") then Some project.IncludeDirectories
    else if bytes_eq name (codes "install_data") then Some project.InstallData
    else if bytes_eq name (codes "install_headers") then Some project.InstallHeaders
    else if bytes_eq name (codes "install_man") then Some project.InstallMan
    else if bytes_eq name (codes "library") then Some project.Library
    else if bytes_eq name (codes "shared_library") then Some project.SharedLibrary
    else if bytes_eq name (codes "static_library") then Some project.StaticLibrary
    else if bytes_eq name (codes "test") then Some project.Test
    else None

-- Returns the function with this name.
abbrev pub function_named : List ℕ → Option Function
function_named name =
    if bytes_eq name (codes "assert") then Some functions.Assert
    else if bytes_eq name (codes "disabler") then Some functions.Disabler
    else if bytes_eq name (codes "error") then Some functions.Error
    else if bytes_eq name (codes "get_variable") then Some functions.GetVariable
    else if bytes_eq name (codes "is_disabler") then Some functions.IsDisabler
    else if bytes_eq name (codes "is_variable") then Some functions.IsVariable
    else if bytes_eq name (codes "join_paths") then Some functions.JoinPaths
    else if bytes_eq name (codes "message") then Some functions.Message
    else if bytes_eq name (codes "project") then Some functions.Project
    else if bytes_eq name (codes "range") then Some functions.Range
    else if bytes_eq name (codes "set_variable") then Some functions.SetVariable
    else if bytes_eq name (codes "subdir") then Some functions.Subdir
    else if bytes_eq name (codes "subdir_done") then Some functions.SubdirDone
    else if bytes_eq name (codes "unset_variable") then Some functions.UnsetVariable
    else if bytes_eq name (codes "warning") then Some functions.Warning
    else option_map functions.OfProject (project_function_named name)

-- Defines the functions of the Meson manual's page "Reference manual" that declare something of the project.
use Rattle.std.specs.Prelude.{Option}
use Rattle.values.specs.Data.{Data}
use Rattle.arguments.specs.Arguments.{ArgumentsData}
use Rattle.arguments.specs.Row.{RowData}
use Rattle.configuration_calls.specs.ConfigurationData.{configuration_data}
use Rattle.configuration_calls.specs.ConfigureFile.{configure_file}
use Rattle.configuration_calls.specs.Rows.{configuration_data_row, configure_file_row}
use Rattle.project_calls.specs.GetOption.{get_option}
use Rattle.project_calls.specs.Rows.{get_option_row}
use Rattle.resource_calls.specs.DeclareDependency.{declare_dependency}
use Rattle.resource_calls.specs.Dependency.{dependency}
use Rattle.resource_calls.specs.Installs.{install}
use Rattle.resource_calls.specs.Programs.{find_program}
use Rattle.resource_calls.specs.Rows.{declare_dependency_row, dependency_row, find_program_row, install_data_row}
use Rattle.resource_calls.specs.Rows.{install_headers_row, install_man_row, test_row}
use Rattle.resource_calls.specs.Tests.{test}
use Rattle.resource_calls.specs.declared.destinations.Sort.TheVariants as sorts
use Rattle.target_calls.specs.CustomCalls.{custom_target}
use Rattle.target_calls.specs.Files.{files, include_directories}
use Rattle.target_calls.specs.ProjectWords.{add_project_arguments, add_project_link_arguments}
use Rattle.target_calls.specs.Rows.{custom_target_row, files_row, include_directories_row, project_words_row, shared_library_row}
use Rattle.target_calls.specs.Rows.{target_row}
use Rattle.target_calls.specs.Targets.{declare, library}
use Rattle.build.specs.declared.target.TargetKind.TheVariants as kinds
use Rattle.world.specs.Deed.{Deed}
use Rattle.values.specs.declared.language_names.functions.ProjectFunction.{ProjectFunction}
use Rattle.values.specs.declared.language_names.functions.ProjectFunction.TheVariants as functions

-- Returns what arguments a function takes.
abbrev pub project_function_row : ProjectFunction → RowData
project_function_row functions.AddProjectArguments = project_words_row
project_function_row functions.AddProjectLinkArguments = project_words_row
project_function_row functions.ConfigurationData = configuration_data_row
project_function_row functions.ConfigureFile = configure_file_row
project_function_row functions.CustomTarget = custom_target_row
project_function_row functions.DeclareDependency = declare_dependency_row
project_function_row functions.Dependency = dependency_row
project_function_row functions.Executable = target_row
project_function_row functions.Files = files_row
project_function_row functions.FindProgram = find_program_row
project_function_row functions.GetOption = get_option_row
project_function_row functions.IncludeDirectories = include_directories_row
project_function_row functions.InstallData = install_data_row
project_function_row functions.InstallHeaders = install_headers_row
project_function_row functions.InstallMan = install_man_row
project_function_row functions.Library = shared_library_row
project_function_row functions.SharedLibrary = shared_library_row
project_function_row functions.StaticLibrary = target_row
project_function_row functions.Test = test_row

-- Runs a function on arguments that its row accepts. It may have no value.
abbrev pub project_function : ProjectFunction → ArgumentsData → Deed (Option Data)
project_function functions.AddProjectArguments a = add_project_arguments a
project_function functions.AddProjectLinkArguments a = add_project_link_arguments a
project_function functions.ConfigurationData a = configuration_data a
project_function functions.ConfigureFile a = configure_file a
project_function functions.CustomTarget a = custom_target a
project_function functions.DeclareDependency a = declare_dependency a
project_function functions.Dependency a = dependency a
project_function functions.Executable a = declare kinds.Executable a
project_function functions.Files a = files a
project_function functions.FindProgram a = find_program a
project_function functions.GetOption a = get_option a
project_function functions.IncludeDirectories a = include_directories a
project_function functions.InstallData a = install sorts.Data a
project_function functions.InstallHeaders a = install sorts.Header a
project_function functions.InstallMan a = install sorts.ManPage a
project_function functions.Library a = library a
project_function functions.SharedLibrary a = declare kinds.SharedLibrary a
project_function functions.StaticLibrary a = declare kinds.StaticLibrary a
project_function functions.Test a = test a

use Rattle.std.proofs.Common.{ap, sym}
use Rattle.arguments.specs.Arguments.{arguments_data}
use Rattle.interp.specs.ProjectFunctions.{project_function}
use Rattle.world.proofs.Answering.{carries_as}
use Rattle.interp.proofs.project_functions.project_function.Goals as goal

pub returns-in-AddProjectArguments : goal.returns-in-AddProjectArguments
returns-in-AddProjectArguments g c = carries_as (ap (λ f. project_function f (arguments_data c.args.arguments.now)) (sym c.in-AddProjectArguments.is)) c.add_project_arguments.ensures

pub returns-in-AddProjectLinkArguments : goal.returns-in-AddProjectLinkArguments
returns-in-AddProjectLinkArguments g c = carries_as (ap (λ f. project_function f (arguments_data c.args.arguments.now)) (sym c.in-AddProjectLinkArguments.is)) c.add_project_link_arguments.ensures

pub returns-in-CustomTarget : goal.returns-in-CustomTarget
returns-in-CustomTarget g c = carries_as (ap (λ f. project_function f (arguments_data c.args.arguments.now)) (sym c.in-CustomTarget.is)) c.custom_target.ensures

pub returns-in-Executable : goal.returns-in-Executable
returns-in-Executable g c = carries_as (ap (λ f. project_function f (arguments_data c.args.arguments.now)) (sym c.in-Executable.is)) c.declare.ensures

pub returns-in-Files : goal.returns-in-Files
returns-in-Files g c = carries_as (ap (λ f. project_function f (arguments_data c.args.arguments.now)) (sym c.in-Files.is)) c.files.ensures

pub returns-in-IncludeDirectories : goal.returns-in-IncludeDirectories
returns-in-IncludeDirectories g c = carries_as (ap (λ f. project_function f (arguments_data c.args.arguments.now)) (sym c.in-IncludeDirectories.is)) c.include_directories.ensures

pub returns-in-Library : goal.returns-in-Library
returns-in-Library g c = carries_as (ap (λ f. project_function f (arguments_data c.args.arguments.now)) (sym c.in-Library.is)) c.library.ensures

pub returns-in-SharedLibrary : goal.returns-in-SharedLibrary
returns-in-SharedLibrary g c = carries_as (ap (λ f. project_function f (arguments_data c.args.arguments.now)) (sym c.in-SharedLibrary.is)) c.declare-in-SharedLibrary.ensures

pub returns-in-StaticLibrary : goal.returns-in-StaticLibrary
returns-in-StaticLibrary g c = carries_as (ap (λ f. project_function f (arguments_data c.args.arguments.now)) (sym c.in-StaticLibrary.is)) c.declare-in-StaticLibrary.ensures

pub returns-in-ConfigurationData : goal.returns-in-ConfigurationData
returns-in-ConfigurationData g c = carries_as (ap (λ f. project_function f (arguments_data c.args.arguments.now)) (sym c.in-ConfigurationData.is)) c.configuration_data.ensures

pub returns-in-ConfigureFile : goal.returns-in-ConfigureFile
returns-in-ConfigureFile g c = carries_as (ap (λ f. project_function f (arguments_data c.args.arguments.now)) (sym c.in-ConfigureFile.is)) c.configure_file.ensures

pub returns-in-DeclareDependency : goal.returns-in-DeclareDependency
returns-in-DeclareDependency g c = carries_as (ap (λ f. project_function f (arguments_data c.args.arguments.now)) (sym c.in-DeclareDependency.is)) c.declare_dependency.ensures

pub returns-in-Dependency : goal.returns-in-Dependency
returns-in-Dependency g c = carries_as (ap (λ f. project_function f (arguments_data c.args.arguments.now)) (sym c.in-Dependency.is)) c.dependency.ensures

pub returns-in-FindProgram : goal.returns-in-FindProgram
returns-in-FindProgram g c = carries_as (ap (λ f. project_function f (arguments_data c.args.arguments.now)) (sym c.in-FindProgram.is)) c.find_program.ensures

pub returns-in-GetOption : goal.returns-in-GetOption
returns-in-GetOption g c = carries_as (ap (λ f. project_function f (arguments_data c.args.arguments.now)) (sym c.in-GetOption.is)) c.get_option.ensures

pub returns-in-InstallData : goal.returns-in-InstallData
returns-in-InstallData g c = carries_as (ap (λ f. project_function f (arguments_data c.args.arguments.now)) (sym c.in-InstallData.is)) c.install.ensures

pub returns-in-InstallHeaders : goal.returns-in-InstallHeaders
returns-in-InstallHeaders g c = carries_as (ap (λ f. project_function f (arguments_data c.args.arguments.now)) (sym c.in-InstallHeaders.is)) c.install-in-InstallHeaders.ensures

pub returns-in-InstallMan : goal.returns-in-InstallMan
returns-in-InstallMan g c = carries_as (ap (λ f. project_function f (arguments_data c.args.arguments.now)) (sym c.in-InstallMan.is)) c.install-in-InstallMan.ensures

pub returns-in-Test : goal.returns-in-Test
returns-in-Test g c = carries_as (ap (λ f. project_function f (arguments_data c.args.arguments.now)) (sym c.in-Test.is)) c.test.ensures

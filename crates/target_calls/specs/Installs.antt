-- Defines where targets are installed.
use Rattle.std.specs.Prelude.{Option, Some, None, codes, unwrap_or, if◌then◌else◌}
use Rattle.arguments.specs.Arguments.{ArgumentsData}
use Rattle.arguments.specs.Given.{text_given}
use Rattle.build.specs.edge.Texts.{Path}
use Rattle.support.specs.paths.Below.{path_below}
use Rattle.build.specs.project.World.{InstallData}
use Rattle.build.specs.Data.{Build, BuildData, Custom, TargetData}
use Rattle.build.specs.Files.{file_name, file_path}
use Rattle.build.specs.declared.target.TargetKind.{TargetKind}
use Rattle.build.specs.declared.target.TargetKind.TheVariants as kinds
use Rattle.world.specs.Declaring.{add_install}
use Rattle.world.specs.Deed.{Deed, give}
use Rattle.world.specs.Options.{option_text}
use Rattle.world.specs.World.{Facts}

-- Returns the default directory: `bindir` for programs, `libdir` for libraries.
abbrev pub usual_folder : Facts → TargetKind → Path
usual_folder facts kinds.Executable = option_text facts.options (codes "bindir")
usual_folder facts _ = option_text facts.options (codes "libdir")

-- Returns the directory of the keyword `install_dir`, and otherwise the default one.
abbrev pub install_folder : Facts → ArgumentsData → TargetKind → Path
install_folder facts a kind = unwrap_or (text_given (codes "install_dir") a) (usual_folder facts kind)

-- Returns where the target's file is installed: to its directory below the option `prefix`, or to that directory itself if it is absolute.
-- Symbolic links are not listed.
abbrev pub build_install : Facts → ArgumentsData → BuildData → InstallData
build_install facts a t = record {
  source = path_below facts.settings.build_root (file_path t);
  destination = path_below (path_below (option_text facts.options (codes "prefix")) (install_folder facts a t.kind)) (file_name t);
}

-- Returns where a target's file is installed, and none if it is not installed.
abbrev pub install_of : Facts → ArgumentsData → TargetData → Option InstallData
install_of facts a (Build t) = if t.is_installed then Some (build_install facts a t) else None
install_of facts a (Custom t) = None

-- Records an installed file, if there is one.
unfoldable pub noted_install : Option InstallData → Deed (Unit {0})
noted_install None = give tt
noted_install (Some install) = add_install install

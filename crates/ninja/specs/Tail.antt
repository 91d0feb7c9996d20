-- Defines how the edge `all` is put, one piece after another.
use Rattle.std.specs.Prelude.{List, [], ◌++◌, codes, if◌then◌else◌}
use Rattle.std.specs.List.{flat_map}
use Rattle.ports.specs.Outputs.{Step, puts}
use Rattle.build.specs.View.{target_view}
use Rattle.build.specs.declared.declared_target.DeclaredTarget.{DeclaredTarget}
use Rattle.ninja.specs.Defaults.{is_default}
use Rattle.ninja.specs.Steps.{paths_steps}

-- Returns the steps that write a target's paths, each after a space, if the target is built by default. Otherwise it returns none.
abbrev pub default_steps : DeclaredTarget → List Step
default_steps l = if is_default (target_view l.target) then paths_steps l.paths.items else []

-- Returns the steps that write the edge `all`, with the paths of the targets that are built by default, and the line `default all`.
abbrev pub all_steps : List DeclaredTarget → List Step
all_steps targets =
    puts (codes "build all: phony") ++ (flat_map default_steps targets ++ puts (codes "\n\ndefault all\n"))

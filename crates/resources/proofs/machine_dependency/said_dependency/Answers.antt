use Rattle.std.proofs.Common.{◌≡◌, subst}
use Rattle.arguments.specs.Stops.{Gives}
use Rattle.values.specs.declared.object.Dependency.{Dependency}
use Rattle.machine_file.specs.View.{entries_of, strings_in}
use Rattle.resources.specs.Fitting.{said_dependency}
use Rattle.resources.specs.Found.{found_dependency}
use Rattle.resources.proofs.machine_dependency.said_dependency.Goals as goal

pub returns : goal.returns
returns c =
    let compiled = strings_in c.said_texts-compile_args.result.now in
    let linked = strings_in c.said_texts-link_args.result.now in
    let same : found_dependency c.args.name.now c.said_version.result.now compiled linked ≡ said_dependency c.args.name.now (entries_of c.args.section.now) =
    cc (c.said_version.ensures, c.said_texts-compile_args.ensures, c.said_texts-link_args.ensures) in
    subst (λ d. Gives (λ (found : Dependency). found) d c.found_dependency.result) same c.found_dependency.ensures

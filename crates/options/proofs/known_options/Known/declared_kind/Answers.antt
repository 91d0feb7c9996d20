use Rattle.std.proofs.Common.{ap}
use Rattle.std.specs.Option.{option_map}
use Rattle.options.specs.option_file.Declarations.{Declaration}
use Rattle.options.specs.Verdicts.{declared_kind}
use Rattle.options.proofs.known_options.Known.declared_kind.Goals as goal

pub returns-in-Some : goal.returns-in-Some
unfolding declared_kind
returns-in-Some c = ap (option_map (λ (d : Declaration). d.kind)) c.in-Some.ensures

pub returns-in-None : goal.returns-in-None
unfolding declared_kind
returns-in-None c = ap (option_map (λ (d : Declaration). d.kind)) c.in-None.ensures

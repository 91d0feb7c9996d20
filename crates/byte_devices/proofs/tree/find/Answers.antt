use Rattle.std.proofs.Common.{◌∙◌, ap}
use Rattle.std.specs.Option.{option_map}
use Rattle.byte_devices.proofs.Named.{file_at-lookup}
use Rattle.byte_devices.proofs.tree.find.Goals as goal

pub returns-in-Some : goal.returns-in-Some
returns-in-Some c = ap (option_map (λ v. v.now)) c.in-Some.ensures.value ∙ file_at-lookup c.args.path.now c.args.files.now.entries

pub returns-in-None : goal.returns-in-None
returns-in-None c = ap (option_map (λ v. v.now)) c.in-None.ensures.value ∙ file_at-lookup c.args.path.now c.args.files.now.entries

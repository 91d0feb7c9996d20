use Rattle.std.proofs.Common.{◌∙◌, ap, Some}
use Rattle.std.specs.Option.{option_map}
use Rattle.ports.proofs.Files.{file_at-lookup}
use Rattle.ports.proofs.memory.tree.find.Goals as goal

pub returns-in-Some : goal.returns-in-Some
returns-in-Some c = ap (λ r. Some r) c.as_slice.ensures.value ∙ ap (option_map (λ v. v.items)) c.in-Some.ensures.value ∙ file_at-lookup c.args.path.now c.args.files.now.entries

pub returns-in-None : goal.returns-in-None
returns-in-None c = ap (option_map (λ v. v.items)) c.in-None.ensures.value ∙ file_at-lookup c.args.path.now c.args.files.now.entries

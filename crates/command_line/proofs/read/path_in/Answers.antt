use Rattle.std.proofs.Common.{◌∙◌, [], ap, codes, List, ℕ, Option, unwrap_or}
use Rattle.clap.specs.Words.{found_of}
use Rattle.clap.proofs.WalkLemmas.{first_value-rows}
use Rattle.command_line.proofs.read.path_in.Goals as goal

pub returns-in-Some : goal.returns-in-Some
returns-in-Some c = ap (λ (path : Option (List ℕ)). unwrap_or path []) (c.in-Some.ensures ∙ first_value-rows (found_of c.args.found.now) (codes "folder"))

pub returns-in-None : goal.returns-in-None
returns-in-None c = ap (λ (path : Option (List ℕ)). unwrap_or path []) (c.in-None.ensures ∙ first_value-rows (found_of c.args.found.now) (codes "folder"))

use Rattle.std.proofs.Common.{◌∙◌, [], ap, codes, map, string_bytes, List, ℕ, Option, unwrap_or}
use Rattle.std.proofs.lemmas.Result.{IfOk-weaker}
use Rattle.clap.specs.Words.{found_of}
use Rattle.clap.proofs.WalkLemmas.{raw_values-rows}
use Rattle.command_line.proofs.read.words_in.Goals as goal

pub returns-in-Some : goal.returns-in-Some
returns-in-Some c = IfOk-weaker c.texts_of.result _ _
    (λ words same. same ∙ ap (λ (words : Option (List (List ℕ))). unwrap_or words []) (c.in-Some.ensures ∙ raw_values-rows (found_of c.args.found.now) (codes "option")))
    c.texts_of.ensures

pub returns-in-None : goal.returns-in-None
returns-in-None c = ap (map string_bytes) c.new.ensures.items ∙ ap (λ (words : Option (List (List ℕ))). unwrap_or words []) (c.in-None.ensures ∙ raw_values-rows (found_of c.args.found.now) (codes "option"))

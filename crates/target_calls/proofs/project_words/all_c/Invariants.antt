use Rattle.std.proofs.Common.{◌≡◌, drop}
use Rattle.std.specs.List.{list_all}
use Rattle.build.specs.edge.Texts.{texts}
use Rattle.target_calls.specs.ProjectWords.{is_c}
use Rattle.target_calls.proofs.project_words.all_c.Given as goal

-- what is left decides
abbrev pub invariant-loop-language : goal.invariant-loop-language
invariant-loop-language l = list_all is_c (texts (drop l.language-index l.languages)) ≡ list_all is_c (texts l.languages)

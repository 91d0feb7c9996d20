use Rattle.std.proofs.Common.{◌≡◌, map, drop}
use Rattle.project_calls.specs.Project.{other_language}
use Rattle.project_calls.proofs.project_call.other_language.Given as goal

-- what is left decides
abbrev pub invariant-loop-language : goal.invariant-loop-language
invariant-loop-language l = other_language (map (λ x. x.now) (drop l.language-index l.languages)) ≡ other_language (map (λ x. x.now) l.languages)

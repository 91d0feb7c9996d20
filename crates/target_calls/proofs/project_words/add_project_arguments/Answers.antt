use Rattle.std.proofs.Common.{map, string_bytes, ap, refl, ◌∙◌}
use Rattle.world.specs.Declaring.{add_arguments}
use Rattle.world.proofs.Answering.{carries_as, carries_give, carries_none, carries_stop, carries_then}
use Rattle.target_calls.specs.ProjectWords.{add_project_arguments}
use Rattle.target_calls.proofs.project_words.add_project_arguments.Goals as goal

pub returns-in_err-require_c : goal.returns-in_err-require_c
unfolding add_project_arguments
returns-in_err-require_c g c = carries_stop c.in_err-require_c.ensures c.from_residual.ensures.1

pub returns-in_err-words : goal.returns-in_err-words
unfolding add_project_arguments
returns-in_err-words g c = carries_then c.in_ok-require_c.ensures (carries_none c.from_residual-in_err-words.ensures.1)

pub returns-in_err-add_arguments : goal.returns-in_err-add_arguments
unfolding add_project_arguments
returns-in_err-add_arguments g c =
    carries_then c.in_ok-require_c.ensures (carries_stop (carries_as (ap (λ ws. add_arguments (map string_bytes ws)) c.deref.ensures.value
    ∙ ap add_arguments c.in_ok-words.ensures) c.in_err-add_arguments.ensures) c.from_residual-in_err-add_arguments.ensures.1)

pub returns : goal.returns
unfolding add_project_arguments
returns g c =
    carries_then c.in_ok-require_c.ensures (carries_then (carries_as (ap (λ ws. add_arguments (map string_bytes ws)) c.deref.ensures.value
    ∙ ap add_arguments c.in_ok-words.ensures) c.in_ok-add_arguments.ensures) (carries_give refl))

use Rattle.std.proofs.Common.{map, ap, ◌∙◌}
use Rattle.world.proofs.Answering.{carries_as, carries_none}
use Rattle.project_calls.specs.Project.{languages_taken}
use Rattle.project_calls.proofs.project_call.require_c.Goals as goal

pub returns-in_err-languages : goal.returns-in_err-languages
returns-in_err-languages g c = carries_none c.from_residual.ensures.1

pub returns : goal.returns
returns g c =
    carries_as (ap (λ ls. languages_taken (map (λ l. l.now) ls)) c.deref.ensures.value ∙ ap languages_taken c.in_ok-languages.ensures)
    c.check_languages.ensures

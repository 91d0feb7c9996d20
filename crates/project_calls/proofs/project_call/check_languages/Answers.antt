use Rattle.std.proofs.Common.{◌≡◌, ◌<◌, ◌≤◌, Bor, List, [], ◌∷◌, ℕ, length, map, ap, refl, ◌∙◌, arith}
use Rattle.world.proofs.Answering.{carries_as, carries_refuse}
use Rattle.project_calls.specs.Project.{only_c, languages_taken, other_language}
use Rattle.project_calls.proofs.project_call.check_languages.Goals as goal

none_taken : (ls : List (Bor (List ℕ))) → length ls < 1 → languages_taken [] ≡ languages_taken (map (λ l. l.now) ls)
none_taken [] h = refl
none_taken (l ∷ ls) h = absurd (omega arith)

some_taken : (ls : List (Bor (List ℕ))) → 1 ≤ length ls
    → only_c (other_language (map (λ l. l.now) ls)) ≡ languages_taken (map (λ l. l.now) ls)
unfolding languages_taken
some_taken [] h = absurd (omega arith)
some_taken (l ∷ ls) h = refl

pub returns-in-empty : goal.returns-in-empty
unfolding languages_taken
returns-in-empty g c = carries_as (none_taken c.args.languages.now c.in-empty.len_below) (carries_refuse c.refuse.ensures)

pub returns-in_default : goal.returns-in_default
returns-in_default g c =
    carries_as (ap only_c c.other_language.ensures ∙ some_taken c.args.languages.now c.in_default.len_at_least) c.refuse_other.ensures

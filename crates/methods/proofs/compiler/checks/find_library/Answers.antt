use Rattle.std.proofs.Common.{ap, refl}
use Rattle.world.specs.Deed.{answer_or_refusal}
use Rattle.world.proofs.Answering.{carries_as, carries_give, carries_stop, carries_then}
use Rattle.world.proofs.Settling.{carries_given}
use Rattle.methods.specs.CompilerChecks.{find_library, library_named}
use Rattle.methods.proofs.compiler.checks.find_library.Goals as goal

pub returns-in_err-is_so : goal.returns-in_err-is_so
unfolding find_library
returns-in_err-is_so g c = carries_stop c.in_err-is_so.ensures c.from_residual.ensures.1

pub returns-in_err-value : goal.returns-in_err-value
unfolding find_library
returns-in_err-value g c =
    carries_then c.in_ok-is_so.ensures (carries_stop (carries_as (ap (λ n. answer_or_refusal (library_named c.in_ok-is_so.is_so n)) c.first_text.ensures)
    (carries_given _ _ c.library_named.ensures c.in_err-value.ensures)) c.from_residual-in_err-value.ensures.1)

pub returns : goal.returns
unfolding find_library
returns g c =
    carries_then c.in_ok-is_so.ensures (carries_then {x = c.in_ok-value.value} (carries_as (ap (λ n. answer_or_refusal (library_named c.in_ok-is_so.is_so n)) c.first_text.ensures)
    (carries_given _ _ c.library_named.ensures c.in_ok-value.ensures)) (carries_give refl))

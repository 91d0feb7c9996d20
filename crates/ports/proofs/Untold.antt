-- One call of a device that tells nothing.
use Rattle.std.proofs.Common.{◌≡◌, ℕ, false, List, [], Some, None, sym, ◌∙◌}
use Rattle.ports.specs.Endings.{Ending, failures_after}
use Rattle.ports.specs.Outputs.{OutputState, name_after, opening_steps, closing_steps, puts, logs, faults, Took}
use Rattle.ports.proofs.Sending.{takes_untold}
use Rattle.ports.proofs.OpenNames.{name_after-puts, name_after-logs, name_after-faults}

pub untold_opens : {old new : OutputState} {e : Ending} (name : List ℕ) → old.tells ≡ false → new.open_name ≡ Some name
    → new.failures ≡ failures_after old.failures e → Took old (opening_steps name) e new
unfolding opening_steps name_after
untold_opens name t n f = record { takes = takes_untold _ t n; failures = f }

pub untold_closes : {old new : OutputState} {e : Ending} → old.tells ≡ false → new.open_name ≡ None → new.failures ≡ failures_after old.failures e → Took old closing_steps e new
unfolding closing_steps name_after
untold_closes t n f = record { takes = takes_untold _ t n; failures = f }

pub untold_none : {old new : OutputState} {e : Ending} → old.tells ≡ false → new.open_name ≡ old.open_name → new.failures ≡ failures_after old.failures e → Took old [] e new
unfolding name_after
untold_none t n f = record { takes = takes_untold _ t n; failures = f }

pub untold_puts : {old new : OutputState} {e : Ending} (bytes : List ℕ) → old.tells ≡ false → new.open_name ≡ old.open_name
    → new.failures ≡ failures_after old.failures e → Took old (puts bytes) e new
untold_puts bytes t n f = record { takes = takes_untold _ t (n ∙ sym (name_after-puts _ bytes)); failures = f }

pub untold_logs : {old new : OutputState} {e : Ending} (bytes : List ℕ) → old.tells ≡ false → new.open_name ≡ old.open_name
    → new.failures ≡ failures_after old.failures e → Took old (logs bytes) e new
untold_logs bytes t n f = record { takes = takes_untold _ t (n ∙ sym (name_after-logs _ bytes)); failures = f }

pub untold_faults : {old new : OutputState} {e : Ending} (bytes : List ℕ) → old.tells ≡ false → new.open_name ≡ old.open_name
    → new.failures ≡ failures_after old.failures e → Took old (faults bytes) e new
untold_faults bytes t n f = record { takes = takes_untold _ t (n ∙ sym (name_after-faults _ bytes)); failures = f }

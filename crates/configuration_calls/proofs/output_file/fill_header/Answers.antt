use Rattle.std.proofs.Common.{None}
use Rattle.configuration_calls.specs.Written.{header_filling}
use Rattle.configuration_calls.proofs.Telling.{acts_kept, acts_told, acts_unfilled, still_open}
use Rattle.world.specs.Making.{given_up}
use Rattle.world.proofs.Acting.{acts_then}
use Rattle.configuration_calls.proofs.output_file.fill_header.Goals as goal

pub returns-in_err-header-clause-acts : goal.returns-in_err-header-clause-acts
unfolding header_filling
returns-in_err-header-clause-acts g c = acts_unfilled None c.in_err-header.ensures.sends c.in_err-header.ensures.failures c.from_residual.ensures.1

pub returns-clause-acts : goal.returns-clause-acts
unfolding header_filling
returns-clause-acts g c = acts_then (λ files _. given_up None) (acts_told {view = λ u. u} {x = tt {0}} c.in_ok-header.ensures.sends c.in_ok-header.ensures.failures) acts_kept

pub returns-clause-open : goal.returns-clause-open
returns-clause-open g c = still_open c.requires c.in_ok-header.ensures.name c.in_ok-header.ensures.failures

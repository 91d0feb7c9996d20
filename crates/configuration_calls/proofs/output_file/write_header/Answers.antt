use Rattle.world.proofs.Acting.{acts_stop, acts_then}
use Rattle.configuration_calls.specs.Written.{header_filling}
use Rattle.configuration_calls.proofs.Telling.{close_then, fill_then}
use Rattle.configuration_calls.proofs.output_file.write_header.Goals as goal

pub returns-in_err-open : goal.returns-in_err-open
returns-in_err-open g c = acts_stop (fill_then (λ files. header_filling c.args.values.now.entries)) c.in_err-open.ensures.acts c.from_residual.ensures.1

pub fill_header-requires : goal.fill_header-requires
fill_header-requires g c = c.in_ok-open.ensures.open

pub returns-in_err-fill_header : goal.returns-in_err-fill_header
returns-in_err-fill_header g c =
    acts_then (fill_then (λ files. header_filling c.args.values.now.entries)) c.in_ok-open.ensures.acts
    (acts_stop close_then c.in_err-fill_header.ensures.acts c.from_residual-in_err-fill_header.ensures.1)

pub close-requires : goal.close-requires
close-requires g c = c.in_ok-fill_header.ensures.open

pub returns : goal.returns
returns g c =
    acts_then (fill_then (λ files. header_filling c.args.values.now.entries)) c.in_ok-open.ensures.acts (acts_then close_then c.in_ok-fill_header.ensures.acts c.close.ensures)

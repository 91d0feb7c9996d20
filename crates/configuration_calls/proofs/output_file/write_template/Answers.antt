use Rattle.ports.specs.Tree.{bytes_at}
use Rattle.world.specs.Deed.{Files}
use Rattle.world.proofs.Acting.{acts_none, acts_stop, acts_then, room_after}
use Rattle.configuration_calls.specs.Written.{template_filling}
use Rattle.configuration_calls.proofs.Telling.{close_then, fill_then}
use Rattle.configuration_calls.proofs.output_file.write_template.Goals as goal

pub returns-in_err-line : goal.returns-in_err-line
returns-in_err-line g c = acts_none c.from_residual.ensures.1

pub returns-in_err-open : goal.returns-in_err-open
returns-in_err-open g c =
    let filling = λ (files : Files). template_filling c.args.values.now.entries c.args.template.now (bytes_at files c.args.template.now) in
    acts_stop (fill_then filling) c.in_err-open.ensures.acts c.from_residual-in_err-open.ensures.1

pub fill_template-requires-clause-room : goal.fill_template-requires-clause-room
fill_template-requires-clause-room g c = room_after c.requires c.in_ok-open.ensures.acts

pub fill_template-requires-clause-open : goal.fill_template-requires-clause-open
fill_template-requires-clause-open g c = c.in_ok-open.ensures.open

pub returns-in_err-fill_template : goal.returns-in_err-fill_template
returns-in_err-fill_template g c =
    let filling = λ (files : Files). template_filling c.args.values.now.entries c.args.template.now (bytes_at files c.args.template.now) in
    acts_then (fill_then filling) c.in_ok-open.ensures.acts (acts_stop close_then c.in_err-fill_template.ensures.acts c.from_residual-in_err-fill_template.ensures.1)

pub close-requires : goal.close-requires
close-requires g c = c.in_ok-fill_template.ensures.open

pub returns : goal.returns
returns g c =
    let filling = λ (files : Files). template_filling c.args.values.now.entries c.args.template.now (bytes_at files c.args.template.now) in
    acts_then (fill_then filling) c.in_ok-open.ensures.acts (acts_then close_then c.in_ok-fill_template.ensures.acts c.close.ensures)

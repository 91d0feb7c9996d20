use Rattle.std.proofs.Common.{option_map, sym, ap}
use Rattle.world.specs.Making.{written_output}
use Rattle.world.proofs.Acting.{acts_as}
use Rattle.configuration_calls.specs.Written.{filling_in}
use Rattle.configuration_calls.proofs.output_file.write_output.Goals as goal

pub returns-in-Some : goal.returns-in-Some
returns-in-Some g c =
    acts_as (ap (λ o files. written_output c.args.path.now (filling_in c.args.values.now.entries (option_map (λ t. t.now) o) files)) (sym c.in-Some.is)) c.write_template.ensures

pub returns-in-None : goal.returns-in-None
returns-in-None g c =
    acts_as (ap (λ o files. written_output c.args.path.now (filling_in c.args.values.now.entries (option_map (λ t. t.now) o) files)) (sym c.in-None.is)) c.write_header.ensures

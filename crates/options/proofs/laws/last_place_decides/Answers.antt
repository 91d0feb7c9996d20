use Rattle.options.specs.option_file.View.{options_in}
use Rattle.options.proofs.LastPlaces.{final_value}
use Rattle.options.proofs.laws.last_place_decides.Goals as goal

pub returns : goal.returns
returns c = λ defaults sections words settings e. final_value (options_in c.args.declared.now) defaults sections words settings e

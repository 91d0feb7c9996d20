use Rattle.options.specs.option_file.View.{options_in}
use Rattle.options.proofs.FinalValues.{final_names}
use Rattle.options.proofs.laws.names_are_in_order.Goals as goal

pub returns : goal.returns
returns c = λ defaults sections words settings e. final_names (options_in c.args.declared.now) defaults sections words settings
    c.args.declared.now.differ e

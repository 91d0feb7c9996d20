use Rattle.build.specs.View.{option_entry_view}
use Rattle.introspection.proofs.Lists.{always_on_ok}
use Rattle.introspection.proofs.ReadBack.{reads_option}
use Rattle.introspection.proofs.entries.put_option.Goals as goal

pub returns-clause-reads : goal.returns-clause-reads
returns-clause-reads c =
    always_on_ok c.put.result _ _ (reads_option (option_entry_view c.args.option.now) c.in_ok-value.ensures.reads) c.put.ensures.ok

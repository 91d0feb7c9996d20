use Rattle.std.proofs.Common.{◌∙◌, ap, List, ℕ}
use Rattle.option_values.specs.View.{kind_in}
use Rattle.option_values.specs.BuiltIns.{put_kind}
use Rattle.option_values.specs.View.{kinds_in}
use Rattle.option_values.proofs.BuiltInRows.{put_kind_seen}
use Rattle.option_values.proofs.built_in.put_kind.Goals as goal

pub returns : goal.returns
returns c = ap kinds_in c.in_ok-insert.ensures.entries ∙ put_kind_seen c.in_ok-name.name c.args.kind c.args.kinds.now.entries
    ∙ ap (λ (n : List ℕ). put_kind (record { name = n; kind = kind_in c.args.kind }) (kinds_in c.args.kinds.now.entries))
    c.in_ok-name.ensures.ok

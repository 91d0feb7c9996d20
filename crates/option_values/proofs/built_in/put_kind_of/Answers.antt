use Rattle.std.proofs.Common.{◌≡◌, OnOk, subst}
use Rattle.option_values.specs.Kinds.{Kind}
use Rattle.option_values.specs.BuiltIns.{put_kind}
use Rattle.option_values.specs.View.{kinds_in}
use Rattle.option_values.proofs.built_in.put_kind_of.Goals as goal

pub returns : goal.returns
returns c =
    subst
    (λ (k : Kind). OnOk c.put_kind.result (kinds_in c.put_kind.new.kinds.entries
    ≡ put_kind (record { name = c.args.row.now.name.now; kind = k }) (kinds_in c.args.kinds.now.entries)))
    c.in_ok-kind.ensures c.put_kind.ensures

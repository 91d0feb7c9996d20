use Rattle.std.proofs.Common.{Some, is_some, ap, ◌∙◌}
use Rattle.values.specs.Data.{boolean}
use Rattle.template.specs.ConfigData.{content_of}
use Rattle.world.proofs.Answering.{carries_give, carries_read, carries_stop, carries_then}
use Rattle.configuration_calls.specs.Methods.{has}
use Rattle.configuration_calls.proofs.Data.{is_some-map}
use Rattle.configuration_calls.proofs.methods.has.Goals as goal

pub returns-in_err-name : goal.returns-in_err-name
unfolding has
returns-in_err-name g c = carries_stop c.in_err-name.ensures c.from_residual.ensures.1

pub returns : goal.returns
unfolding has
returns g c =
    let is = c.is_some.ensures ∙ is_some-map (λ v. content_of v.now) c.content_at-content.result ∙ ap is_some c.content_at-content.ensures in
    carries_then c.in_ok-name.ensures (carries_read (carries_give (ap (λ b. Some (boolean b)) is)))

use Rattle.std.proofs.Common.{◌≡◌, IfOk, option_map, string_bytes, sym, ap, subst, ◌∙◌}
use Rattle.std.specs.Prelude.{ok_or}
use Rattle.values.specs.Limits.{within_bytes}
use Rattle.values.specs.declared.refusal.OperationRefusal.TheVariants as refusals
use Rattle.support.specs.paths.Below.{ends_with_slash}
use Rattle.language_calls.proofs.Joining.{below_joined}
use Rattle.language_calls.proofs.path_joining.below.Goals as goal

pub returns : goal.returns
returns c =
    let bare = sym (c.ends_with_slash.ensures ∙ ap ends_with_slash c.as_str.ensures.value) ∙ c.if-ends_with_slash.false in
    let joined = below_joined (string_bytes c.args.path) c.args.text.now _ c.requires.some c.requires.relative bare c.in_ok-push_str.ensures.bytes in
    subst (λ bytes. IfOk c.lengthen-2.result (λ p. ok_or (option_map string_bytes p) refusals.Limit ≡ within_bytes bytes)) joined c.lengthen-2.ensures

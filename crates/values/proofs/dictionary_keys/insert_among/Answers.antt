use Rattle.std.proofs.Common.{[], arith, length, sym, ap, ◌∙◌}
use Rattle.std.specs.Prelude.{not, bytes_eq}
use Rattle.std.specs.List.{position}
use Rattle.support.specs.Sets.{insert_all}
use Rattle.values.proofs.KeysLemmas.{is_there, is_missing, goes_last, inserted_there, inserted_new, still_apart}
use Rattle.values.proofs.dictionary_keys.insert_among.Goals as goal

pub returns-in-Some-clause-added : goal.returns-in-Some-clause-added
returns-in-Some-clause-added c =
    let at = c.in-Some.ensures ∙ ap (position (bytes_eq c.args.key)) c.deref.ensures.value in
    sym (ap not (is_there c.args.key c.args.keys.now.items c.in-Some.index at))

pub returns-in-Some-clause-keys : goal.returns-in-Some-clause-keys
returns-in-Some-clause-keys c =
    let at = c.in-Some.ensures ∙ ap (position (bytes_eq c.args.key)) c.deref.ensures.value in
    inserted_there c.args.key c.args.keys.now.items c.in-Some.index at

pub returns-in_ok-push-in-None-clause-added : goal.returns-in_ok-push-in-None-clause-added
returns-in_ok-push-in-None-clause-added c =
    let at = c.in-None.ensures ∙ ap (position (bytes_eq c.args.key)) c.deref.ensures.value in
    sym (ap not (is_missing c.args.key c.args.keys.now.items at))

pub returns-in_ok-push-in-None-clause-keys : goal.returns-in_ok-push-in-None-clause-keys
returns-in_ok-push-in-None-clause-keys c =
    let at = c.in-None.ensures ∙ ap (position (bytes_eq c.args.key)) c.deref.ensures.value in
    c.in_ok-push-in-None.ensures.items
    ∙ inserted_new c.args.key c.args.keys.now.items at

pub returns-in_ok-push-in-None-clause-index : goal.returns-in_ok-push-in-None-clause-index
returns-in_ok-push-in-None-clause-index c =
    let at = c.in-None.ensures ∙ ap (position (bytes_eq c.args.key)) c.deref.ensures.value in
    omega (
      arith,
      c.len-index.ensures,
      c.deref.ensures.len,
      ap length c.deref.ensures.value,
      goes_last c.args.key c.args.keys.now.items at,
    )

pub returns-in_ok-push-in-None-clause-apart : goal.returns-in_ok-push-in-None-clause-apart
returns-in_ok-push-in-None-clause-apart c apart =
    let at = c.in-None.ensures ∙ ap (position (bytes_eq c.args.key)) c.deref.ensures.value in
    let there = c.in_ok-push-in-None.ensures.items in
    ap (insert_all bytes_eq []) there
    ∙ still_apart c.args.key c.args.keys.now.items at apart
    ∙ sym there

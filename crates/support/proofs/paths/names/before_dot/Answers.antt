use Rattle.std.proofs.Common.{◌≡◌, Bool, ◌∷◌, ◌++◌, string_bytes, codes, sym, ap, ◌∙◌, append_assoc, lit<, rules}
use Rattle.std.specs.Prelude.{if◌then◌else◌}
use Rattle.std.proofs.lemmas.Str.Pattern.{split_parts}
use Rattle.support.specs.paths.Names.{before_dot}
use Rattle.support.proofs.NameTexts.{none_has, before_dot-none, before_dot-behind}
use Rattle.support.proofs.paths.names.before_dot.Goals as goal

pub returns-then-not-has : goal.returns-then-not-has
returns-then-not-has c =
    let rest = c.loop-part.rest.now in
    let part = c.in-Some.part.now in
    let behind = c.in-Some.behind.now in
    let front = string_bytes c.loop-part.front in
    let cut = rw c.in-Some.is at (split_parts 46 rest c.split_once.result c.split_once.ensures.cases (lit< tt)) in
    let is : before_dot rest ≡ part =
    ap before_dot cut.0 ∙ before_dot-behind part behind ∙ ap (λ (b : Bool). if b then part ++ 46 ∷ before_dot behind else part) (sym c.has.ensures ∙ c.if-not-has.true) in
    c.in_ok-push_str.ensures.bytes ∙ ap (λ p. front ++ p) (sym is) ∙ c.loop-part.invariant.0

pub loop-part-preserved : goal.loop-part-preserved
loop-part-preserved c =
    let rest = c.loop-part.rest.now in
    let part = c.in-Some.part.now in
    let behind = c.in-Some.behind.now in
    let front = string_bytes c.loop-part.front in
    let cut = rw c.in-Some.is at (split_parts 46 rest c.split_once.result c.split_once.ensures.cases (lit< tt)) in
    let is : before_dot rest ≡ part ++ 46 ∷ before_dot behind =
    ap before_dot cut.0 ∙ before_dot-behind part behind ∙ ap (λ (b : Bool). if b then part ++ 46 ∷ before_dot behind else part) (sym c.has.ensures ∙ c.if-not-has.false) in (
      ap (λ p. p ++ before_dot behind) (c.in_ok-push_str-2.ensures.bytes ∙ ap (λ p. p ++ codes ".") c.in_ok-push_str.ensures.bytes)
          ∙ append_assoc (front ++ part) (codes ".") (before_dot behind)
          ∙ append_assoc front part (46 ∷ before_dot behind)
          ∙ ap (λ p. front ++ p) (sym is)
          ∙ c.loop-part.invariant.0,
      search rules,
    )

pub returns : goal.returns
returns c =
    let rest = c.loop-part.rest.now in
    let none = rw c.in_default.is at (split_parts 46 rest c.split_once.result c.split_once.ensures.cases (lit< tt)) in
    c.in_ok-push_str-3.ensures.bytes ∙ ap (λ p. string_bytes c.loop-part.front ++ p) (sym (before_dot-none rest (none_has 46 rest none))) ∙ c.loop-part.invariant.0

use Rattle.std.proofs.Common.{◌<◌, ◌++◌, ◌∷◌, [], ℕ, List, Bor, Option, map, length, rules, sym, ◌∙◌, ap, subst, arith}
use Rattle.std.specs.Prelude.{IfSome}
use Rattle.std.proofs.lemmas.List.{append-nil, length-map, length_push}
use Rattle.values.specs.texts.Cut.{pieces, pieces_of_rest}
use Rattle.values.proofs.PiecesLemmas.{too_many, few_enough, one_more_piece}
use Rattle.values.proofs.texts.split.push_pieces.Goals as goal

pub loop-piece-init : goal.loop-piece-init
loop-piece-init c = (
  c.utf8.text,
  ap (λ items. map (λ piece. piece.now) items ++ pieces c.args.cut c.args.text.now)
      (sym c.requires.none),
  omega (arith, ap length c.requires.none),
)

pub returns-then-len-eq-ITEMS : goal.returns-then-len-eq-ITEMS
returns-then-len-eq-ITEMS c =
    too_many (pieces c.args.cut c.args.text.now) (map (λ piece. piece.now) c.loop-piece.found.items)
    (pieces_of_rest (pieces c.args.cut) c.in-Some.after) c.in-Some.piece.now
    (c.loop-piece.invariant.1 ∙ ap (λ more. map (λ piece. piece.now) c.loop-piece.found.items ++ more) c.in-Some.ensures.first)
    (length-map c.loop-piece.found.items (λ piece. piece.now) ∙ omega (arith, c.loop-piece.found.ok.0))

pub loop-piece-smaller : goal.loop-piece-smaller
loop-piece-smaller c =
    let P : Option (Bor (List ℕ)) → Type 0 = λ o. IfSome o (λ r. length r.now < length c.loop-piece.rest.now) in
    subst P c.in-Some-after.is c.in-Some.ensures.shorter

pub loop-piece-preserved : goal.loop-piece-preserved
loop-piece-preserved c = (
  search rules,
  one_more_piece (pieces c.args.cut c.args.text.now) c.loop-piece.found.items c.push.new.self.items c.in-Some.piece
      (pieces c.args.cut c.loop-piece.rest.now) (pieces c.args.cut c.in-Some-after.after.now)
      c.loop-piece.invariant.1
      (c.in-Some.ensures.first
      ∙ ap (λ o. c.in-Some.piece.now ∷ pieces_of_rest (pieces c.args.cut) o) c.in-Some-after.is) c.in_ok-push.ensures.items,
  omega (arith, c.loop-piece.found.ok.0, ap length c.in_ok-push.ensures.items, length_push c.loop-piece.found.items c.in-Some.piece),
)

pub returns-in_default-after : goal.returns-in_default-after
returns-in_default-after c =
    few_enough (pieces c.args.cut c.args.text.now) (map (λ piece. piece.now) c.push.new.self.items)
    (one_more_piece (pieces c.args.cut c.args.text.now) c.loop-piece.found.items c.push.new.self.items c.in-Some.piece
    (pieces c.args.cut c.loop-piece.rest.now) []
    c.loop-piece.invariant.1
    (c.in-Some.ensures.first
    ∙ ap (λ o. c.in-Some.piece.now ∷ pieces_of_rest (pieces c.args.cut) o) c.in_default-after.is) c.in_ok-push.ensures.items
    ∙ append-nil (map (λ piece. piece.now) c.push.new.self.items))
    (omega (
      arith,
      length-map c.push.new.self.items (λ piece. piece.now),
      c.loop-piece.found.ok.0,
      ap length c.in_ok-push.ensures.items,
      length_push c.loop-piece.found.items c.in-Some.piece,
    ))

pub returns-in_default : goal.returns-in_default
returns-in_default c =
    few_enough (pieces c.args.cut c.args.text.now) (map (λ piece. piece.now) c.loop-piece.found.items)
    (c.loop-piece.invariant.1 ∙ ap (λ more. map (λ piece. piece.now) c.loop-piece.found.items ++ more) c.in_default.ensures.first
    ∙ append-nil (map (λ piece. piece.now) c.loop-piece.found.items))
    (omega (arith, length-map c.loop-piece.found.items (λ piece. piece.now), c.loop-piece.invariant.2))

-- Two forms that begin with the same token, told apart by the one behind it.
use Rattle.std.proofs.Common.{◌≡◌, ◌≤◌, true, false, List, [], ◌∷◌, ◌++◌, length, Result, Ok, refl, sym, ap, subst, ◌∙◌, ◌⊎◌, inl, inr}
use Rattle.std.proofs.Common.{arith, length-append}
use Rattle.std.proofs.lemmas.Bool.{and_from, and_parts}
use Rattle.syntax.specs.lexer.Lexeme.{Lexeme}
use Rattle.syntax.specs.lexer.Kinds.{is}
use Rattle.syntax.specs.declared.lexer.token.TokenKind.{TokenKind}
use Rattle.syntax.specs.declared.stop.ParseStop.{ParseStop}
use Rattle.syntax.specs.Form.{Form, token, ◌>>=◌, ◌or◌}
use Rattle.syntax.specs.Reading.{Reader, begins, or_at, token_at, two_begin}
use Rattle.syntax.proofs.Ends.{IsEnd, ends-or}
use Rattle.syntax.proofs.Laws.{IsForm-or, bind_at, Reads, cases_bool, left_of, reads-or}
use Rattle.syntax.proofs.Line.{Line, line-then, line-token}
use Rattle.syntax.proofs.Numbers.{eq-is, is-true}
use Rattle.syntax.proofs.Raises.{raises-or}
use Rattle.syntax.proofs.Starts.{Starts, begins-head, takes-or}

-- an end of t ∷ us that is at least as long as us
end_of_two : (t : Lexeme) (us more : List Lexeme) → IsEnd more (t ∷ us) → length us ≤ length more → (more ≡ t ∷ us) ⊎ (more ≡ us)
end_of_two t us more p le = go p.before p.parts
  where
    tail_same : (t s : Lexeme) (us vs : List Lexeme) → t ∷ us ≡ s ∷ vs → us ≡ vs
    tail_same t s us vs e = cc

    go : (before : List Lexeme) → t ∷ us ≡ before ++ more → (more ≡ t ∷ us) ⊎ (more ≡ us)
    go [] e = inl (sym e)
    go (s ∷ []) e = inr (sym (tail_same t s us more e))
    go (s ∷ u ∷ vs) e = absurd (omega (arith, ap length (tail_same t s us (u ∷ vs ++ more) e), length-append vs more))

-- The first form is a token of kind k and then one of kind l; of the second, a token of kind k alone is a spelling.
module _ {A : Type 0} (k l : TokenKind) (G G' : Lexeme → Form A) (Y Y' : Form A) (s s' : Lexeme → Reader A) (r r' : Reader A) (Stops StopsY : List Lexeme → Type 0)
    (starts : (t : Lexeme) → Starts (G t) (λ m. is m l)) (x : (t : Lexeme) → Line (G t) (G' t) (s t) (s' t) Stops 0) (y : Line Y Y' r r' StopsY 1)
    (single : (t : Lexeme) (us : List Lexeme) → t.kind ≡ k → (a : A) × Y.spells a (t ∷ us) us)
    (second : (us : List Lexeme) → begins l us ≡ true → StopsY us)
    (done : (us : List Lexeme) → Stops us → StopsY us × (begins l us ≡ false)) where
  abbrev X : Form A
  X = token k >>= G

  two : (ts : List Lexeme) (t : Lexeme) (m : List Lexeme) → ts ≡ t ∷ m → t.kind ≡ k → begins l m ≡ true → two_begin k l ts ≡ true
  two ts t m e h b = rw e (and_from (is t.kind k) (begins l m) (eq-is t.kind k h) b)

  two_read : (t : Lexeme) (us : List Lexeme) → two_begin k l (t ∷ us) ≡ true → (a : A) × (r (t ∷ us) ≡ Ok (a, us))
  two_read t us e =
      let b = and_parts (is t.kind k) (begins l us) e in
      let w = single t us (is-true t.kind k b.0) in
      (w.0, y.reads.complete w.0 (t ∷ us) us w.1 (second us b.1))

  same_rest : (a b : A) (us vs : List Lexeme) → ◌≡◌ {A = Result (A × List Lexeme) ParseStop} (Ok (a, us)) (Ok (b, vs)) → us ≡ vs
  same_rest a b us vs h = let p : ◌≡◌ {A = A × List Lexeme} (a, us) (b, vs) = cc in ap (λ (x : A × List Lexeme). x.1) p

  x_two : (a : A) (ts rest : List Lexeme) → X.spells a ts rest → two_begin k l ts ≡ true
  x_two a ts rest (t, m, h, q) = two ts t m h.0 h.1 (begins-head l m ∙ (starts t).spelled a m rest q)

  y_one : (a : A) (ts rest : List Lexeme) → Y.spells a ts rest → Stops rest → two_begin k l ts ≡ false
  y_one a [] rest h st = refl
  y_one a (t ∷ us) rest h st = elim (cases_bool (two_begin k l (t ∷ us))) [
    | inl e ↦
        let w = two_read t us e in
        let d = done rest st in
        let same = same_rest w.0 a us rest (sym w.1 ∙ y.reads.complete a (t ∷ us) rest h d.0) in
        let b = subst (λ (v : List Lexeme). begins l v ≡ true) same (and_parts (is t.kind k) (begins l us) e).1 in
        let n = d.1 in absurd cc
    | inr e ↦ e
  ]

  y_front : (ts more : List Lexeme) → two_begin k l ts ≡ true → Y.front ts more → X.front ts more
  y_front [] more e h = absurd cc
  y_front (t ∷ us) more e h =
      let w = two_read t us e in
      elim (end_of_two t us more (y.ends.begun (t ∷ us) more h) (omega (arith, y.reads.reaches (t ∷ us) more h, ap left_of w.1))) [
        | inl same ↦ inl (inl (sym same))
        | inr same ↦ inl (inr (t, ap (λ (v : List Lexeme). t ∷ v) (sym same), is-true t.kind k (and_parts (is t.kind k) (begins l us) e).0))
      ]

  x_front : (ts more : List Lexeme) → two_begin k l ts ≡ false → X.front ts more → Y.front ts more
  x_front ts more e (inl (inl same)) = subst (λ (v : List Lexeme). Y.front v more) (sym same) (y.form.nothing more)
  x_front ts more e (inl (inr (t, h, c))) = let w = single t more c in subst (λ (v : List Lexeme). Y.front v more) (sym h) (y.form.whole w.0 (t ∷ more) more w.1)
  x_front ts more e (inr (t, m, h, q)) = elim ((starts t).begun m more q) [
    | inl same ↦ let w = single t more h.1 in subst (λ (v : List Lexeme). Y.front v more) (sym (h.0 ∙ ap (λ (v : List Lexeme). t ∷ v) (sym same))) (y.form.whole w.0 (t ∷ more) more w.1)
    | inr head ↦ let b = two ts t m h.0 h.1 (begins-head l m ∙ head) in absurd cc
  ]

  pub line-alike : Line ((token k >>= G) or Y) ((token k >>= G') or Y') (or_at (two_begin k l) (bind_at (token_at k) s) r) (or_at (two_begin k l) (bind_at (token_at k) s') r') Stops 1
  line-alike =
      let first = line-then (token k) (token k) G G' (token_at k) (token_at k) s s' Stops 1 0 (line-token k) x in
      let y_more : Reads Y r Stops = record {
        sound = y.reads.sound;
        complete = λ a ts rest h st. y.reads.complete a ts rest h (done rest st).0;
        faults = y.reads.faults;
        reaches = y.reads.reaches;
      } in
      record {
        form = IsForm-or X Y first.form y.form;
        reads = reads-or X Y (bind_at (token_at k) s) r (two_begin k l) Stops first.reads y_more x_two y_one y_front x_front;
        raises = raises-or X (token k >>= G') Y Y' (bind_at (token_at k) s) (bind_at (token_at k) s') r r' (two_begin k l) first.raises y.raises;
        ends = ends-or X Y first.ends y.ends;
        takes = takes-or X Y 1 first.takes y.takes;
      }

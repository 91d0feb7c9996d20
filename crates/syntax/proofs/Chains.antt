-- A part and what follows it: many of a form, or one at most.
use Rattle.std.proofs.Common.{◌≡◌, ℕ, ◌+◌, Bool, true, false, List, [], ◌∷◌, length, Option, Some, None, sym, subst, ◌∙◌, ◌⊎◌, inl, inr}
use Rattle.std.proofs.Common.{arith}
use Rattle.syntax.specs.lexer.Lexeme.{Lexeme}
use Rattle.syntax.specs.declared.lexer.token.TokenKind.{TokenKind}
use Rattle.syntax.specs.Form.{Form, give, many, optional, Repeats, ◌>>=◌, ◌or◌}
use Rattle.syntax.specs.Reading.{Reader, head_is, many_at, optional_at, or_at}
use Rattle.syntax.proofs.Ends.{ends-bind, ends-give, ends-many, ends-or}
use Rattle.syntax.proofs.Laws.{IsForm-many, IsForm-optional, IsForm-or, bind_at, give_at, reads-many, reads-optional, reads-or}
use Rattle.syntax.proofs.Line.{Line, line-bind, line-give, line-stops, raises-give}
use Rattle.syntax.proofs.Raises.{raises-bind, raises-many, raises-or}
use Rattle.syntax.proofs.Starts.{Starts, head_not, takes-bind, takes-give, takes-less, takes-many, takes-or}

-- what a form gives, made into something else
pub line-map : {A B : Type 0} (F F' : Form A) (g : A → B) (r r' : Reader A) (Stops : List Lexeme → Type 0) (i : ℕ) → Line F F' r r' Stops i
    → Line (F >>= λ a. give (g a)) (F' >>= λ a. give (g a)) (bind_at r (λ a. give_at (g a))) (bind_at r' (λ a. give_at (g a))) Stops i
line-map F F' g r r' Stops i f =
    line-stops (F >>= λ a. give (g a)) (F' >>= λ a. give (g a)) (bind_at r (λ a. give_at (g a))) (bind_at r' (λ a. give_at (g a))) Stops Stops (i + 0) i (λ ts st. st) (omega arith)
    (line-bind F F' (λ a. give (g a)) (λ a. give (g a)) r r' (λ a. give_at (g a)) (λ a. give_at (g a)) Stops Stops i 0 f (λ a. line-give (g a) Stops)
    (λ a b ts rest h st. subst Stops (sym h.1) st) (λ a ts more h. inl (sym h)))

-- two forms, of which the first begins with some kinds, and the second with others
pub line-either : {A : Type 0} (p q : TokenKind → Bool) (F F' G G' : Form A) (r r' s s' : Reader A) (Stops : List Lexeme → Type 0) (i : ℕ)
    → Starts F p → Starts G q → ((k : TokenKind) → q k ≡ true → p k ≡ false) → Line F F' r r' Stops i → Line G G' s s' Stops i → Line (F or G) (F' or G') (or_at (head_is p) r s) (or_at (head_is p) r' s') Stops i
line-either p q F F' G G' r r' s s' Stops i sf sg apart f g = record {
  form = IsForm-or F G f.form g.form;
  reads = reads-or F G r s (head_is p) Stops f.reads g.reads
      sf.spelled
      (λ a ts rest h st. head_not q p apart ts (sg.spelled a ts rest h))
      (λ ts more b h. elim (sg.begun ts more h) [ inl same ↦ subst (F.front ts) (sym same) (f.form.nothing ts) | inr head ↦ let o = head_not q p apart ts head in absurd cc ])
      (λ ts more b h. elim (sf.begun ts more h) [ inl same ↦ subst (G.front ts) (sym same) (g.form.nothing ts) | inr head ↦ absurd cc ]);
  raises = raises-or F F' G G' r r' s s' (head_is p) f.raises g.raises;
  ends = ends-or F G f.ends g.ends;
  takes = takes-or F G i f.takes g.takes;
}

module _ {A : Type 0} (F F' : Form A) (r r' : Reader A) (p : TokenKind → Bool) (Stops : List Lexeme → Type 0) (s : Starts F p) (f : Line F F' r r' Stops 1) where
  unbegun : (ts more : List Lexeme) → F.front ts more → head_is p ts ≡ false → more ≡ ts
  unbegun ts more h b = elim (s.begun ts more h) [ inl same ↦ same | inr head ↦ absurd cc ]

  pub line-many : (StopsMany : List Lexeme → Type 0) → ((ts : List Lexeme) → head_is p ts ≡ true → Stops ts) → ((ts : List Lexeme) → StopsMany ts → (head_is p ts ≡ false) × Stops ts)
      → Line (many F) (many F') (λ ts. many_at (head_is p) r (length ts) ts) (λ ts. many_at (head_is p) r' (length ts) ts) StopsMany 0
  line-many StopsMany again ends = record {
    form = IsForm-many F f.form;
    reads = reads-many F r (head_is p) Stops StopsMany f.form f.reads s.spelled (λ a ts rest h. omega (arith, f.takes.taken a ts rest h)) again ends unbegun;
    raises = raises-many F F' r r' (head_is p) f.reads.sound f.raises;
    ends = ends-many F f.form f.ends;
    takes = takes-many F (takes-less F 1 0 (omega arith) f.takes);
  }

  abbrev StopsHere : List Lexeme → Type 0
  StopsHere ts = (head_is p ts ≡ false) × Stops ts

  pub line-optional : Line (optional F) (optional F') (optional_at (head_is p) r) (optional_at (head_is p) r') StopsHere 0
  unfolding optional_at or_at
  line-optional = record {
    form = IsForm-optional F f.form;
    reads = reads-optional F r (head_is p) Stops f.form f.reads s.spelled unbegun;
    raises = raises-or (F >>= λ a. give (Some a)) (F' >>= λ a. give (Some a)) (give None) (give None) (bind_at r (λ a. give_at (Some a))) (bind_at r' (λ a. give_at (Some a))) (give_at None) (give_at None) (head_is p)
        (raises-bind F F' (λ a. give (Some a)) (λ a. give (Some a)) r r' (λ a. give_at (Some a)) (λ a. give_at (Some a)) f.reads.sound f.raises (λ a. raises-give (Some a))) (raises-give None);
    ends = ends-or (F >>= λ a. give (Some a)) (give None) (ends-bind F (λ a. give (Some a)) f.form f.ends (λ a. ends-give (Some a))) (ends-give None);
    takes = takes-or (F >>= λ a. give (Some a)) (give None) 0 (takes-less (F >>= λ a. give (Some a)) 1 0 (omega arith) (takes-bind F (λ a. give (Some a)) 1 0 f.takes (λ a. takes-give (Some a)))) (takes-give None);
  }

  -- what follows a part: where p begins it, or where it has ended
  module _ {B : Type 0} (P P' : Form B) (q q' : Reader B) (After : List Lexeme → Type 0) (StopsAll : List Lexeme → Type 0) (part : Line P P' q q' After 1)
      (begun : (ts : List Lexeme) → head_is p ts ≡ true → After ts × Stops ts) (done : (ts : List Lexeme) → StopsAll ts → (head_is p ts ≡ false) × Stops ts × After ts) where
    repeated : (xs : List A) (ts rest : List Lexeme) → Repeats F xs ts rest → StopsAll rest → After ts
    repeated [] ts rest h st = subst After (sym h) (done rest st).2
    repeated (x ∷ xs) ts rest h st = (begun ts (s.spelled x ts h.0 h.1)).0

    repeated_front : (xs : List A) (ts mid more : List Lexeme) → Repeats F xs ts mid → (more ≡ mid) ⊎ (head_is p mid ≡ true) → (more ≡ ts) ⊎ After ts
    repeated_front [] ts mid more h e = elim e [ inl same ↦ inl (same ∙ sym h) | inr head ↦ inr (begun ts (subst (λ (l : List Lexeme). head_is p l ≡ true) (sym h) head)).0 ]
    repeated_front (x ∷ xs) ts mid more h e = inr (begun ts (s.spelled x ts h.0 h.1)).0

    pub line-then-many : {C : Type 0} (g : B → List A → C)
        → Line (P >>= λ b. many F >>= λ xs. give (g b xs)) (P' >>= λ b. many F' >>= λ xs. give (g b xs))
        (bind_at q (λ b. bind_at (λ ts. many_at (head_is p) r (length ts) ts) (λ xs. give_at (g b xs)))) (bind_at q' (λ b. bind_at (λ ts. many_at (head_is p) r' (length ts) ts) (λ xs. give_at (g b xs)))) StopsAll 1
    line-then-many g =
        line-stops _ _ _ _ StopsAll StopsAll (1 + 0) 1 (λ ts st. st) (omega arith)
        (line-bind P P' (λ b. many F >>= λ xs. give (g b xs)) (λ b. many F' >>= λ xs. give (g b xs)) q q' _ _ After StopsAll 1 0 part
        (λ b. line-map (many F) (many F') (g b) _ _ StopsAll 0 (line-many StopsAll (λ ts h. (begun ts h).1) (λ ts st. ((done ts st).0, (done ts st).1))))
        (λ b c ts rest h st. repeated h.0 ts h.1 h.2 (subst StopsAll (sym h.3.1) st))
        (λ b ts more h. elim h [
          | inl w ↦ repeated_front w.0 ts w.1 more w.2 (s.begun w.1 more w.3)
          | inr w ↦ repeated_front w.0 ts w.1 more w.2 (inl (sym w.3))
        ]))

    once : (o : Option A) (ts rest : List Lexeme) → (optional F).spells o ts rest → StopsAll rest → After ts
    once o ts rest h st = elim h [ inl w ↦ (begun ts (s.spelled w.0 ts w.1 w.2)).0 | inr w ↦ subst After (sym w.1) (done rest st).2 ]

    once_front : (ts more : List Lexeme) → (optional F).front ts more → (more ≡ ts) ⊎ After ts
    once_front ts more (inl (inl h)) = elim (s.begun ts more h) [ inl same ↦ inl same | inr head ↦ inr (begun ts head).0 ]
    once_front ts more (inl (inr w)) = inr (begun ts (s.spelled w.0 ts w.1 w.2)).0
    once_front ts more (inr h) = inl (sym h)

    once_whole : (o : Option A) (ts more : List Lexeme) → (optional F).spells o ts more → (more ≡ ts) ⊎ After ts
    once_whole o ts more h = elim h [ inl w ↦ inr (begun ts (s.spelled w.0 ts w.1 w.2)).0 | inr w ↦ inl (sym w.1) ]

    pub line-then-optional : {C : Type 0} (g : B → Option A → C)
        → Line (P >>= λ b. optional F >>= λ o. give (g b o)) (P' >>= λ b. optional F' >>= λ o. give (g b o))
        (bind_at q (λ b. bind_at (optional_at (head_is p) r) (λ o. give_at (g b o)))) (bind_at q' (λ b. bind_at (optional_at (head_is p) r') (λ o. give_at (g b o)))) StopsAll 1
    line-then-optional g =
        line-stops _ _ _ _ StopsAll StopsAll (1 + 0) 1 (λ ts st. st) (omega arith)
        (line-bind P P' (λ b. optional F >>= λ o. give (g b o)) (λ b. optional F' >>= λ o. give (g b o)) q q' _ _ After StopsAll 1 0 part
        (λ b. line-map (optional F) (optional F') (g b) _ _ StopsAll 0 (line-stops (optional F) (optional F') _ _ StopsHere StopsAll 0 0 (λ ts st. ((done ts st).0, (done ts st).1)) (omega arith) line-optional))
        (λ b c ts rest h st. once h.0 ts h.1 h.2 (subst StopsAll (sym h.3.1) st))
        (λ b ts more h. elim h [
          | inl w ↦ once_front ts more w
          | inr w ↦ once_whole w.0 ts more (subst (λ (l : List Lexeme). (optional F).spells w.0 ts l) w.3 w.2)
        ]))

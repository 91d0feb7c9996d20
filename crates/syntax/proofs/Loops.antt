-- A loop that reads a form again and again.
use Rattle.std.proofs.Common.{not, inl, inr, subst, get_or, take, drop, ◌-◌, ◌+◌, ◌≡◌, ℕ, zero, suc, ◌≤◌, ◌<◌, Bool, true, false, List, []}
use Rattle.std.proofs.Common.{◌∷◌, ◌++◌, length, Result, Ok, Err, refl, sym, ap, ◌∙◌, arith, append_assoc}
use Rattle.std.proofs.lemmas.List.{append-nil}
use Rattle.syntax.specs.lexer.Kinds.{is}
use Rattle.syntax.specs.lexer.Lexeme.{Lexeme, lexeme_of, lexemes}
use Rattle.syntax.specs.declared.lexer.token.Token.{Token}
use Rattle.syntax.specs.declared.stop.ParseStop.{ParseStop}
use Rattle.syntax.specs.declared.stop.ReadError.{ReadError}
use Rattle.syntax.specs.declared.stop.ReadError.TheVariants as errors
use Rattle.syntax.specs.declared.lexer.token.TokenKind.{TokenKind}
use Rattle.syntax.specs.declared.lexer.token.TokenKind.TheVariants as Kinds
use Rattle.syntax.specs.Reading.{Reader, ◌>>=◌, Fails, begins, head_is, items_by, listed_at, many_at, more_at, tail_at, token_at}
use Rattle.syntax.proofs.Gathered as gathered
use Rattle.syntax.proofs.Gathered.{all, head_long, one_regroup, with_one}
use Rattle.syntax.proofs.Laws.{cases_bool}
use Rattle.syntax.proofs.Tails.{rest_is}

-- what was read before, and what is still read
abbrev pub with_front : {A : Type 0} → List A → Result (List A × List Lexeme) ParseStop → Result (List A × List Lexeme) ParseStop
with_front front read = read >>= λ x. Ok (front ++ x.0, x.1)

nothing_before : {A : Type 0} (read : Result (List A × List Lexeme) ParseStop) → with_front [] read ≡ read
nothing_before (Ok x) = refl
nothing_before (Err f) = refl

regroup : {A : Type 0} (front : List A) (a : A) (read : Result (List A × List Lexeme) ParseStop) → with_front front (read >>= λ x. Ok (a ∷ x.0, x.1)) ≡ with_front (front ++ a ∷ []) read
regroup {A} front a (Ok x) = ap (λ (ns : List A). Ok (ns, x.1)) (simp append_assoc)
regroup front a (Err f) = refl

-- ---- values that are read while the first token is of these kinds

module _ {A : Type 0} (p : TokenKind → Bool) (r : Reader A) where
  abbrev pub StillReads : List A → List Lexeme → Result (List A × List Lexeme) ParseStop → Type 0
  StillReads = gathered.StillReads (head_is p) r all with_one append-nil one_regroup (head_long p)

  pub still_first : (ts : List Lexeme) → StillReads [] ts (many_at (head_is p) r (length ts) ts)
  still_first ts = (length ts, omega arith, nothing_before (many_at (head_is p) r (length ts) ts))

  pub still_more : (before : List A) (ts : List Lexeme) (total : Result (List A × List Lexeme) ParseStop) (a : A) (rest : List Lexeme)
      → StillReads before ts total → head_is p ts ≡ true → r ts ≡ Ok (a, rest) → length rest < length ts → StillReads (before ++ a ∷ []) rest total
  still_more = gathered.still_more (head_is p) r all with_one append-nil one_regroup (head_long p)

  pub still_fails : (before : List A) (ts : List Lexeme) (total : Result (List A × List Lexeme) ParseStop) (d : ReadError)
      → StillReads before ts total → head_is p ts ≡ true → Fails d (r ts) → Fails d total
  still_fails = gathered.still_fails (head_is p) r all with_one append-nil one_regroup (head_long p)

  pub still_ends : (before : List A) (ts : List Lexeme) (total : Result (List A × List Lexeme) ParseStop)
      → StillReads before ts total → head_is p ts ≡ false → total ≡ Ok (before, ts)
  still_ends = gathered.still_end (head_is p) r all with_one append-nil one_regroup (head_long p)

abbrev cons_to : {A : Type 0} → A → Result (List A × List Lexeme) ParseStop → Result (List A × List Lexeme) ParseStop
cons_to a read = read >>= λ y. Ok (a ∷ y.0, y.1)

abbrev first_then : {A : Type 0} → (List Lexeme → Result (List A × List Lexeme) ParseStop) → Result (A × List Lexeme) ParseStop → Result (List A × List Lexeme) ParseStop
first_then others first = first >>= λ x. cons_to x.0 (others x.1)

cons_result : {A : Type 0} (a : A) (read : Result (List A × List Lexeme) ParseStop) (xs : List A) (rest : List Lexeme)
    → cons_to a read ≡ Ok (xs, rest) → (b : A) × (more : List A) × (xs ≡ b ∷ more)
cons_result {A} a (Ok y) xs rest e =
    let same : ◌≡◌ {A = Result (List A × List Lexeme) ParseStop} (Ok (a ∷ y.0, y.1)) (Ok (xs, rest)) = e in
    let pair : ◌≡◌ {A = List A × List Lexeme} (a ∷ y.0, y.1) (xs, rest) = cc in (a, y.0, sym (ap (λ (q : List A × List Lexeme). q.0) pair))
cons_result a (Err f) xs rest e = absurd cc

-- where the form comes, it is read at least once
pub many_some : {A : Type 0} (next : List Lexeme → Bool) (r : Reader A) (ts : List Lexeme) (xs : List A) (rest : List Lexeme)
    → next ts ≡ true → 0 < length ts → many_at next r (length ts) ts ≡ Ok (xs, rest) → (a : A) × (more : List A) × (xs ≡ a ∷ more)
many_some next r [] xs rest b lt e = absurd (omega arith)
many_some {A} next r (t ∷ ts) xs rest b lt e = once (r (t ∷ ts)) (sym (rw b refl) ∙ e)
  where
    once : (first : Result (A × List Lexeme) ParseStop) → first_then (many_at next r (length ts)) first ≡ Ok (xs, rest) → (a : A) × (more : List A) × (xs ≡ a ∷ more)
    once (Ok x) h = cons_result x.0 (many_at next r (length ts) x.1) xs rest h
    once (Err f) h = absurd cc

-- ---- a list with commas

-- what is still to be read from ts on, and that together with what was read it is the whole
abbrev pub StillItems : {S A : Type 0} → (List Lexeme → Bool) → (S → Reader A) → (S → A → S) → S → List A → List Lexeme → Result (List A × List Lexeme) ParseStop → Type 0
StillItems stop r step s before ts total = (fuel : ℕ) × (length ts < fuel) × (with_front before (items_by stop r step fuel s ts) ≡ total)

pub items_first : {S A : Type 0} (k : TokenKind) (r : S → Reader A) (step : S → A → S) (s : S) (ts : List Lexeme) → StillItems (begins k) r step s [] ts (listed_at k r step s ts)
unfolding listed_at
items_first k r step s ts = (length ts + 1, omega arith, nothing_before (items_by (begins k) r step (length ts + 1) s ts))

module _ {S A : Type 0} (stop : List Lexeme → Bool) (r : S → Reader A) (step : S → A → S) where
  items_stop : (k : ℕ) (s : S) (ts : List Lexeme) → stop ts ≡ true → items_by stop r step k s ts ≡ Ok ([], ts)
  unfolding items_by
  items_stop zero s ts b = refl
  items_stop (suc k) s ts b = rw b refl

  items_step : (k : ℕ) (s : S) (ts : List Lexeme) → stop ts ≡ false → items_by stop r step (suc k) s ts ≡ (r s ts >>= λ x. tail_at (items_by stop r step k (step s x.0)) x.1 >>= λ y. Ok (x.0 ∷ y.0, y.1))
  unfolding items_by
  items_step k s ts b = rw b refl

  tail_comma : (items : Reader (List A)) (ts : List Lexeme) → begins Kinds.Comma ts ≡ true → tail_at items ts ≡ (token_at Kinds.Comma ts >>= λ c. items c.1)
  unfolding tail_at
  tail_comma items ts b = rw b refl

  tail_none : (items : Reader (List A)) (ts : List Lexeme) → begins Kinds.Comma ts ≡ false → tail_at items ts ≡ Ok ([], ts)
  unfolding tail_at
  tail_none items ts b = rw b refl

  module _ (s : S) (before : List A) (ts : List Lexeme) (total : Result (List A × List Lexeme) ParseStop) (still : StillItems stop r step s before ts total) where
    pub items_closed : stop ts ≡ true → total ≡ Ok (before, ts)
    items_closed b = sym still.2 ∙ rw (items_stop still.0 s ts b) (ap (λ (xs : List A). Ok (xs, ts)) (append-nil before))

    pub items_fails : (d : ReadError) → stop ts ≡ false → Fails d (r s ts) → Fails d total
    items_fails errors.Memory b h = tt
    items_fails (errors.Stop f) b h = fails still
      where
        fails : StillItems stop r step s before ts total → total ≡ Err f
        fails (zero, le, e) = absurd (omega arith)
        fails (suc k, le, e) = sym e ∙ rw (items_step k s ts b, h) refl

    pub items_last : (a : A) (mid : List Lexeme) → stop ts ≡ false → r s ts ≡ Ok (a, mid) → begins Kinds.Comma mid ≡ false → total ≡ Ok (before ++ a ∷ [], mid)
    items_last a mid b h c = last still
      where
        last : StillItems stop r step s before ts total → total ≡ Ok (before ++ a ∷ [], mid)
        last (zero, le, e) = absurd (omega arith)
        last (suc k, le, e) = sym e ∙ rw (items_step k s ts b, h, tail_none (items_by stop r step k (step s a)) mid c) refl

    pub items_more : (a : A) (mid : List Lexeme) (c : Lexeme) (rest : List Lexeme) → stop ts ≡ false → r s ts ≡ Ok (a, mid) → begins Kinds.Comma mid ≡ true → token_at Kinds.Comma mid ≡ Ok (c, rest) → length rest < length ts
        → StillItems stop r step (step s a) (before ++ a ∷ []) rest total
    items_more a mid c rest b h comma t lt = more still
      where
        more : StillItems stop r step s before ts total → StillItems stop r step (step s a) (before ++ a ∷ []) rest total
        more (zero, le, e) = absurd (omega arith)
        more (suc k, le, e) = (k, omega arith, sym (regroup before a (items_by stop r step k (step s a) rest)) ∙ sym (rw (items_step k s ts b, h, tail_comma (items_by stop r step k (step s a)) mid comma, t) refl) ∙ e)

-- ---- a list that goes on where an element comes

more_comma_head : (k : TokenKind) (t : Lexeme) (ts : List Lexeme) → is t.kind Kinds.Comma ≡ true → more_at k (t ∷ ts) ≡ (not (begins k ts), ts)
unfolding more_at
more_comma_head k t ts e = rw e refl

more_other_head : (k : TokenKind) (t : Lexeme) (ts : List Lexeme) → is t.kind Kinds.Comma ≡ false → more_at k (t ∷ ts) ≡ (false, t ∷ ts)
unfolding more_at
more_other_head k t ts e = rw e refl

more_nothing : (k : TokenKind) → more_at k [] ≡ (false, [])
unfolding more_at
more_nothing k = refl

pub more_end : (k : TokenKind) (ts : List Token) → length ts < 1 → (false, lexemes ts) ≡ more_at k (lexemes ts)
more_end k [] lt = sym (more_nothing k)
more_end k (t ∷ ts) lt = absurd (omega arith)

pub more_none : (k : TokenKind) (ts : List Token) (d : Token) → 1 ≤ length ts → is (get_or ts 0 d).kind Kinds.Comma ≡ false → (false, lexemes ts) ≡ more_at k (lexemes ts)
more_none k [] d le e = absurd (omega arith)
more_none k (t ∷ ts) d le e = sym (more_other_head k (lexeme_of t) (lexemes ts) e)

pub more_comma : (k : TokenKind) (ts : List Token) (d : Token) → 1 ≤ length ts → is (get_or ts 0 d).kind Kinds.Comma ≡ true
    → (not (begins k (lexemes (take (length ts - 1) (drop 1 ts)))), lexemes (take (length ts - 1) (drop 1 ts))) ≡ more_at k (lexemes ts)
more_comma k [] d le e = absurd (omega arith)
more_comma k (t ∷ ts) d le e = ap (λ (us : List Token). (not (begins k (lexemes us)), lexemes us)) (sym (rest_is t ts)) ∙ sym (more_comma_head k (lexeme_of t) (lexemes ts) e)

comma_taken : (t : Lexeme) (ts : List Lexeme) → is t.kind Kinds.Comma ≡ true → token_at Kinds.Comma (t ∷ ts) ≡ Ok (t, ts)
unfolding token_at
comma_taken t ts e = rw e refl

module _ {S A : Type 0} (k : TokenKind) (r : S → Reader A) (step : S → A → S) where
  -- what was read, and whether an element comes, make the whole
  abbrev pub Pending : Bool → S → List A → List Lexeme → Result (List A × List Lexeme) ParseStop → Type 0
  Pending true s before ts total = (begins k ts ≡ false) × StillItems (begins k) r step s before ts total
  Pending false s before ts total = total ≡ Ok (before, ts)

  pending_at : (b : Bool) (s : S) (before : List A) (ts : List Lexeme) (total : Result (List A × List Lexeme) ParseStop) → begins k ts ≡ b
      → StillItems (begins k) r step s before ts total → Pending (not b) s before ts total
  pending_at true s before ts total e still = items_closed (begins k) r step s before ts total still e
  pending_at false s before ts total e still = (e, still)

  pub pending_first : (more : Bool) (s : S) (ts : List Lexeme) → more ≡ not (begins k ts) → Pending more s [] ts (listed_at k r step s ts)
  pending_first more s ts e = subst (λ (m : Bool). Pending m s [] ts (listed_at k r step s ts)) (sym e)
      (pending_at (begins k ts) s [] ts (listed_at k r step s ts) refl (items_first k r step s ts))

  module _ (more : Bool) (s : S) (before : List A) (ts : List Lexeme) (total : Result (List A × List Lexeme) ParseStop) (pending : Pending more s before ts total) where
    still_pending : more ≡ true → Pending true s before ts total
    still_pending e = let P : Bool → Type 0 = λ m. Pending m s before ts total in subst P e pending

    pub pending_fails : (d : ReadError) → more ≡ true → Fails d (r s ts) → Fails d total
    pending_fails d e h = let p = still_pending e in items_fails (begins k) r step s before ts total p.1 d p.0 h

    pub pending_more : (a : A) (mid : List Lexeme) (next : Bool) (rest : List Lexeme) (after : S) → more ≡ true → r s ts ≡ Ok (a, mid) → length mid < length ts
        → (next, rest) ≡ more_at k mid → after ≡ step s a → Pending next after (before ++ a ∷ []) rest total
    pending_more a mid next rest after e h lt m st = subst (λ (z : S). Pending next z (before ++ a ∷ []) rest total) (sym st) (goes mid h lt m)
      where
        to : (b : Bool) (us : List Lexeme) → ◌≡◌ {A = Bool × List Lexeme} (next, rest) (b, us) → Pending b (step s a) (before ++ a ∷ []) us total → Pending next (step s a) (before ++ a ∷ []) rest total
        to b us same p = subst (λ (q : Bool × List Lexeme). Pending q.0 (step s a) (before ++ a ∷ []) q.1 total) (sym same) p

        goes : (us : List Lexeme) → r s ts ≡ Ok (a, us) → length us < length ts → (next, rest) ≡ more_at k us → Pending next (step s a) (before ++ a ∷ []) rest total
        goes [] g l n = let p = still_pending e in
            to false [] (n ∙ more_nothing k) (items_last (begins k) r step s before ts total p.1 a [] p.0 g refl)
        goes (c ∷ us) g l n = let p = still_pending e in elim (cases_bool (is c.kind Kinds.Comma)) [
          | inl y ↦ to (not (begins k us)) us (n ∙ more_comma_head k c us y)
              (pending_at (begins k us) (step s a) (before ++ a ∷ []) us total refl
              (items_more (begins k) r step s before ts total p.1 a (c ∷ us) c us p.0 g y (comma_taken c us y) (omega arith)))
          | inr o ↦ to false (c ∷ us) (n ∙ more_other_head k c us o) (items_last (begins k) r step s before ts total p.1 a (c ∷ us) p.0 g o)
        ]

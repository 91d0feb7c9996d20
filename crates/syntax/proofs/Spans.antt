-- The tokens that are cut are those of the source, and there are no others.
use Rattle.std.proofs.Common.{◌≡◌, ◌≢◌, ℕ, zero, suc, ◌+◌, ◌≤◌, ◌<◌, List, [], ◌∷◌, ◌++◌, length, take, drop, refl, sym, ap, subst, ◌∙◌}
use Rattle.std.proofs.Common.{◌⊎◌, inl, inr, arith, Option, Some, None, Result, Ok, Err, length-append, length-drop}
use Rattle.std.proofs.lemmas.List.{take_at, drop_at, take-append-drop}
use Rattle.syntax.specs.declared.lexer.gap.GapPart.TheVariants.{Blank}
use Rattle.syntax.specs.declared.lexer.token.TokenKind.{TokenKind}
use Rattle.syntax.specs.declared.lexer.fault.SyntaxFault.{SyntaxFault}
use Rattle.syntax.specs.lexer.Bytes.{newlines}
use Rattle.syntax.specs.lexer.Kinds.{depth_after}
use Rattle.syntax.specs.lexer.Lexeme.{Lexeme}
use Rattle.syntax.specs.lexer.Lexing.{gap, token_at, place_after_gap, fault_at, with_first, lexeme_at, after_lexeme, lex_found, lex_here, lex, lexed_tokens}
use Rattle.syntax.specs.lexer.Tokens.{IsToken, NoToken, Place, start, Skips, IsNext, Spans, AreTokens, IsUnreadable}
use Rattle.syntax.proofs.Gaps.{gap_sound, gap_ends, gap_complete}
use Rattle.syntax.proofs.Lexemes.{token_sound, token_reach}

-- ---- the gap

pub skips_skipped : (p : Place) → Skips p (place_after_gap p)
skips_skipped p = record {
  gap = take (gap p.depth Blank p.rest) p.rest;
  parts = sym (take-append-drop (gap p.depth Blank p.rest) p.rest);
  between = gap_sound p.depth p.rest;
  ends = gap_ends p.depth Blank p.rest;
  line = refl;
  depth = refl;
}

place_is : (p q : Place) → p.rest ≡ q.rest → p.line ≡ q.line → p.depth ≡ q.depth → p ≡ q
place_is p q rest line depth = λ i. record { rest = rest i; line = line i; depth = depth i }

pub skips_only : (p q : Place) → Skips p q → place_after_gap p ≡ q
skips_only p q s =
    let n : gap p.depth Blank p.rest ≡ length s.gap = ap (gap p.depth Blank) s.parts ∙ gap_complete p.depth q.rest s.gap s.between s.ends in
    let front : take (gap p.depth Blank p.rest) p.rest ≡ s.gap = ap (λ (m : ℕ). take m p.rest) n ∙ ap (take (length s.gap)) s.parts ∙ take_at s.gap q.rest (length s.gap) refl in
    let back : drop (gap p.depth Blank p.rest) p.rest ≡ q.rest = ap (λ (m : ℕ). drop m p.rest) n ∙ ap (drop (length s.gap)) s.parts ∙ drop_at s.gap q.rest (length s.gap) refl in
    place_is (place_after_gap p) q back (ap (λ (l : List ℕ). p.line + newlines l) front ∙ sym s.line) (sym s.depth)

pub skipped_shorter : (p : Place) → length (place_after_gap p).rest ≤ length p.rest
skipped_shorter p = omega (arith, length-drop (gap p.depth Blank p.rest) p.rest)

-- ---- the next token

abbrev Next : Place → TokenKind × ℕ → Type 0
Next at x = IsNext at (lexeme_at at x) (after_lexeme at x)

pub next_found : (at : Place) (k : TokenKind) (n : ℕ) → token_at at.rest ≡ Some (k, n) → Next at (k, n)
next_found at k n e =
    let f = token_sound at.rest k n e in
    let front : take n at.rest ≡ f.text = ap (λ (m : ℕ). take m at.rest) f.size ∙ ap (take (length f.text)) f.parts ∙ take_at f.text f.rest (length f.text) refl in
    let back : drop n at.rest ≡ f.rest = ap (λ (m : ℕ). drop m at.rest) f.size ∙ ap (drop (length f.text)) f.parts ∙ drop_at f.text f.rest (length f.text) refl in
    record {
      parts = sym (take-append-drop n at.rest);
      token = subst (λ (l : List ℕ). IsToken k l (drop n at.rest)) (sym front) (subst (λ (l : List ℕ). IsToken k f.text l) (sym back) f.token);
      longest = λ j text rest parts token. longest_of j text rest parts token (ap length front) f.size;
      here = refl;
      line = refl;
      depth = refl;
    }
  where
    longest_of : (j : TokenKind) (text rest : List ℕ) → at.rest ≡ text ++ rest → IsToken j text rest → {l : ℕ} → length (take n at.rest) ≡ l → n ≡ l → length text ≤ length (take n at.rest)
    longest_of j text rest parts token {l} len size =
        let r = token_reach j text rest token in
        let found : token_at at.rest ≡ Some (r.kind, r.size) = ap token_at parts ∙ r.found in
        let same : ◌≡◌ {A = Option (TokenKind × ℕ)} (Some (r.kind, r.size)) (Some (k, n)) = sym found ∙ e in
        let pair : ◌≡◌ {A = TokenKind × ℕ} (r.kind, r.size) (k, n) = cc in
        omega (arith, r.within, ap (λ (p : TokenKind × ℕ). p.1) pair, len, size)

pub next_some : (at : Place) (k : TokenKind) (n : ℕ) → token_at at.rest ≡ Some (k, n) → length (drop n at.rest) < length at.rest
next_some at k n e = let f = token_sound at.rest k n e in omega (arith, length-drop n at.rest, f.size, f.some, ap length f.parts, length-append f.text f.rest)

pub none_found : (at : Place) → token_at at.rest ≡ None → NoToken at.rest
none_found at e k text rest parts token =
    let r = token_reach k text rest token in
    let found : token_at at.rest ≡ Some (r.kind, r.size) = ap token_at parts ∙ r.found in
    cc

lexeme_is : (a b : Lexeme) → a.kind ≡ b.kind → a.text ≡ b.text → a.line ≡ b.line → a ≡ b
lexeme_is a b kind text line = λ i. record { kind = kind i; text = text i; line = line i }

pub record IsOnly (at : Place) (t : Lexeme) (after : Place) : Type 0 where
  pub kind : TokenKind
  pub size : ℕ
  pub found : token_at at.rest ≡ Some (kind, size)
  pub lexeme : lexeme_at at (kind, size) ≡ t
  pub next : after_lexeme at (kind, size) ≡ after

pub next_only : (at : Place) (t : Lexeme) (after : Place) → IsNext at t after → IsOnly at t after
next_only at t after h =
    let r = token_reach t.kind t.text after.rest h.token in
    let found : token_at at.rest ≡ Some (r.kind, r.size) = ap token_at h.parts ∙ r.found in
    let f = token_sound at.rest r.kind r.size found in
    let le : length f.text ≤ length t.text = h.longest r.kind f.text f.rest f.parts f.token in
    let size : r.size ≡ length t.text = omega (arith, r.within, f.size, le) in
    let kind : r.kind ≡ t.kind = r.same size in
    let front : take r.size at.rest ≡ t.text = ap (λ (m : ℕ). take m at.rest) size ∙ ap (take (length t.text)) h.parts ∙ take_at t.text after.rest (length t.text) refl in
    let back : drop r.size at.rest ≡ after.rest = ap (λ (m : ℕ). drop m at.rest) size ∙ ap (drop (length t.text)) h.parts ∙ drop_at t.text after.rest (length t.text) refl in
    record {
      kind = r.kind;
      size = r.size;
      found = found;
      lexeme = lexeme_is (lexeme_at at (r.kind, r.size)) t kind front (sym h.here);
      next = place_is (after_lexeme at (r.kind, r.size)) after back (ap (λ (l : List ℕ). at.line + newlines l) front ∙ sym h.line) (ap (λ (j : TokenKind). depth_after j at.depth) kind ∙ sym h.depth);
    }

-- ---- all tokens

-- the tokens from a place on
pub record Ends (p : Place) (ts : List Lexeme) : Type 0 where
  pub end : Place
  pub spans : Spans p ts end
  pub all : end.rest ≡ []

pub record Breaks (p : Place) (f : SyntaxFault) : Type 0 where
  pub before : List Lexeme
  pub at : Place
  pub spans : Spans p before at
  pub more : at.rest ≢ []
  pub none : NoToken at.rest
  pub here : f ≡ fault_at at.line

pub lex_end : (n : ℕ) (p : Place) → (place_after_gap p).rest ≡ [] → lex (suc n) p ≡ Ok []
unfolding lex
lex_end n p e = rw e refl

pub lex_none : (n : ℕ) (p : Place) (b : ℕ) (bs : List ℕ) → (place_after_gap p).rest ≡ b ∷ bs → token_at (place_after_gap p).rest ≡ None → lex (suc n) p ≡ Err (fault_at (place_after_gap p).line)
unfolding lex
lex_none n p b bs e f = ap (lex_here (lex n) (place_after_gap p)) e ∙ ap (lex_found (lex n) (place_after_gap p)) (sym (ap token_at e) ∙ f)

pub lex_some : (n : ℕ) (p : Place) (b : ℕ) (bs : List ℕ) (x : TokenKind × ℕ) → (place_after_gap p).rest ≡ b ∷ bs → token_at (place_after_gap p).rest ≡ Some x
    → lex (suc n) p ≡ with_first (lexeme_at (place_after_gap p) x) (lex n (after_lexeme (place_after_gap p) x))
unfolding lex
lex_some n p b bs x e f = ap (lex_here (lex n) (place_after_gap p)) e ∙ ap (lex_found (lex n) (place_after_gap p)) (sym (ap token_at e) ∙ f)

with_first_ok : (t : Lexeme) (r : Result (List Lexeme) SyntaxFault) (ts : List Lexeme) → with_first t r ≡ Ok ts → (us : List Lexeme) × (r ≡ Ok us) × (ts ≡ t ∷ us)
with_first_ok t (Ok us) ts e = (us, refl, cc)
with_first_ok t (Err f) ts e = absurd cc

with_first_err : (t : Lexeme) (r : Result (List Lexeme) SyntaxFault) (f : SyntaxFault) → with_first t r ≡ Err f → r ≡ Err f
with_first_err t (Ok us) f e = absurd cc
with_first_err t (Err g) f e = cc

cases_rest : (s : List ℕ) → (s ≡ []) ⊎ ((b : ℕ) × (bs : List ℕ) × (s ≡ b ∷ bs))
cases_rest [] = inl refl
cases_rest (b ∷ bs) = inr (b, bs, refl)

cases_found : (o : Option (TokenKind × ℕ)) → (o ≡ None) ⊎ ((x : TokenKind × ℕ) × (o ≡ Some x))
cases_found None = inl refl
cases_found (Some x) = inr (x, refl)

not_empty : (s : List ℕ) (b : ℕ) (bs : List ℕ) → s ≡ b ∷ bs → s ≢ []
not_empty s b bs e f = cc

further : (p : Place) (x : TokenKind × ℕ) (us : List Lexeme) (to : Place) → token_at (place_after_gap p).rest ≡ Some x → Spans (after_lexeme (place_after_gap p) x) us to → Spans p (lexeme_at (place_after_gap p) x ∷ us) to
further p x us to e s = (place_after_gap p, after_lexeme (place_after_gap p) x, skips_skipped p, next_found (place_after_gap p) x.0 x.1 e, s)

shorter : (n : ℕ) (p : Place) (x : TokenKind × ℕ) → length p.rest < suc n → token_at (place_after_gap p).rest ≡ Some x → length (after_lexeme (place_after_gap p) x).rest < n
shorter n p x lt e = omega (arith, skipped_shorter p, next_some (place_after_gap p) x.0 x.1 e)

pub lex_sound : (n : ℕ) (p : Place) (ts : List Lexeme) → length p.rest < n → lex n p ≡ Ok ts → Ends p ts
lex_sound zero p ts lt e = absurd (omega arith)
lex_sound (suc n) p ts lt e = elim (cases_rest (place_after_gap p).rest) [
  | inl none ↦ subst (Ends p) (ok_is [] ts (sym (lex_end n p none) ∙ e)) (record { end = place_after_gap p; spans = skips_skipped p; all = none })
  | inr s ↦ elim (cases_found (token_at (place_after_gap p).rest)) [
    | inl none ↦ let x = lex_none n p s.0 s.1 s.2 none in absurd cc
    | inr f ↦
        let w = with_first_ok (lexeme_at (place_after_gap p) f.0) (lex n (after_lexeme (place_after_gap p) f.0)) ts (sym (lex_some n p s.0 s.1 f.0 s.2 f.1) ∙ e) in
        let ih = lex_sound n (after_lexeme (place_after_gap p) f.0) w.0 (shorter n p f.0 lt f.1) w.1 in
        subst (Ends p) (sym w.2) (record { end = ih.end; spans = further p f.0 w.0 ih.end f.1 ih.spans; all = ih.all })
  ]
]
  where
    ok_is : (us vs : List Lexeme) → ◌≡◌ {A = Result (List Lexeme) SyntaxFault} (Ok us) (Ok vs) → us ≡ vs
    ok_is us vs e = cc

pub lex_fault : (n : ℕ) (p : Place) (f : SyntaxFault) → length p.rest < n → lex n p ≡ Err f → Breaks p f
lex_fault zero p f lt e = absurd (omega arith)
lex_fault (suc n) p f lt e = elim (cases_rest (place_after_gap p).rest) [
  | inl none ↦ let x = lex_end n p none in absurd cc
  | inr s ↦ elim (cases_found (token_at (place_after_gap p).rest)) [
    | inl none ↦ record {
      before = [];
      at = place_after_gap p;
      spans = skips_skipped p;
      more = not_empty (place_after_gap p).rest s.0 s.1 s.2;
      none = none_found (place_after_gap p) none;
      here = err_is f (fault_at (place_after_gap p).line) (sym e ∙ lex_none n p s.0 s.1 s.2 none);
    }
    | inr x ↦
        let e1 = with_first_err (lexeme_at (place_after_gap p) x.0) (lex n (after_lexeme (place_after_gap p) x.0)) f (sym (lex_some n p s.0 s.1 x.0 s.2 x.1) ∙ e) in
        let ih = lex_fault n (after_lexeme (place_after_gap p) x.0) f (shorter n p x.0 lt x.1) e1 in
        record { before = lexeme_at (place_after_gap p) x.0 ∷ ih.before; at = ih.at; spans = further p x.0 ih.before ih.at x.1 ih.spans; more = ih.more; none = ih.none; here = ih.here }
  ]
]
  where
    err_is : (f g : SyntaxFault) → ◌≡◌ {A = Result (List Lexeme) SyntaxFault} (Err f) (Err g) → f ≡ g
    err_is f g e = cc

pub lex_complete : (n : ℕ) (p : Place) (ts : List Lexeme) (to : Place) → length p.rest < n → Spans p ts to → to.rest ≡ [] → lex n p ≡ Ok ts
lex_complete zero p ts to lt s all = absurd (omega arith)
lex_complete (suc n) p [] to lt s all = lex_end n p (ap (λ (q : Place). q.rest) (skips_only p to s) ∙ all)
lex_complete (suc n) p (t ∷ ts) to lt (at, after, s, h, more) all =
    let here : place_after_gap p ≡ at = skips_only p at s in
    let h' : IsNext (place_after_gap p) t after = subst (λ (q : Place). IsNext q t after) (sym here) h in
    let o = next_only (place_after_gap p) t after h' in
    let le = shorter n p (o.kind, o.size) lt o.found in
    let ih = lex_complete n (after_lexeme (place_after_gap p) (o.kind, o.size)) ts to le (subst (λ (q : Place). Spans q ts to) (sym o.next) more) all in
    elim (cases_rest (place_after_gap p).rest) [
      | inl none ↦ absurd (omega (arith, next_some (place_after_gap p) o.kind o.size o.found, ap length none))
      | inr w ↦ lex_some n p w.0 w.1 (o.kind, o.size) w.2 o.found ∙ ap (with_first (lexeme_at (place_after_gap p) (o.kind, o.size))) ih ∙ ap (λ (x : Lexeme). Ok (x ∷ ts)) o.lexeme
    ]

-- ---- a source

pub lexed_sound : (source : List ℕ) (ts : List Lexeme) → lexed_tokens source ≡ Ok ts → AreTokens source ts
unfolding lexed_tokens
lexed_sound source ts e = let h = lex_sound (length source + 1) (start source) ts (omega arith) e in record { end = h.end; spans = h.spans; all = h.all }

pub lexed_complete : (source : List ℕ) (ts : List Lexeme) → AreTokens source ts → lexed_tokens source ≡ Ok ts
unfolding lexed_tokens
lexed_complete source ts h = lex_complete (length source + 1) (start source) ts h.end (omega arith) h.spans h.all

pub lexed_fault : (source : List ℕ) (f : SyntaxFault) → lexed_tokens source ≡ Err f → (f ≡ fault_at f.line) × IsUnreadable source f.line
unfolding lexed_tokens
lexed_fault source f e =
    let h = lex_fault (length source + 1) (start source) f (omega arith) e in
    let line : f.line ≡ h.at.line = ap (λ (g : SyntaxFault). g.line) h.here in
    (h.here ∙ ap fault_at (sym line), record { before = h.before; at = h.at; spans = h.spans; more = h.more; none = h.none; here = sym line })

pub lexed_only : (source : List ℕ) (ts us : List Lexeme) → AreTokens source ts → AreTokens source us → ts ≡ us
lexed_only source ts us h g = ok_is ts us (sym (lexed_complete source ts h) ∙ lexed_complete source us g)
  where
    ok_is : (us vs : List Lexeme) → ◌≡◌ {A = Result (List Lexeme) SyntaxFault} (Ok us) (Ok vs) → us ≡ vs
    ok_is us vs e = cc

-- where no token begins behind the first ones, reading stops there
lex_breaks : (n : ℕ) (p : Place) (before : List Lexeme) (at : Place) → length p.rest < n → Spans p before at → at.rest ≢ [] → NoToken at.rest → lex n p ≡ Err (fault_at at.line)
lex_breaks zero p before at lt s more none = absurd (omega arith)
lex_breaks (suc n) p [] at lt s more none =
    let here : place_after_gap p ≡ at = skips_only p at s in
    elim (cases_rest (place_after_gap p).rest) [
      | inl empty ↦ absurd (more (ap (λ (q : Place). q.rest) (sym here) ∙ empty))
      | inr w ↦ elim (cases_found (token_at (place_after_gap p).rest)) [
        | inl e ↦ lex_none n p w.0 w.1 w.2 e ∙ ap (λ (q : Place). Err (fault_at q.line)) here
        | inr x ↦
            let f = token_sound (place_after_gap p).rest x.0.0 x.0.1 x.1 in
            absurd (subst (λ (q : Place). NoToken q.rest) (sym here) none x.0.0 f.text f.rest f.parts f.token)
      ]
    ]
lex_breaks (suc n) p (t ∷ ts) to lt (at, after, s, h, rest) more none =
    let here : place_after_gap p ≡ at = skips_only p at s in
    let h' : IsNext (place_after_gap p) t after = subst (λ (q : Place). IsNext q t after) (sym here) h in
    let o = next_only (place_after_gap p) t after h' in
    let le = shorter n p (o.kind, o.size) lt o.found in
    let ih = lex_breaks n (after_lexeme (place_after_gap p) (o.kind, o.size)) ts to le (subst (λ (q : Place). Spans q ts to) (sym o.next) rest) more none in
    elim (cases_rest (place_after_gap p).rest) [
      | inl empty ↦ absurd (omega (arith, next_some (place_after_gap p) o.kind o.size o.found, ap length empty))
      | inr w ↦ lex_some n p w.0 w.1 (o.kind, o.size) w.2 o.found ∙ ap (with_first (lexeme_at (place_after_gap p) (o.kind, o.size))) ih
    ]

pub lexed_breaks : (source : List ℕ) (line : ℕ) → IsUnreadable source line → lexed_tokens source ≡ Err (fault_at line)
unfolding lexed_tokens
lexed_breaks source line h = lex_breaks (length source + 1) (start source) h.before h.at (omega arith) h.spans h.more h.none ∙ ap (λ (l : ℕ). Err (fault_at l)) h.here

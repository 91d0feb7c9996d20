-- The loop that cuts a source into tokens.
use Rattle.std.proofs.Common.{◌≡◌, ℕ, zero, suc, ◌+◌, ◌-◌, ◌≤◌, ◌<◌, List, [], ◌∷◌, ◌++◌, length, take, drop, refl, sym, ap, ◌∙◌, inl, inr}
use Rattle.std.proofs.Common.{arith, Some, None, Result, Ok, Err, append_assoc, length-append, length-drop}
use Rattle.std.specs.Prelude.{◌==◌, ◌||◌}
use Rattle.std.proofs.lemmas.List.{append-nil, map-append}
use Rattle.std.proofs.lemmas.List.Sums.{count_by-le-length}
use Rattle.std.proofs.lemmas.Bool.{cases_Bool}
use Rattle.syntax.specs.declared.lexer.token.TokenKind.TheVariants as Kinds
use Rattle.syntax.specs.declared.lexer.token.Token.{Token}
use Rattle.syntax.specs.declared.lexer.gap.GapPart.TheVariants.{Blank}
use Rattle.syntax.specs.declared.lexer.token.TokenKind.{TokenKind}
use Rattle.syntax.specs.declared.lexer.fault.SyntaxFault.{SyntaxFault}
use Rattle.syntax.specs.declared.lexer.fault.SyntaxError.{SyntaxError}
use Rattle.syntax.specs.declared.lexer.fault.SyntaxError.TheVariants as errors
use Rattle.syntax.specs.lexer.Bytes.{newline, newlines}
use Rattle.syntax.specs.lexer.Kinds.{is, depth_after}
use Rattle.syntax.specs.lexer.Lexeme.{Lexeme, lexeme_of, lexemes}
use Rattle.syntax.specs.lexer.Lexing.{gap, token_at, place_after_gap, fault_at, lexeme_at, after_lexeme, with_first, lex, lexed_tokens}
use Rattle.syntax.specs.lexer.Tokens.{Place, start, AreTokens}
use Rattle.syntax.proofs.Cuts.{with_front, StillLexes}
use Rattle.syntax.proofs.Lexemes.{token_sound}
use Rattle.syntax.proofs.Spans.{lex_end, lex_none, lex_some, lexed_complete}

abbrev pub place : List ℕ → ℕ → ℕ → Place
place rest line depth = record { rest = rest; line = line; depth = depth }

front_nil : (r : Result (List Lexeme) SyntaxFault) → r ≡ with_front [] r
front_nil (Ok ts) = refl
front_nil (Err f) = refl

pub still_first : (source : List ℕ) → StillLexes source [] (place source 1 0)
unfolding lexed_tokens
still_first source = (length source + 1, omega arith, front_nil (lex (length source + 1) (start source)))

front_more : (ts : List Lexeme) (t : Lexeme) (r : Result (List Lexeme) SyntaxFault) → with_front ts (with_first t r) ≡ with_front (ts ++ t ∷ []) r
front_more ts t (Ok us) = ap (λ (l : List Lexeme). Ok l) (simp append_assoc)
front_more ts t (Err f) = refl

pub still_end : (source : List ℕ) (ts : List Lexeme) (rest here : List ℕ) (line depth n : ℕ) → StillLexes source ts (place rest line depth) → n ≡ gap depth Blank rest → here ≡ drop n rest → length here ≡ 0
    → lexed_tokens source ≡ Ok ts
still_end source ts rest here line depth n (zero, lt, e) gap_is here_is none = absurd (omega arith)
still_end source ts rest here line depth n (suc k, lt, e) gap_is here_is none =
    let at : drop (gap depth Blank rest) rest ≡ [] = ap (λ (m : ℕ). drop m rest) (sym gap_is) ∙ sym here_is ∙ empty here none in
    e ∙ ap (with_front ts) (lex_end k (place rest line depth) at) ∙ ap (λ (l : List Lexeme). Ok l) (append-nil ts)
  where
    empty : (s : List ℕ) → length s ≡ 0 → s ≡ []
    empty [] e = refl
    empty (b ∷ bs) e = absurd (omega arith)

some_byte : (s : List ℕ) → (length s ≡ 0 → ⊥) → (b : ℕ) × (bs : List ℕ) × (s ≡ b ∷ bs)
some_byte [] h = absurd (h refl)
some_byte (b ∷ bs) h = (b, bs, refl)

pub still_fault : (source : List ℕ) (ts : List Lexeme) (rest here : List ℕ) (line depth n m : ℕ) → StillLexes source ts (place rest line depth) → n ≡ gap depth Blank rest → here ≡ drop n rest
    → (length here ≡ 0 → ⊥) → m ≡ newlines (take n rest) → token_at here ≡ None → lexed_tokens source ≡ Err (fault_at (line + m))
still_fault source ts rest here line depth n m (zero, lt, e) gap_is here_is some lines none = absurd (omega arith)
still_fault source ts rest here line depth n m (suc k, lt, e) gap_is here_is some lines none =
    let at : here ≡ drop (gap depth Blank rest) rest = here_is ∙ ap (λ (i : ℕ). drop i rest) gap_is in
    let b = some_byte here some in
    let line_is : (place_after_gap (place rest line depth)).line ≡ line + m = ap (λ (i : ℕ). line + i) (ap (λ (i : ℕ). newlines (take i rest)) (sym gap_is) ∙ sym lines) in
    e ∙ ap (with_front ts) (lex_none k (place rest line depth) b.0 b.1 (sym at ∙ b.2) (ap token_at (sym at) ∙ none)) ∙ ap (λ (i : ℕ). Err (fault_at i)) line_is

pub still_more : (source : List ℕ) (ts us : List Lexeme) (rest here text after : List ℕ) (line depth n m l o d : ℕ) (k : TokenKind) → StillLexes source ts (place rest line depth) → n ≡ gap depth Blank rest → here ≡ drop n rest
    → m ≡ newlines (take n rest) → token_at here ≡ Some (k, l) → text ≡ take l here → after ≡ drop l here → o ≡ newlines text → d ≡ depth_after k depth
    → us ≡ ts ++ (record { kind = k; text = text; line = line + m }) ∷ [] → StillLexes source us (place after (line + m + o) d)
still_more source ts us rest here text after line depth n m l o d k (zero, lt, e) gap_is here_is lines found text_is after_is more_lines depth_is us_is = absurd (omega arith)
still_more source ts us rest here text after line depth n m l o d k (suc j, lt, e) gap_is here_is lines found text_is after_is more_lines depth_is us_is =
    let p : Place = place rest line depth in
    let at : here ≡ (place_after_gap p).rest = here_is ∙ ap (λ (i : ℕ). drop i rest) gap_is in
    let f = token_sound here k l found in
    let b = some_byte here (λ z. omega (arith, z, f.some, f.size, ap length f.parts, length-append f.text f.rest)) in
    let line_is : (place_after_gap p).line ≡ line + m = ap (λ (i : ℕ). line + i) (ap (λ (i : ℕ). newlines (take i rest)) (sym gap_is) ∙ sym lines) in
    let text_at : take l (place_after_gap p).rest ≡ text = ap (take l) (sym at) ∙ sym text_is in
    let step = lex_some j p b.0 b.1 (k, l) (sym at ∙ b.2) (ap token_at (sym at) ∙ found) in
    let lexeme : lexeme_at (place_after_gap p) (k, l) ≡ record { kind = k; text = text; line = line + m } = λ i. record { kind = k; text = text_at i; line = line_is i } in
    let next : after_lexeme (place_after_gap p) (k, l) ≡ place after (line + m + o) d = next_is (ap (drop l) (sym at) ∙ sym after_is) (ap (λ (q : ℕ). q + newlines (take l (place_after_gap p).rest)) line_is ∙ ap (λ (q : List ℕ). line + m + newlines q) text_at ∙ ap (λ (q : ℕ). line + m + q) (sym more_lines)) (sym depth_is) in (
      j,
      omega (arith, f.size, f.some, ap length f.parts, length-append f.text f.rest, ap length after_is, length-drop l here, ap length here_is, length-drop n rest),
      e ∙ ap (with_front ts) step ∙ front_more ts (lexeme_at (place_after_gap p) (k, l)) (lex j (after_lexeme (place_after_gap p) (k, l)))
          ∙ ap (λ (t : Lexeme). with_front (ts ++ t ∷ []) (lex j (after_lexeme (place_after_gap p) (k, l)))) lexeme ∙ ap (λ (q : Place). with_front (ts ++ (record { kind = k; text = text; line = line + m }) ∷ []) (lex j q)) next
          ∙ ap (λ (v : List Lexeme). with_front v (lex j (place after (line + m + o) d))) (sym us_is),
    )
  where
    next_is : {r r' : List ℕ} {a a' c c' : ℕ} → r ≡ r' → a ≡ a' → c ≡ c' → place r a c ≡ place r' a' c'
    next_is x y z = λ i. record { rest = x i; line = y i; depth = z i }

-- ---- what the answers say

pub only_ok : (source : List ℕ) (ts us : List Lexeme) → lexed_tokens source ≡ Ok ts → AreTokens source us → ts ≡ us
only_ok source ts us e h = ok_is ts us (sym e ∙ lexed_complete source us h)
  where
    ok_is : (us vs : List Lexeme) → ◌≡◌ {A = Result (List Lexeme) SyntaxFault} (Ok us) (Ok vs) → us ≡ vs
    ok_is us vs e = cc

pub only_err : {A : Type 0} (source : List ℕ) (f : SyntaxFault) (us : List Lexeme) → lexed_tokens source ≡ Err f → AreTokens source us → A
only_err source f us e h = let c = lexed_complete source us h in absurd cc

pub refused_is : {A : Type 0} (source : List ℕ) (f g : SyntaxFault) → lexed_tokens source ≡ Err f → ◌≡◌ {A = Result A SyntaxError} (Err (errors.Fault f)) (Err (errors.Fault g)) → lexed_tokens source ≡ Err g
refused_is source f g e h = let h' : ◌≡◌ {A = SyntaxError} (errors.Fault f) (errors.Fault g) = cc in let same : f ≡ g = cc in e ∙ ap (λ (x : SyntaxFault). Err x) same

-- ---- sizes

pub newlines_le : (s : List ℕ) → newlines s ≤ length s
newlines_le s = count_by-le-length (λ b. b == newline) s

pub depth_after_le : (k : TokenKind) (depth : ℕ) → depth_after k depth ≤ depth + 1
depth_after_le k depth = elim (cases_Bool (is k Kinds.OpenParenthesis || is k Kinds.OpenBracket || is k Kinds.OpenBrace)) [
  | inl y ↦ let e : depth_after k depth ≡ depth + 1 = rw y refl in omega (arith, e)
  | inr n ↦ elim (cases_Bool (is k Kinds.CloseParenthesis || is k Kinds.CloseBracket || is k Kinds.CloseBrace)) [
    | inl y ↦ let e : depth_after k depth ≡ depth - 1 = rw (n, y) refl in omega (arith, e)
    | inr m ↦ let e : depth_after k depth ≡ depth = rw (n, m) refl in omega (arith, e)
  ]
]

pub lexemes_push : (ts us : List Token) (t : Token) → us ≡ ts ++ t ∷ [] → lexemes us ≡ lexemes ts ++ lexeme_of t ∷ []
lexemes_push ts us t e = ap lexemes e ∙ map-append lexeme_of ts (t ∷ [])

-- the same of a token whose line is known by another number
pub token_size : (s : List ℕ) (k : TokenKind) (n : ℕ) → token_at s ≡ Some (k, n) → (0 < n) × (n ≤ length s)
token_size s k n e = let f = token_sound s k n e in (f.some, omega (arith, f.size, ap length f.parts, length-append f.text f.rest))

-- The string that is found at a place is the one that stands there.
use Rattle.std.proofs.Common.{◌≡◌, ◌≢◌, ℕ, zero, suc, ◌+◌, ◌-◌, ◌≤◌, ◌<◌, Bool, true, false, List, [], ◌∷◌, ◌++◌, length, take, drop}
use Rattle.std.proofs.Common.{get_or, refl, sym, ap, subst, ◌∙◌, inl, inr, arith, lit<, Option, Some, None, append_assoc, length-append}
use Rattle.std.proofs.Common.{length-drop}
use Rattle.std.specs.Prelude.{◌==◌, ◌||◌, ◌&&◌, EachIndex}
use Rattle.std.proofs.lemmas.Bool.{eqb-true, eq-eqb, cases_Bool, or_parts, or_from, not-true, not_from_false, and_parts, ne_eqb, cond-true}
use Rattle.std.proofs.lemmas.Bool.{cond-false}
use Rattle.std.proofs.lemmas.List.{at_drop_more, drop_all, take-append-drop, length-take-le}
use Rattle.std.proofs.Math.Seq.{get_or-append_seam}
use Rattle.syntax.specs.declared.lexer.token.TokenKind.{TokenKind}
use Rattle.syntax.specs.declared.lexer.token.TokenKind.TheVariants as Kinds
use Rattle.syntax.specs.lexer.Bytes.{quote, backslash, three_quotes, opens_raw}
use Rattle.syntax.specs.lexer.Escapes.{is_bad_escape}
use Rattle.syntax.specs.lexer.Kinds.{format_kind}
use Rattle.syntax.specs.lexer.Lexing.{further, inside, before_quotes, string_of, string_at, format_symbol, format_at}
use Rattle.syntax.specs.lexer.Tokens.{AreCharacters, no_more, plain, escaped, IsString, quoted, raw}
use Rattle.syntax.proofs.Escapes.{bad_before}
use Rattle.syntax.proofs.Escaping.{good_names, names_good}
use Rattle.syntax.proofs.Runs.{take_all}

further_some : (o : Option ℕ) (n : ℕ) → further o ≡ Some n → (m : ℕ) × (o ≡ Some m) × (n ≡ suc m)
further_some None n e = absurd cc
further_some (Some m) n e = (m, refl, cc)

-- ---- between quotes

inside_here : (b : ℕ) (bs : List ℕ) → (b == quote) ≡ true → inside false (b ∷ bs) ≡ Some 0
inside_here b bs e = cond-true (b == quote) _ _ e

inside_on : (b : ℕ) (bs : List ℕ) (t : Bool) → (b == quote) ≡ false → (b == backslash) ≡ t → inside false (b ∷ bs) ≡ further (inside t bs)
inside_on b bs t e f = cond-false (b == quote) _ _ e ∙ ap (λ (x : Bool). further (inside x bs)) f

inside_behind : (b : ℕ) (bs : List ℕ) → is_bad_escape (b ∷ bs) ≡ false → inside true (b ∷ bs) ≡ further (inside false bs)
inside_behind b bs e = cond-false (is_bad_escape (b ∷ bs)) _ _ e

inside_wrong : (b : ℕ) (bs : List ℕ) → is_bad_escape (b ∷ bs) ≡ true → inside true (b ∷ bs) ≡ None
inside_wrong b bs e = cond-true (is_bad_escape (b ∷ bs)) _ _ e

abbrev Closed : List ℕ → ℕ → Type 0
Closed s n = (more : List ℕ) × (drop n s ≡ quote ∷ more)

abbrev Between : Bool → List ℕ → ℕ → Type 0
Between false s n = AreCharacters (take n s) × Closed s n
Between true s n = AreCharacters (backslash ∷ take n s) × Closed s n

abbrev Inside : Bool → List ℕ → Type 0
Inside t s = (n : ℕ) → inside t s ≡ Some n → Between t s n

step_false : (b : ℕ) (bs : List ℕ) → Inside false bs → Inside true bs → Inside false (b ∷ bs)
step_false b bs go behind n e = elim (cases_Bool (b == quote)) [
  | inl q ↦
      let zero_is : ◌≡◌ {A = Option ℕ} (Some 0) (Some n) = sym (inside_here b bs q) ∙ e in
      let none : 0 ≡ n = cc in
      subst (Between false (b ∷ bs)) none (no_more, (bs, ap (λ (x : ℕ). x ∷ bs) (eqb-true b quote q)))
  | inr no_quote ↦ elim (cases_Bool (b == backslash)) [
    | inl y ↦
        let w = further_some (inside true bs) n (sym (inside_on b bs true no_quote y) ∙ e) in
        let ih = behind w.0 w.1 in
        subst (Between false (b ∷ bs)) (sym w.2) (subst (λ (x : ℕ). AreCharacters (x ∷ take w.0 bs)) (sym (eqb-true b backslash y)) ih.0, ih.1)
    | inr no_backslash ↦
        let w = further_some (inside false bs) n (sym (inside_on b bs false no_quote no_backslash) ∙ e) in
        let ih = go w.0 w.1 in
        subst (Between false (b ∷ bs)) (sym w.2) (plain b (take w.0 bs) (not_from_false _ (or_from (b == quote) (b == backslash) no_quote no_backslash)) ih.0, ih.1)
  ]
]

step_true : (b : ℕ) (bs : List ℕ) → Inside false bs → Inside true (b ∷ bs)
step_true b bs go n e = elim (cases_Bool (is_bad_escape (b ∷ bs))) [
  | inl bad ↦ absurd (let x = inside_wrong b bs bad in cc)
  | inr good ↦
      let w = further_some (inside false bs) n (sym (inside_behind b bs good) ∙ e) in
      let ih = go w.0 w.1 in
      let parts : bs ≡ take w.0 bs ++ quote ∷ ih.1.0 = sym (take-append-drop w.0 bs) ∙ ap (λ (l : List ℕ). take w.0 bs ++ l) ih.1.1 in
      let same : is_bad_escape (b ∷ take w.0 bs) ≡ false = sym (bad_before b (take w.0 bs) ih.1.0) ∙ ap (λ (l : List ℕ). is_bad_escape (b ∷ l)) (sym parts) ∙ good in
      subst (Between true (b ∷ bs)) (sym w.2) (escaped b (take w.0 bs) (good_names (b ∷ take w.0 bs) same) ih.0, ih.1)
]

inside_both : (s : List ℕ) → Inside false s × Inside true s
inside_both [] = (λ n e. absurd (nothing_false n e), λ n e. absurd (nothing_true n e))
  where
    nothing_false : (n : ℕ) → inside false [] ≡ Some n → ⊥
    nothing_false n e = cc

    nothing_true : (n : ℕ) → inside true [] ≡ Some n → ⊥
    nothing_true n e = cc
inside_both (b ∷ bs) = let ih = inside_both bs in (step_false b bs ih.0 ih.1, step_true b bs ih.0)

inside_complete : (text rest : List ℕ) → AreCharacters text → inside false (text ++ quote ∷ rest) ≡ Some (length text)
inside_complete _ rest no_more = refl
inside_complete _ rest (plain b text h g) =
    let other : ((b == quote) || (b == backslash)) ≡ false = not-true _ h in
    inside_on b (text ++ quote ∷ rest) false (or_parts (b == quote) (b == backslash) other).0 (or_parts (b == quote) (b == backslash) other).1 ∙ ap further (inside_complete text rest g)
inside_complete _ rest (escaped b text h g) =
    inside_on backslash (b ∷ (text ++ quote ∷ rest)) true refl refl
    ∙ ap further (inside_behind b (text ++ quote ∷ rest) (bad_before b text rest ∙ names_good (b ∷ text) h) ∙ ap further (inside_complete text rest g))

-- ---- up to three quotes

raw_before : (b : ℕ) (text more : List ℕ) → opens_raw (b ∷ (text ++ (three_quotes ++ more))) ≡ opens_raw (b ∷ (text ++ three_quotes))
raw_before b [] more = refl
raw_before b (c ∷ []) more = refl
raw_before b (c ∷ d ∷ text) more = refl

pub raw_opens : (s : List ℕ) → opens_raw s ≡ true → (more : List ℕ) × (s ≡ three_quotes ++ more)
raw_opens [] e = absurd cc
raw_opens (a ∷ []) e = absurd cc
raw_opens (a ∷ b ∷ []) e = absurd cc
raw_opens (a ∷ b ∷ c ∷ more) e =
    let front : ((a == quote) && (b == quote)) ≡ true = (and_parts _ (c == quote) e).0 in
    let first : a ≡ quote = eqb-true a quote (and_parts (a == quote) (b == quote) front).0 in
    let second : b ≡ quote = eqb-true b quote (and_parts (a == quote) (b == quote) front).1 in
    let third : c ≡ quote = eqb-true c quote (and_parts ((a == quote) && (b == quote)) (c == quote) e).1 in
    (more, ap (λ (x : ℕ). x ∷ b ∷ c ∷ more) first ∙ ap (λ (x : ℕ). quote ∷ x ∷ c ∷ more) second ∙ ap (λ (x : ℕ). quote ∷ quote ∷ x ∷ more) third)

abbrev NoneOpens : List ℕ → Type 0
NoneOpens text = EachIndex text (λ i. opens_raw (drop i (text ++ three_quotes)) ≡ false)

none_more : (b : ℕ) (text : List ℕ) → opens_raw (b ∷ (text ++ three_quotes)) ≡ false → NoneOpens text → NoneOpens (b ∷ text)
none_more b text here each zero lt = here
none_more b text here each (suc i) lt = each i (omega arith)

quotes_sound : (s : List ℕ) (n : ℕ) → before_quotes s ≡ Some n → NoneOpens (take n s) × ((more : List ℕ) × (drop n s ≡ three_quotes ++ more))
quotes_sound [] n e = absurd cc
quotes_sound (b ∷ bs) n e = elim (cases_Bool (opens_raw (b ∷ bs))) [
  | inl y ↦
      let zero_is : ◌≡◌ {A = Option ℕ} (Some 0) (Some n) = sym (cond-true (opens_raw (b ∷ bs)) _ _ y) ∙ e in
      let none : 0 ≡ n = cc in
      subst (λ (m : ℕ). NoneOpens (take m (b ∷ bs)) × ((more : List ℕ) × (drop m (b ∷ bs) ≡ three_quotes ++ more))) none (λ i lt. absurd (omega arith), raw_opens (b ∷ bs) y)
  | inr x ↦
      let w = further_some (before_quotes bs) n (sym (cond-false (opens_raw (b ∷ bs)) _ _ x) ∙ e) in
      let ih = quotes_sound bs w.0 w.1 in
      let parts : bs ≡ take w.0 bs ++ (three_quotes ++ ih.1.0) = sym (take-append-drop w.0 bs) ∙ ap (λ (l : List ℕ). take w.0 bs ++ l) ih.1.1 in
      let here : opens_raw (b ∷ (take w.0 bs ++ three_quotes)) ≡ false = sym (raw_before b (take w.0 bs) ih.1.0) ∙ ap (λ (l : List ℕ). opens_raw (b ∷ l)) (sym parts) ∙ x in
      subst (λ (m : ℕ). NoneOpens (take m (b ∷ bs)) × ((more : List ℕ) × (drop m (b ∷ bs) ≡ three_quotes ++ more))) (sym w.2) (none_more b (take w.0 bs) here ih.0, ih.1)
]

quotes_complete : (text rest : List ℕ) → NoneOpens text → before_quotes (text ++ (three_quotes ++ rest)) ≡ Some (length text)
quotes_complete [] rest each = refl
quotes_complete (b ∷ text) rest each =
    cond-false (opens_raw (b ∷ (text ++ (three_quotes ++ rest)))) _ _ (raw_before b text rest ∙ each 0 (omega arith))
    ∙ ap further (quotes_complete text rest (λ i lt. each (suc i) (omega arith)))

-- ---- strings

pub record IsStringFound (s : List ℕ) (k : TokenKind) (n : ℕ) : Type 0 where
  pub text : List ℕ
  pub rest : List ℕ
  pub parts : s ≡ text ++ rest
  pub size : n ≡ length text
  pub token : IsString k text rest

string_of_some : (j k : TokenKind) (round : ℕ) (o : Option ℕ) (n : ℕ) → string_of j round o ≡ Some (k, n) → (m : ℕ) × (o ≡ Some m) × (j ≡ k) × (n ≡ m + round)
string_of_some j k round None n e = absurd cc
string_of_some j k round (Some m) n e =
    let e' : ◌≡◌ {A = TokenKind × ℕ} (j, m + round) (k, n) = cc in (m, refl, ap (λ (p : TokenKind × ℕ). p.0) e', sym (ap (λ (p : TokenKind × ℕ). p.1) e'))

string_is_raw : (s : List ℕ) → opens_raw s ≡ true → string_at s ≡ string_of Kinds.RawString 6 (before_quotes (drop 3 s))
unfolding string_at
string_is_raw s e = cond-true (opens_raw s) _ _ e

string_is_quoted : (s : List ℕ) → opens_raw s ≡ false → string_at s ≡ string_of Kinds.String 2 (inside false (drop 1 s))
unfolding string_at
string_is_quoted s e = cond-false (opens_raw s) _ _ e

raw_sound : (more : List ℕ) (k : TokenKind) (n : ℕ) → string_at (three_quotes ++ more) ≡ Some (k, n) → IsStringFound (three_quotes ++ more) k n
raw_sound more k n e =
    let w = string_of_some Kinds.RawString k 6 (before_quotes more) n (sym (string_is_raw (three_quotes ++ more) refl) ∙ e) in
    let m : ℕ = w.0 in
    let h = quotes_sound more m w.1 in
    let within : List ℕ = take m more in
    let parts : more ≡ within ++ (three_quotes ++ h.1.0) = sym (take-append-drop m more) ∙ ap (λ (l : List ℕ). within ++ l) h.1.1 in
    let le : length within + 3 + length h.1.0 ≡ length more = omega (arith, ap length parts, length-append within (three_quotes ++ h.1.0)) in
    record {
      text = three_quotes ++ (within ++ three_quotes);
      rest = h.1.0;
      parts = ap (λ (l : List ℕ). three_quotes ++ l) (parts ∙ sym (append_assoc within three_quotes h.1.0));
      size = omega (arith, w.3, length-append within three_quotes, length-take-le m more (took m more h.1.0 h.1.1));
      token = subst (λ (j : TokenKind). IsString j (three_quotes ++ (within ++ three_quotes)) h.1.0) w.2 (raw within h.1.0 h.0);
    }
  where
    took : (m : ℕ) (s more : List ℕ) → drop m s ≡ three_quotes ++ more → m ≤ length s
    took zero s more e = omega arith
    took (suc m) [] more e = absurd cc
    took (suc m) (b ∷ s) more e = omega (arith, took m s more e)

quoted_sound : (bs : List ℕ) (k : TokenKind) (n : ℕ) → opens_raw (quote ∷ bs) ≡ false → string_at (quote ∷ bs) ≡ Some (k, n) → IsStringFound (quote ∷ bs) k n
quoted_sound bs k n r e =
    let w = string_of_some Kinds.String k 2 (inside false bs) n (sym (string_is_quoted (quote ∷ bs) r) ∙ e) in
    let m : ℕ = w.0 in
    let h = (inside_both bs).0 m w.1 in
    let within : List ℕ = take m bs in
    let parts : bs ≡ within ++ quote ∷ h.1.0 = sym (take-append-drop m bs) ∙ ap (λ (l : List ℕ). within ++ l) h.1.1 in
    let whole : quote ∷ bs ≡ quote ∷ (within ++ quote ∷ h.1.0) = ap (λ (l : List ℕ). quote ∷ l) parts in
    record {
      text = quote ∷ (within ++ quote ∷ []);
      rest = h.1.0;
      parts = whole ∙ ap (λ (l : List ℕ). quote ∷ l) (sym (append_assoc within (quote ∷ []) h.1.0));
      size = omega (arith, w.3, length-append within (quote ∷ []), length-take-le m bs (took m bs h.1.0 h.1.1));
      token = subst (λ (j : TokenKind). IsString j (quote ∷ (within ++ quote ∷ [])) h.1.0) w.2 (quoted within h.1.0 h.0 (ap opens_raw (sym whole) ∙ r));
    }
  where
    took : (m : ℕ) (s more : List ℕ) → drop m s ≡ quote ∷ more → m ≤ length s
    took zero s more e = omega arith
    took (suc m) [] more e = absurd cc
    took (suc m) (b ∷ s) more e = omega (arith, took m s more e)

pub string_sound : (bs : List ℕ) (k : TokenKind) (n : ℕ) → string_at (quote ∷ bs) ≡ Some (k, n) → IsStringFound (quote ∷ bs) k n
string_sound bs k n e = elim (cases_Bool (opens_raw (quote ∷ bs))) [
  | inl y ↦
      let w = raw_opens (quote ∷ bs) y in
      subst (λ (l : List ℕ). IsStringFound l k n) (sym w.1) (raw_sound w.0 k n (ap string_at (sym w.1) ∙ e))
  | inr x ↦ quoted_sound bs k n x e
]

pub record IsQuoted (k : TokenKind) (text rest : List ℕ) : Type 0 where
  pub more : List ℕ
  pub whole : text ++ rest ≡ quote ∷ more
  pub found : string_at (quote ∷ more) ≡ Some (k, length text)

pub string_complete : (k : TokenKind) (text rest : List ℕ) → IsString k text rest → IsQuoted k text rest
string_complete _ _ _ (quoted within rest g r) =
    let e : (quote ∷ (within ++ quote ∷ [])) ++ rest ≡ quote ∷ (within ++ quote ∷ rest) = ap (λ (l : List ℕ). quote ∷ l) (append_assoc within (quote ∷ []) rest) in
    record {
      more = within ++ quote ∷ rest;
      whole = e;
      found = string_is_quoted (quote ∷ (within ++ quote ∷ rest)) r ∙ ap (string_of Kinds.String 2) (inside_complete within rest g)
          ∙ ap (λ (n : ℕ). Some (Kinds.String, n)) (let q : length within + 2 ≡ length (quote ∷ (within ++ quote ∷ [])) = omega (arith, length-append within (quote ∷ [])) in q);
    }
string_complete _ _ _ (raw within rest each) =
    let e : (within ++ three_quotes) ++ rest ≡ within ++ (three_quotes ++ rest) = append_assoc within three_quotes rest in
    record {
      more = quote ∷ quote ∷ (within ++ (three_quotes ++ rest));
      whole = ap (λ (l : List ℕ). three_quotes ++ l) e;
      found = string_is_raw (three_quotes ++ (within ++ (three_quotes ++ rest))) refl ∙ ap (string_of Kinds.RawString 6) (quotes_complete within rest each)
          ∙ ap (λ (n : ℕ). Some (Kinds.RawString, n)) (let q : length within + 6 ≡ length (three_quotes ++ (within ++ three_quotes)) = omega (arith, length-append within three_quotes) in q);
    }

-- a string ends with a quote
pub string_split : (k : TokenKind) (text rest : List ℕ) → IsString k text rest → (front : List ℕ) × (text ≡ front ++ quote ∷ [])
string_split _ _ _ (quoted within rest g r) = (quote ∷ within, refl)
string_split _ _ _ (raw within rest each) = (three_quotes ++ (within ++ quote ∷ quote ∷ []), ap (λ (l : List ℕ). three_quotes ++ l) (sym (append_assoc within (quote ∷ quote ∷ []) (quote ∷ []))))

pub quote_ascii : (front : List ℕ) → get_or (front ++ quote ∷ []) (length (front ++ quote ∷ []) - 1) 0 < 128
quote_ascii front =
    subst (λ (x : ℕ). x < 128) (sym (ap (λ (n : ℕ). get_or (front ++ quote ∷ []) n 0) (let q : length (front ++ quote ∷ []) - 1 ≡ length front = omega (arith, length-append front (quote ∷ [])) in q) ∙ get_or-append_seam front quote [] 0)) (lit< tt)

-- ---- the loops

-- so many bytes more
abbrev pub advanced : ℕ → Option ℕ → Option ℕ
advanced n None = None
advanced n (Some m) = Some (n + m)

advanced_further : (n : ℕ) (o : Option ℕ) → advanced n (further o) ≡ advanced (n + 1) o
advanced_further n None = refl
advanced_further n (Some m) = ap (λ (x : ℕ). Some x) (omega arith)

here : (s : List ℕ) (i : ℕ) → i < length s → drop i s ≡ get_or s i 0 ∷ drop (i + 1) s
here s i lt = at_drop_more (λ (l : List ℕ). l) s i 0 lt

rest_all : (s : List ℕ) (i : ℕ) → take (length s - i) (drop i s) ≡ drop i s
rest_all s i = ap (λ (n : ℕ). take n (drop i s)) (sym (length-drop i s)) ∙ take_all (drop i s)

pub inside_bad : (s : List ℕ) (i : ℕ) → i < length s → is_bad_escape (take (length s - i) (drop i s)) ≡ true → advanced i (inside true (drop i s)) ≡ None
inside_bad s i lt e =
    ap (λ (l : List ℕ). advanced i (inside true l)) (here s i lt)
    ∙ ap (advanced i) (inside_wrong (get_or s i 0) (drop (i + 1) s) (ap is_bad_escape (sym (here s i lt) ∙ sym (rest_all s i)) ∙ e))

pub inside_good : (s : List ℕ) (i : ℕ) → i < length s → is_bad_escape (take (length s - i) (drop i s)) ≡ false
    → advanced i (inside true (drop i s)) ≡ advanced (i + 1) (inside false (drop (i + 1) s))
inside_good s i lt e =
    ap (λ (l : List ℕ). advanced i (inside true l)) (here s i lt)
    ∙ ap (advanced i) (inside_behind (get_or s i 0) (drop (i + 1) s) (ap is_bad_escape (sym (here s i lt) ∙ sym (rest_all s i)) ∙ e))
    ∙ advanced_further i (inside false (drop (i + 1) s))

pub inside_more : (s : List ℕ) (i : ℕ) → i < length s → get_or s i 0 ≢ quote → advanced i (inside false (drop i s)) ≡ advanced (i + 1) (inside (get_or s i 0 == backslash) (drop (i + 1) s))
inside_more s i lt e =
    ap (λ (l : List ℕ). advanced i (inside false l)) (here s i lt)
    ∙ ap (advanced i) (inside_on (get_or s i 0) (drop (i + 1) s) (get_or s i 0 == backslash) (ne_eqb (get_or s i 0) quote e) refl)
    ∙ advanced_further i (inside (get_or s i 0 == backslash) (drop (i + 1) s))

pub inside_quote : (s : List ℕ) (i : ℕ) → i < length s → get_or s i 0 ≡ quote → advanced i (inside false (drop i s)) ≡ Some i
inside_quote s i lt e =
    ap (λ (l : List ℕ). advanced i (inside false l)) (here s i lt) ∙ ap (advanced i) (inside_here (get_or s i 0) (drop (i + 1) s) (eq-eqb (get_or s i 0) quote e))
    ∙ ap (λ (x : ℕ). Some x) (omega arith)

inside_none : (t : Bool) → inside t [] ≡ None
inside_none true = refl
inside_none false = refl

pub inside_end : (t : Bool) (s : List ℕ) (i : ℕ) → length s ≤ i → advanced i (inside t (drop i s)) ≡ None
inside_end t s i le = ap (λ (l : List ℕ). advanced i (inside t l)) (drop_all i s le) ∙ ap (advanced i) (inside_none t)

pub quotes_yes : (s : List ℕ) (i : ℕ) → i < length s → opens_raw (take (length s - i) (drop i s)) ≡ true → advanced i (before_quotes (drop i s)) ≡ Some i
quotes_yes s i lt e =
    ap (λ (l : List ℕ). advanced i (before_quotes l)) (here s i lt)
    ∙ ap (advanced i) (cond-true (opens_raw (get_or s i 0 ∷ drop (i + 1) s)) _ _ (ap opens_raw (sym (here s i lt) ∙ sym (rest_all s i)) ∙ e)) ∙ ap (λ (x : ℕ). Some x) (omega arith)

pub quotes_no : (s : List ℕ) (i : ℕ) → i < length s → opens_raw (take (length s - i) (drop i s)) ≡ false → advanced i (before_quotes (drop i s)) ≡ advanced (i + 1) (before_quotes (drop (i + 1) s))
quotes_no s i lt e =
    ap (λ (l : List ℕ). advanced i (before_quotes l)) (here s i lt)
    ∙ ap (advanced i)
    (cond-false (opens_raw (get_or s i 0 ∷ drop (i + 1) s)) _ _ (ap opens_raw (sym (here s i lt) ∙ sym (rest_all s i)) ∙ e))
    ∙ advanced_further i (before_quotes (drop (i + 1) s))

pub quotes_end : (s : List ℕ) (i : ℕ) → length s ≤ i → advanced i (before_quotes (drop i s)) ≡ None
quotes_end s i le = ap (λ (l : List ℕ). advanced i (before_quotes l)) (drop_all i s le)

-- ---- the functions

pub string_raw : (s : List ℕ) (n : ℕ) → opens_raw s ≡ true → before_quotes (take (length s - 3) (drop 3 s)) ≡ Some n → string_at s ≡ Some (Kinds.RawString, n + 6)
string_raw s n e f = string_is_raw s e ∙ ap (string_of Kinds.RawString 6) (ap before_quotes (sym (rest_all s 3)) ∙ f)

pub string_raw_open : (s : List ℕ) → opens_raw s ≡ true → before_quotes (take (length s - 3) (drop 3 s)) ≡ None → string_at s ≡ None
string_raw_open s e f = string_is_raw s e ∙ ap (string_of Kinds.RawString 6) (ap before_quotes (sym (rest_all s 3)) ∙ f)

pub string_quoted : (s : List ℕ) (n : ℕ) → opens_raw s ≡ false → inside false (take (length s - 1) (drop 1 s)) ≡ Some n → string_at s ≡ Some (Kinds.String, n + 2)
string_quoted s n e f = string_is_quoted s e ∙ ap (string_of Kinds.String 2) (ap (inside false) (sym (rest_all s 1)) ∙ f)

pub string_open : (s : List ℕ) → opens_raw s ≡ false → inside false (take (length s - 1) (drop 1 s)) ≡ None → string_at s ≡ None
string_open s e f = string_is_quoted s e ∙ ap (string_of Kinds.String 2) (ap (inside false) (sym (rest_all s 1)) ∙ f)

pub format_some : (s : List ℕ) (k : TokenKind) (n : ℕ) → string_at (take (length s - 1) (drop 1 s)) ≡ Some (k, n) → format_at s ≡ Some (format_kind k, n + 1)
unfolding format_at
format_some s k n e = ap format_symbol (ap string_at (sym (rest_all s 1)) ∙ e)

pub format_none : (s : List ℕ) → string_at (take (length s - 1) (drop 1 s)) ≡ None → format_at s ≡ None
unfolding format_at
format_none s e = ap format_symbol (ap string_at (sym (rest_all s 1)) ∙ e)

pub ruleset inside_steps = (inside_bad, inside_good, inside_more, inside_quote, inside_end)

pub ruleset quotes_steps = (quotes_yes, quotes_no, quotes_end)

pub ruleset string_cases = (string_raw, string_raw_open, string_quoted, string_open)

pub ruleset format_cases = (format_some, format_none)

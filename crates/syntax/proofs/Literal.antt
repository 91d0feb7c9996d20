-- The lines of a file, each ended by a newline but the last, are the lines, each begun by one but the first.
use Rattle.std.proofs.Common.{◌≡◌, ℕ, suc, false, List, [], ◌∷◌, ◌++◌, refl, sym, ap, subst, ◌∙◌, inl, inr, Option, Ok, Err, ◌-◌, ◌≤◌}
use Rattle.std.proofs.Common.{length}
use Rattle.syntax.specs.lexer.Lexeme.{Lexeme}
use Rattle.syntax.specs.declared.lexer.token.TokenKind.TheVariants as Kinds
use Rattle.syntax.specs.declared.stop.ParseStop.{ParseStop}
use Rattle.syntax.specs.declared.stop.ParseStop.TheVariants.{Unexpected, TooDeep}
use Rattle.syntax.specs.Tree.{StatementTree, FileTree}
use Rattle.syntax.specs.Form.{Form, token, Repeats}
use Rattle.syntax.specs.Grammar.{file}
use Rattle.syntax.specs.Statements.{statements_of_lines, stmt, line as ended_line}
use Rattle.syntax.specs.Outcome.{BeginsBy, IsUnexpected, IsTooDeep}
use Rattle.syntax.specs.Reading.{all_of, tokens_left}
use Rattle.syntax.specs.ReadingStatements.{file_at}
use Rattle.syntax.proofs.Files.{lines, line-lines, line-first, others, next, maybe, AfterLines}
use Rattle.syntax.proofs.Chain.{AreSame, line-same}
use Rattle.syntax.proofs.Line.{Line}
use Rattle.syntax.proofs.Whole as whole

-- [stmt] NL
abbrev line : ℕ → Form (Option StatementTree)
line n = ended_line (stmt false n)

-- ---- spellings

-- the lines that are ended and the last, as the first and those that are begun
abbrev Begun : ℕ → List (Option StatementTree) → List Lexeme → List Lexeme → Type 0
Begun n all ts rest = (first : Option StatementTree) × (os : List (Option StatementTree)) × (all ≡ first ∷ os)
    × ((mid : List Lexeme) × (maybe n).spells first ts mid × Repeats (next n) os mid rest)

to_begun : (n : ℕ) (ls : List (Option StatementTree)) (last : Option StatementTree) (ts mid rest : List Lexeme)
    → Repeats (line n) ls ts mid → (maybe n).spells last mid rest → Begun n (ls ++ last ∷ []) ts rest
to_begun n [] last ts mid rest h q = (last, [], refl, (rest, subst (λ (l : List Lexeme). (maybe n).spells last l rest) (sym h) q, refl))
to_begun n (l ∷ ls) last ts mid rest (m1, (s, m2, p, (t, m3, nl, same)), h) q =
    let w = to_begun n ls last m1 mid rest h q in (
      l,
      ls ++ last ∷ [],
      refl,
      (
        m2,
        subst (λ (o : Option StatementTree). (maybe n).spells o ts m2) (sym same.0) p,
        subst (λ (os : List (Option StatementTree)). Repeats (next n) os m2 rest) (sym w.2)
            (w.3.0, (t, m1, subst (λ (l : List Lexeme). (token Kinds.Newline).spells t m2 l) same.1 nl, w.3.1), w.3.2),
      ),
    )

-- the lines that are begun, as those that are ended and the last
abbrev Ended : ℕ → List (Option StatementTree) → List Lexeme → List Lexeme → Type 0
Ended n all ts rest = (ls : List (Option StatementTree)) × (last : Option StatementTree) × (all ≡ ls ++ last ∷ [])
    × ((mid : List Lexeme) × Repeats (line n) ls ts mid × (maybe n).spells last mid rest)

to_ended : (n : ℕ) (os : List (Option StatementTree)) (first : Option StatementTree) (ts mid rest : List Lexeme)
    → (maybe n).spells first ts mid → Repeats (next n) os mid rest → Ended n (first ∷ os) ts rest
to_ended n [] first ts mid rest p h = ([], first, refl, (ts, refl, subst (λ (l : List Lexeme). (maybe n).spells first ts l) h p))
to_ended n (o ∷ os) first ts mid rest p (m1, (t, m2, nl, q), h) =
    let w = to_ended n os o m2 m1 rest q h in (
      first ∷ w.0,
      w.1,
      ap (λ (l : List (Option StatementTree)). first ∷ l) w.2,
      (w.3.0, (m2, (first, mid, p, (t, m2, nl, (refl, refl))), w.3.1), w.3.2),
    )

file_lines : (n : ℕ) (f : FileTree) (ts rest : List Lexeme) → (file n).spells f ts rest → (lines n).spells f ts rest
file_lines n f ts rest (ls, mid, h, (last, m1, q, same)) =
    let w = to_begun n ls last ts mid m1 h q in
    (w.0, w.3.0, w.3.1, (w.1, m1, w.3.2, (same.0 ∙ ap statements_of_lines w.2, same.1)))

lines_file : (n : ℕ) (f : FileTree) (ts rest : List Lexeme) → (lines n).spells f ts rest → (file n).spells f ts rest
lines_file n f ts rest (first, mid, p, (os, m1, h, same)) =
    let w = to_ended n os first ts mid m1 p h in
    (w.0, w.3.0, w.3.1, (w.1, m1, w.3.2, (same.0 ∙ ap statements_of_lines w.2, same.1)))

-- ---- fronts

-- a front of the last line, behind lines that are ended
last_front : (n : ℕ) (ls : List (Option StatementTree)) (ts mid more : List Lexeme) → Repeats (line n) ls ts mid
    → (maybe n).front mid more → (lines n).front ts more
last_front n [] ts mid more h q = inl (subst (λ (l : List Lexeme). (maybe n).front l more) (sym h) q)
last_front n (l ∷ ls) ts mid more (m1, (s, m2, p, (t, m3, nl, same)), h) q = inr (s, m2, p, begun (last_front n ls m1 mid more h q))
  where
    nl1 : (token Kinds.Newline).spells t m2 m1
    nl1 = subst (λ (l : List Lexeme). (token Kinds.Newline).spells t m2 l) same.1 nl

    begun : (lines n).front m1 more → (others n s).front m2 more
    begun (inl h1) = inl ([], m2, refl, inr (t, m1, nl1, h1))
    begun (inr (o, k, p1, inl (os, k1, r, f1))) = inl (o ∷ os, k1, (k, (t, m1, nl1, p1), r), f1)
    begun (inr (o, k, p1, inr (os, k1, r, f1))) = inr (o ∷ os, k1, (k, (t, m1, nl1, p1), r), f1)

-- the newline of a line may be the last token
newline_front : (n : ℕ) (s : Option StatementTree) (m more : List Lexeme) → (token Kinds.Newline).front m more → (others n s).front m more
newline_front n s m more h = inl ([], m, refl, inl h)

line_front : (n : ℕ) (ts more : List Lexeme) → (line n).front ts more → (lines n).front ts more
line_front n ts more (inl h) = inl h
line_front n ts more (inr (s, m, p, inl h)) = inr (s, m, p, newline_front n s m more h)
line_front n ts more (inr (s, m, p, inr (t, m1, nl, same))) =
    inr (s, m, p, newline_front n s m more (inr (t, nl.0 ∙ ap (λ (l : List Lexeme). t ∷ l) same, nl.1)))

-- behind a line that is ended
behind : (n : ℕ) (s : Option StatementTree) (ts m2 : List Lexeme) (t : Lexeme) (m1 more : List Lexeme) → (maybe n).spells s ts m2
    → (token Kinds.Newline).spells t m2 m1 → (lines n).front m1 more → (lines n).front ts more
behind n s ts m2 t m1 more p nl (inl h1) = inr (s, m2, p, inl ([], m2, refl, inr (t, m1, nl, h1)))
behind n s ts m2 t m1 more p nl (inr (o, k, p1, inl (os, k1, r, f1))) = inr (s, m2, p, inl (o ∷ os, k1, (k, (t, m1, nl, p1), r), f1))
behind n s ts m2 t m1 more p nl (inr (o, k, p1, inr (os, k1, r, f1))) = inr (s, m2, p, inr (o ∷ os, k1, (k, (t, m1, nl, p1), r), f1))

many_front : (n : ℕ) (ls : List (Option StatementTree)) (ts mid more : List Lexeme) → Repeats (line n) ls ts mid → (line n).front mid more
    → (lines n).front ts more
many_front n [] ts mid more h q = line_front n ts more (subst (λ (l : List Lexeme). (line n).front l more) (sym h) q)
many_front n (l ∷ ls) ts mid more (m1, (s, m2, p, (t, m3, nl, same)), h) q =
    behind n s ts m2 t m1 more p (subst (λ (l : List Lexeme). (token Kinds.Newline).spells t m2 l) same.1 nl)
    (many_front n ls m1 mid more h q)

file_lines_front : (n : ℕ) (ts more : List Lexeme) → (file n).front ts more → (lines n).front ts more
file_lines_front n ts more (inl (ls, mid, h, q)) = many_front n ls ts mid more h q
file_lines_front n ts more (inr (ls, mid, h, inl q)) = last_front n ls ts mid more h q
file_lines_front n ts more (inr (ls, mid, h, inr (last, m1, q, same))) =
    last_front n ls ts mid more h (subst (λ (l : List Lexeme). (maybe n).front mid l) same ((line-first n).form.whole last mid m1 q))

-- ---- the other way

join : (n : ℕ) (last : Option StatementTree) (k1 m : List Lexeme) → (line n).spells last m k1
    → (ls : List (Option StatementTree)) (ts : List Lexeme) → Repeats (line n) ls ts m → Repeats (line n) (ls ++ last ∷ []) ts k1
join n last k1 m l [] ts r = (k1, subst (λ (x : List Lexeme). (line n).spells last x k1) (sym r) l, refl)
join n last k1 m l (x ∷ xs) ts (m1, p1, r1) = (m1, p1, join n last k1 m l xs m1 r1)

-- lines that are ended, then a front of the next one
ended_then : (n : ℕ) (all : List (Option StatementTree)) (ts k more : List Lexeme) → Ended n all ts k → (next n).front k more
    → (file n).front ts more
ended_then n all ts k more (ls, last, e, (m, r, s)) (inl nl) = inl (ls, m, r, inr (last, k, s, inl nl))
ended_then n all ts k more (ls, last, e, (m, r, s)) (inr (t, k1, nl, f1)) =
    inr (ls ++ last ∷ [], k1, join n last k1 m (last, k, s, (t, k1, nl, (refl, refl))) ls ts r, inl f1)

ended_front : (n : ℕ) (os : List (Option StatementTree)) (first : Option StatementTree) (ts mid k more : List Lexeme)
    → (maybe n).spells first ts mid → Repeats (next n) os mid k → (next n).front k more → (file n).front ts more
ended_front n os first ts mid k more p h q = ended_then n (first ∷ os) ts k more (to_ended n os first ts mid k p h) q

at_last : (n : ℕ) (all : List (Option StatementTree)) (ts k more : List Lexeme) → k ≡ more → Ended n all ts k → (file n).front ts more
at_last n all ts k more same (ls, last, e, (m, rs, s)) = inr (ls, m, rs, inr (last, k, s, same))

lines_file_front : (n : ℕ) (ts more : List Lexeme) → (lines n).front ts more → (file n).front ts more
lines_file_front n ts more (inl h) = inr ([], ts, refl, inl h)
lines_file_front n ts more (inr (first, mid, p, inl (os, k, r, q))) = ended_front n os first ts mid k more p r q
lines_file_front n ts more (inr (first, mid, p, inr (os, k, r, same))) = at_last n (first ∷ os) ts k more same
    (to_ended n os first ts mid k p r)

lines-are-file : (n : ℕ) → AreSame (lines n) (file n)
lines-are-file n = record
    { spells_to = lines_file n; spells_from = file_lines n; front_to = lines_file_front n; front_from = file_lines_front n }

line-file : (n : ℕ) → Line (file n) (file (suc n)) (file_at n) (file_at (suc n)) AfterLines 0
line-file n = line-same (lines n) (lines (suc n)) (file n) (file (suc n)) (file_at n) (file_at (suc n)) AfterLines 0 (lines-are-file n)
    (lines-are-file (suc n)) (line-lines n)

-- ---- all tokens

at_end : AfterLines []
at_end = (refl, (refl, refl))

pub file_ok : (n : ℕ) (ts : List Lexeme) (f : FileTree) → all_of (file_at n) ts ≡ Ok f → (file n).spells f ts []
file_ok = whole.all_ok file file_at AfterLines (λ n. (line-file n).form) (λ n. (line-file n).reads) (λ n. (line-file n).raises)
    (λ n. (line-file n).ends) at_end

pub file_complete : (n : ℕ) (ts : List Lexeme) (f : FileTree) → (file n).spells f ts [] → all_of (file_at n) ts ≡ Ok f
file_complete = whole.all_complete file file_at AfterLines (λ n. (line-file n).form) (λ n. (line-file n).reads)
    (λ n. (line-file n).raises) (λ n. (line-file n).ends) at_end

pub file_only : (n m : ℕ) (ts : List Lexeme) (f g : FileTree) → (file n).spells f ts [] → (file m).spells g ts [] → f ≡ g
file_only = whole.all_only file file_at AfterLines (λ n. (line-file n).form) (λ n. (line-file n).reads) (λ n. (line-file n).raises)
    (λ n. (line-file n).ends) at_end

pub file_unexpected : (n : ℕ) (ts : List Lexeme) (left : ℕ) → all_of (file_at n) ts ≡ Err (Unexpected left)
    → IsUnexpected file n ts (length ts - left)
file_unexpected = whole.all_unexpected file file_at AfterLines (λ n. (line-file n).form) (λ n. (line-file n).reads)
    (λ n. (line-file n).raises) (λ n. (line-file n).ends) at_end

pub file_too_deep : (n : ℕ) (ts : List Lexeme) (left : ℕ) → all_of (file_at n) ts ≡ Err (TooDeep left)
    → IsTooDeep file n ts (length ts - left)
file_too_deep = whole.all_too_deep file file_at AfterLines (λ n. (line-file n).form) (λ n. (line-file n).reads)
    (λ n. (line-file n).raises) (λ n. (line-file n).ends) at_end

pub file_left : (n : ℕ) (ts : List Lexeme) (f : ParseStop) → all_of (file_at n) ts ≡ Err f → tokens_left f ≤ length ts
file_left = whole.all_left_le file file_at AfterLines (λ n. (line-file n).form) (λ n. (line-file n).reads) (λ n. (line-file n).raises)
    (λ n. (line-file n).ends) at_end

pub file_shorter : (n : ℕ) (ts : List Lexeme) (j k : ℕ) → j ≤ k → BeginsBy (file n) ts k → BeginsBy (file n) ts j
file_shorter = whole.all_shorter file file_at AfterLines (λ n. (line-file n).form) (λ n. (line-file n).reads)
    (λ n. (line-file n).raises) (λ n. (line-file n).ends) at_end

pub file_one_unexpected : (n : ℕ) (ts : List Lexeme) (j k : ℕ) → IsUnexpected file n ts j → IsUnexpected file n ts k → j ≡ k
file_one_unexpected = whole.one_unexpected file file_at AfterLines (λ n. (line-file n).form) (λ n. (line-file n).reads)
    (λ n. (line-file n).raises) (λ n. (line-file n).ends) at_end

pub file_one_too_deep : (n : ℕ) (ts : List Lexeme) (j k : ℕ) → IsTooDeep file n ts j → IsTooDeep file n ts k → j ≡ k
file_one_too_deep = whole.one_too_deep file file_at AfterLines (λ n. (line-file n).form) (λ n. (line-file n).reads)
    (λ n. (line-file n).raises) (λ n. (line-file n).ends) at_end

pub file_not_both : (n : ℕ) (ts : List Lexeme) (j k : ℕ) → IsUnexpected file n ts j → IsTooDeep file n ts k → ⊥
file_not_both = whole.not_both file file_at AfterLines (λ n. (line-file n).form) (λ n. (line-file n).reads)
    (λ n. (line-file n).raises) (λ n. (line-file n).ends) at_end

pub file_none_unexpected : (n : ℕ) (ts : List Lexeme) (f : FileTree) (k : ℕ) → (file n).spells f ts [] → IsUnexpected file n ts k → ⊥
file_none_unexpected = whole.none_unexpected file file_at AfterLines (λ n. (line-file n).form) (λ n. (line-file n).reads)
    (λ n. (line-file n).raises) (λ n. (line-file n).ends) at_end

pub file_none_too_deep : (n : ℕ) (ts : List Lexeme) (f : FileTree) (k : ℕ) → (file n).spells f ts [] → IsTooDeep file n ts k → ⊥
file_none_too_deep = whole.none_too_deep file file_at AfterLines (λ n. (line-file n).form) (λ n. (line-file n).reads)
    (λ n. (line-file n).raises) (λ n. (line-file n).ends) at_end

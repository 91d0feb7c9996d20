-- What a source reads as is what its tokens spell, and its fault is the one that it has.
use Rattle.std.proofs.Common.{◌≡◌, ℕ, ◌-◌, ◌≤◌, List, [], length, refl, sym, ap, subst, ◌∙◌, ◌⊎◌, inl, inr, Result, Ok, Err}
use Rattle.std.specs.Prelude.{IfOk, MatchResult}
use Rattle.syntax.specs.lexer.Lexeme.{Lexeme, lexemes}
use Rattle.syntax.specs.lexer.Lexing.{fault_at, lexed_tokens}
use Rattle.syntax.specs.lexer.Tokens.{AreTokens, IsUnreadable}
use Rattle.syntax.specs.Tree.{FileTree, file_of}
use Rattle.syntax.specs.Grammar.{file, most_levels}
use Rattle.syntax.specs.Reading.{Fails, all_of, tokens_left}
use Rattle.syntax.specs.ReadingStatements.{file_at}
use Rattle.syntax.specs.lexer.Answers.{Answers, Refuses}
use Rattle.syntax.specs.Parsed.{Spells, FaultsBy, FrontsAreShorter, HasFault, line_of, located_fault, in_source, parsed_file}
use Rattle.syntax.specs.Outcome.{IsTooDeep, IsUnexpected}
use Rattle.syntax.specs.declared.lexer.fault.FaultKind.{FaultKind}
use Rattle.syntax.specs.declared.lexer.fault.FaultKind.TheVariants as Faults
use Rattle.syntax.specs.declared.lexer.fault.SyntaxFault.{SyntaxFault}
use Rattle.syntax.specs.declared.lexer.fault.SyntaxError.{SyntaxError}
use Rattle.syntax.specs.declared.lexer.fault.SyntaxError.TheVariants as errors
use Rattle.syntax.specs.declared.stop.ParseStop.{ParseStop}
use Rattle.syntax.specs.declared.stop.ParseStop.TheVariants.{Unexpected, TooDeep}
use Rattle.syntax.specs.declared.stop.ReadError.{ReadError}
use Rattle.syntax.specs.declared.stop.ReadError.TheVariants as reads
use Rattle.syntax.specs.declared.lexer.token.Token.{Token}
use Rattle.syntax.specs.declared.tree.File.{File}
use Rattle.syntax.proofs.Literal.{file_ok, file_complete, file_only, file_unexpected, file_too_deep, file_left, file_none_too_deep}
use Rattle.syntax.proofs.Literal.{file_none_unexpected, file_not_both, file_one_too_deep, file_one_unexpected, file_shorter}
use Rattle.syntax.proofs.Tails.{length_lexemes}
use Rattle.syntax.proofs.Spans.{lexed_breaks, lexed_sound, lexed_complete, lexed_fault, lexed_only}

pub parsed_ok_tokens : (source : List ℕ) (ts : List Lexeme) → lexed_tokens source ≡ Ok ts → parsed_file source ≡ in_source source ts (all_of (file_at most_levels) ts)
unfolding parsed_file
parsed_ok_tokens source ts e = rw e refl

pub parsed_no_tokens : (source : List ℕ) (f : SyntaxFault) → lexed_tokens source ≡ Err f → parsed_file source ≡ Err f
unfolding parsed_file
parsed_no_tokens source f e = rw e refl

cases_lexed : (r : Result (List Lexeme) SyntaxFault) → ((ts : List Lexeme) × (r ≡ Ok ts)) ⊎ ((f : SyntaxFault) × (r ≡ Err f))
cases_lexed (Ok ts) = inl (ts, refl)
cases_lexed (Err f) = inr (f, refl)

cases_read : (r : Result FileTree ParseStop) → ((f : FileTree) × (r ≡ Ok f)) ⊎ ((s : ParseStop) × (r ≡ Err s))
cases_read (Ok f) = inl (f, refl)
cases_read (Err s) = inr (s, refl)

ok_is : (f g : FileTree) → ◌≡◌ {A = Result FileTree SyntaxFault} (Ok f) (Ok g) → f ≡ g
ok_is f g e = cc

err_is : (f g : SyntaxFault) → ◌≡◌ {A = Result FileTree SyntaxFault} (Err f) (Err g) → f ≡ g
err_is f g e = cc

pub parsed_spelled : (source : List ℕ) (f : FileTree) → parsed_file source ≡ Ok f → Spells most_levels source f
parsed_spelled source f e = elim (cases_lexed (lexed_tokens source)) [
  | inl l ↦ elim (cases_read (all_of (file_at most_levels) l.0)) [
    | inl r ↦
        let same = ok_is r.0 f (ap (in_source source l.0) (sym r.1) ∙ sym (parsed_ok_tokens source l.0 l.1) ∙ e) in
        record { tokens = l.0; are_tokens = lexed_sound source l.0 l.1; spelled = subst (λ (g : FileTree). (file most_levels).spells g l.0 []) same (file_ok most_levels l.0 r.0 r.1) }
    | inr r ↦ absurd (let x = ap (in_source source l.0) (sym r.1) ∙ sym (parsed_ok_tokens source l.0 l.1) ∙ e in cc)
  ]
  | inr l ↦ absurd (let x = parsed_no_tokens source l.0 l.1 in cc)
]

pub parsed_complete : (source : List ℕ) (f : FileTree) → Spells most_levels source f → parsed_file source ≡ Ok f
parsed_complete source f h = parsed_ok_tokens source h.tokens (lexed_complete source h.tokens h.are_tokens) ∙ ap (in_source source h.tokens) (file_complete most_levels h.tokens f h.spelled)

pub parsed_only : (source : List ℕ) (n m : ℕ) (f g : FileTree) → Spells n source f → Spells m source g → f ≡ g
parsed_only source n m f g h i = file_only n m h.tokens f g h.spelled (subst (λ (ts : List Lexeme). (file m).spells g ts []) (lexed_only source i.tokens h.tokens i.are_tokens h.are_tokens) i.spelled)

has_fault : (source : List ℕ) (ts : List Lexeme) (s : ParseStop) → AreTokens source ts → all_of (file_at most_levels) ts ≡ Err s → HasFault source (located_fault source ts s)
has_fault source ts (Unexpected left) a e = record { tokens = ts; are_tokens = a; index = length ts - left; holding = file_unexpected most_levels ts left e; here = refl }
has_fault source ts (TooDeep left) a e = record { tokens = ts; are_tokens = a; index = length ts - left; holding = file_too_deep most_levels ts left e; here = refl }

pub parsed_fault : (source : List ℕ) (f : SyntaxFault) → parsed_file source ≡ Err f → HasFault source f
parsed_fault source f e = elim (cases_lexed (lexed_tokens source)) [
  | inl l ↦ elim (cases_read (all_of (file_at most_levels) l.0)) [
    | inl r ↦ absurd (let x = ap (in_source source l.0) (sym r.1) ∙ sym (parsed_ok_tokens source l.0 l.1) ∙ e in cc)
    | inr r ↦
        let same = err_is (located_fault source l.0 r.0) f (ap (in_source source l.0) (sym r.1) ∙ sym (parsed_ok_tokens source l.0 l.1) ∙ e) in
        subst (HasFault source) same (has_fault source l.0 r.0 (lexed_sound source l.0 l.1) r.1)
  ]
  | inr l ↦
      let same = err_is l.0 f (sym (parsed_no_tokens source l.0 l.1) ∙ e) in
      let w = lexed_fault source l.0 l.1 in
      subst (HasFault source) (sym w.0 ∙ same) w.1
]

-- ---- a source has no second fault, and none where it spells a file

line_at : (source : List ℕ) (ts us : List Lexeme) (j k line other : ℕ) → ts ≡ us → j ≡ k → line ≡ line_of source ts j → other ≡ line_of source us k → line ≡ other
line_at source ts us j k line other same index e g = e ∙ ap (λ (l : List Lexeme). line_of source l j) same ∙ ap (line_of source us) index ∙ sym g

no_tokens_at : (source : List ℕ) (line : ℕ) (ts : List Lexeme) → IsUnreadable source line → AreTokens source ts → ⊥
no_tokens_at source line ts h a = let e = lexed_breaks source line h in let g = lexed_complete source ts a in cc

fault_line : (source : List ℕ) (j k : ℕ) → IsUnreadable source j → IsUnreadable source k → j ≡ k
fault_line source j k h g = same_line (sym (lexed_breaks source j h) ∙ lexed_breaks source k g)
  where
    same_line : ◌≡◌ {A = Result (List Lexeme) SyntaxFault} (Err (fault_at j)) (Err (fault_at k)) → j ≡ k
    same_line e = let f : fault_at j ≡ fault_at k = cc in ap (λ (x : SyntaxFault). x.line) f

fault_same : (k : FaultKind) (line other : ℕ) → line ≡ other → ◌≡◌ {A = SyntaxFault} (record { kind = k; line = line }) (record { kind = k; line = other })
fault_same k line other e = ap (λ (l : ℕ). record { kind = k; line = l }) e

one_of : (source : List ℕ) (k l : FaultKind) (line other : ℕ) → FaultsBy k source line → FaultsBy l source other
    → ◌≡◌ {A = SyntaxFault} (record { kind = k; line = line }) (record { kind = l; line = other })
one_of source Faults.Token Faults.Token line other h g = fault_same Faults.Token line other (fault_line source line other h g)
one_of source Faults.Token Faults.Grammar line other h g = absurd (no_tokens_at source line g.tokens h g.are_tokens)
one_of source Faults.Token Faults.Nesting line other h g = absurd (no_tokens_at source line g.tokens h g.are_tokens)
one_of source Faults.Grammar Faults.Token line other h g = absurd (no_tokens_at source other h.tokens g h.are_tokens)
one_of source Faults.Nesting Faults.Token line other h g = absurd (no_tokens_at source other h.tokens g h.are_tokens)
one_of source Faults.Grammar Faults.Grammar line other h g =
    let same = lexed_only source h.tokens g.tokens h.are_tokens g.are_tokens in
    let u = subst (λ (ts : List Lexeme). IsUnexpected file most_levels ts h.index) same h.holding in
    fault_same Faults.Grammar line other (line_at source h.tokens g.tokens h.index g.index line other same (file_one_unexpected most_levels g.tokens h.index g.index u g.holding) h.here g.here)
one_of source Faults.Nesting Faults.Nesting line other h g =
    let same = lexed_only source h.tokens g.tokens h.are_tokens g.are_tokens in
    let u = subst (λ (ts : List Lexeme). IsTooDeep file most_levels ts h.index) same h.holding in
    fault_same Faults.Nesting line other (line_at source h.tokens g.tokens h.index g.index line other same (file_one_too_deep most_levels g.tokens h.index g.index u g.holding) h.here g.here)
one_of source Faults.Grammar Faults.Nesting line other h g =
    let same = lexed_only source h.tokens g.tokens h.are_tokens g.are_tokens in
    absurd (file_not_both most_levels g.tokens h.index g.index (subst (λ (ts : List Lexeme). IsUnexpected file most_levels ts h.index) same h.holding) g.holding)
one_of source Faults.Nesting Faults.Grammar line other h g =
    let same = lexed_only source h.tokens g.tokens h.are_tokens g.are_tokens in
    absurd (file_not_both most_levels g.tokens g.index h.index g.holding (subst (λ (ts : List Lexeme). IsTooDeep file most_levels ts h.index) same h.holding))

one_fault : (source : List ℕ) (f g : SyntaxFault) → HasFault source f → HasFault source g → f ≡ g
one_fault source f g h i = one_of source f.kind g.kind f.line g.line h i

no_file_by : (source : List ℕ) (k : FaultKind) (line : ℕ) (t : FileTree) → FaultsBy k source line → Spells most_levels source t → ⊥
no_file_by source Faults.Token line t h s = no_tokens_at source line s.tokens h s.are_tokens
no_file_by source Faults.Grammar line t h s =
    let same = lexed_only source h.tokens s.tokens h.are_tokens s.are_tokens in
    file_none_unexpected most_levels s.tokens t h.index s.spelled (subst (λ (ts : List Lexeme). IsUnexpected file most_levels ts h.index) same h.holding)
no_file_by source Faults.Nesting line t h s =
    let same = lexed_only source h.tokens s.tokens h.are_tokens s.are_tokens in
    file_none_too_deep most_levels s.tokens t h.index s.spelled (subst (λ (ts : List Lexeme). IsTooDeep file most_levels ts h.index) same h.holding)

cases_parsed : (r : Result FileTree SyntaxFault) → ((t : FileTree) × (r ≡ Ok t)) ⊎ ((g : SyntaxFault) × (r ≡ Err g))
cases_parsed (Ok t) = inl (t, refl)
cases_parsed (Err g) = inr (g, refl)

pub parsed_faulty : (source : List ℕ) (f : SyntaxFault) → HasFault source f → parsed_file source ≡ Err f
parsed_faulty source f h = elim (cases_parsed (parsed_file source)) [
  | inl w ↦ absurd (no_file_by source f.kind f.line w.0 h (parsed_spelled source w.0 w.1))
  | inr w ↦ w.1 ∙ ap (λ (g : SyntaxFault). Err g) (one_fault source w.0 f (parsed_fault source w.0 w.1) h)
]

-- the tokens of a source begin a file up to any token that stands before one up to which they do
pub fronts_shorter : (source : List ℕ) → FrontsAreShorter source
fronts_shorter source n ts j k a le h = file_shorter n ts j k le h

-- ---- what an answer says

pub spelled_all : (source : List ℕ) (r : Result File SyntaxError) → Answers file_of r (parsed_file source) → IfOk r (λ f. Spells most_levels source (file_of f))
spelled_all source (Ok f) e = parsed_spelled source (file_of f) e
spelled_all source (Err x) e = tt

pub complete_all : (source : List ℕ) (r : Result File SyntaxError) → Answers file_of r (parsed_file source) → (f : FileTree) → Spells most_levels source f → MatchResult r (λ x. file_of x ≡ f) (λ e. e ≡ errors.Memory)
complete_all source (Ok x) e f h = parsed_only source most_levels most_levels (file_of x) f (parsed_spelled source (file_of x) e) h
complete_all source (Err errors.Memory) e f h = refl
complete_all source (Err (errors.Fault g)) e f h = absurd (let c = parsed_complete source f h in cc)

pub only_all : (source : List ℕ) (r : Result File SyntaxError) → Answers file_of r (parsed_file source) → (n : ℕ) (f : FileTree) → Spells n source f → IfOk r (λ x. file_of x ≡ f)
only_all source (Ok x) e n f h = parsed_only source most_levels n (file_of x) f (parsed_spelled source (file_of x) e) h
only_all source (Err x) e n f h = tt

fault_is : (f g : SyntaxFault) → ◌≡◌ {A = Result File SyntaxError} (Err (errors.Fault f)) (Err (errors.Fault g)) → f ≡ g
fault_is f g e = let e' : ◌≡◌ {A = SyntaxError} (errors.Fault f) (errors.Fault g) = cc in cc

pub refused_all : (source : List ℕ) (r : Result File SyntaxError) → Answers file_of r (parsed_file source) → (f : SyntaxFault) → r ≡ Err (errors.Fault f) → HasFault source f
refused_all source (Ok x) e f h = absurd cc
refused_all source (Err errors.Memory) e f h = absurd (memory_is h)
  where
    memory_is : ◌≡◌ {A = Result File SyntaxError} (Err errors.Memory) (Err (errors.Fault f)) → ⊥
    memory_is h = let e' : ◌≡◌ {A = SyntaxError} errors.Memory (errors.Fault f) = cc in cc
refused_all source (Err (errors.Fault g)) e f h = subst (HasFault source) (fault_is g f h) (parsed_fault source g e)

pub faulty_all : (source : List ℕ) (r : Result File SyntaxError) → Answers file_of r (parsed_file source) → (f : SyntaxFault) → HasFault source f
    → MatchResult r (λ x. ⊥) (λ e. (e ≡ errors.Fault f) ⊎ (e ≡ errors.Memory))
faulty_all source (Ok x) e f h = absurd (let p = parsed_faulty source f h in cc)
faulty_all source (Err errors.Memory) e f h = inr refl
faulty_all source (Err (errors.Fault g)) e f h = inl (ap (λ (x : SyntaxFault). errors.Fault x) (same (sym e ∙ parsed_faulty source f h)))
  where
    same : ◌≡◌ {A = Result FileTree SyntaxFault} (Err g) (Err f) → g ≡ f
    same p = cc

-- ---- the steps of parse

pub no_tokens : (source : List ℕ) (e : SyntaxError) → Refuses e (lexed_tokens source) → Refuses e (parsed_file source)
no_tokens source errors.Memory h = tt
no_tokens source (errors.Fault f) h = parsed_no_tokens source f h

pub read_all : (source : List ℕ) (ts : List Lexeme) (f : FileTree) → lexed_tokens source ≡ Ok ts → all_of (file_at most_levels) ts ≡ Ok f → parsed_file source ≡ Ok f
read_all source ts f e h = parsed_ok_tokens source ts e ∙ ap (in_source source ts) h

pub stopped : (source : List ℕ) (ts : List Lexeme) (s : ParseStop) → lexed_tokens source ≡ Ok ts → all_of (file_at most_levels) ts ≡ Err s → parsed_file source ≡ Err (located_fault source ts s)
stopped source ts s e h = parsed_ok_tokens source ts e ∙ ap (in_source source ts) h

pub stop_is : {Y : Type 0} (e : ReadError) (s : ParseStop) (read : Result Y ParseStop) → e ≡ reads.Stop s → Fails e read → read ≡ Err s
stop_is reads.Memory s read e h = absurd cc
stop_is (reads.Stop t) s read e h = let same : t ≡ s = cc in h ∙ ap (λ (x : ParseStop). Err x) same

pub stop_within : (source : List ℕ) (ts : List Token) (s : ParseStop) → all_of (file_at most_levels) (lexemes ts) ≡ Err s → tokens_left s ≤ length ts
stop_within source ts s e = subst (λ (n : ℕ). tokens_left s ≤ n) (length_lexemes ts) (file_left most_levels (lexemes ts) s e)

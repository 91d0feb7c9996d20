-- The lines of the grammar of blocks, and of statements.
use Rattle.std.proofs.Common.{◌≡◌, ℕ, zero, suc, Bool, true, false, cond, List, [], ◌∷◌, length, refl, sym, ap, ◌∙◌, inl, inr, arith}
use Rattle.std.proofs.Common.{Option}
use Rattle.std.specs.Prelude.{unwrap_or}
use Rattle.syntax.specs.lexer.Lexeme.{Lexeme}
use Rattle.syntax.specs.lexer.Kinds.{is}
use Rattle.syntax.specs.declared.lexer.token.TokenKind.{TokenKind}
use Rattle.syntax.specs.declared.lexer.token.TokenKind.TheVariants as Kinds
use Rattle.syntax.specs.ExpressionTree.{ExpressionTree}
use Rattle.syntax.specs.Tree.{StatementTree, IfTree, ForeachTree, statements, BranchTree, branches}
use Rattle.syntax.specs.Form.{Form, token, give, never, many, optional, ◌>>=◌, ◌or◌}
use Rattle.syntax.specs.Expressions.{expr}
use Rattle.syntax.specs.Statements.{simple, line, statements_of_lines, body, second, names, foreach, branch, elif, parts, last_part, otherwise}
use Rattle.syntax.specs.Statements.{conditional, block, stmt}
use Rattle.syntax.specs.Reading.{Reader, begins, deep_at, many_at, optional_at, or_at}
use Rattle.syntax.specs.ReadingExpressions.{expr_at}
use Rattle.syntax.specs.ReadingStatements.{simple_at, in_line, ends_body, in_body, ended_line_at, body_at, second_at, names_at, foreach_at}
use Rattle.syntax.specs.ReadingStatements.{branch_at, elif_at, parts_at, last_part_at, otherwise_at, conditional_at, opens_block}
use Rattle.syntax.specs.ReadingStatements.{begins_block, block_at, stmt_at}
use Rattle.syntax.proofs.Chain.{then_line, before_line, at_kind, EndsBefore, line-optional, line-many, weaken, give_line, line-apart}
use Rattle.syntax.proofs.Chain.{starts-weaker, leads-optional, leads-many, leads-give, starts-behind, before_leads, line-same, AreSame}
use Rattle.syntax.proofs.Chain.{are-same}
use Rattle.syntax.proofs.Expressions.{line-expr}
use Rattle.syntax.proofs.Laws.{cases_bool}
use Rattle.syntax.proofs.Line.{Line, Any, line-token}
use Rattle.syntax.proofs.Starts.{Starts, head_is, head_not, begins-head, starts-bind, starts-never, starts-or, starts-token}
use Rattle.syntax.proofs.Statements.{AtLineEnd, is_newline, at_newline, ended_expr, opens_simple, line-simple, starts-simple}
use Rattle.syntax.proofs.Steps.{line-deep, line-here}
use Rattle.syntax.proofs.Words.{cond_true, not_in, no_block, no_end, block_head, in_body_head, end_head, in_line_head, ends_in}

-- ---- the lines of a body

-- the first token of a statement
abbrev pub opens_stmt : TokenKind → Bool
opens_stmt l = cond (is l Kinds.Foreach) true (cond (is l Kinds.If) true (opens_simple l))

abbrev opens_line : TokenKind → Bool
opens_line l = cond (is l Kinds.Newline) true (opens_stmt l)

abbrev pub AfterLine : List Lexeme → Type 0
AfterLine = EndsBefore in_line AtLineEnd

pub after_newline : (ts : List Lexeme) → head_is is_newline ts ≡ true → AfterLine ts
after_newline ts h = (ends_in ts (at_newline ts h), at_newline ts h)

-- [stmt]
pub line-maybe : {S S' : Form StatementTree} {s s' : Reader StatementTree} → Starts S opens_stmt → Line S S' s s' AtLineEnd 1
    → Line (optional S) (optional S') (optional_at in_line s) (optional_at in_line s') AfterLine 0
line-maybe starts f = line-optional in_line
    (λ a ts rest h. in_line_head opens_stmt refl ts (starts.spelled a ts rest h))
    (λ ts more h e. elim (starts.begun ts more h)
    [ inl same ↦ same | inr head ↦ let b = in_line_head opens_stmt refl ts head in absurd cc ])
    f

-- [stmt] NL
line-ended : {S S' : Form StatementTree} {s s' : Reader StatementTree} → Starts S opens_stmt → Line S S' s s' AtLineEnd 1
    → Line (line S) (line S') (ended_line_at s) (ended_line_at s') Any 1
unfolding ended_line_at
line-ended starts f = before_line is_newline after_newline
    (λ (o : Option StatementTree). starts-bind (token Kinds.Newline) _ is_newline (starts-token Kinds.Newline))
    (line-maybe starts f) (λ (o : Option StatementTree). give_line (λ (t : Lexeme). o) (line-token Kinds.Newline))

starts-ended : (S : Form StatementTree) → Starts S opens_stmt → Starts (line S) opens_line
starts-ended S starts = starts-behind (optional S) (λ o. token Kinds.Newline >>= λ t. give o) opens_line
    (leads-optional S opens_line (starts-weaker S opens_stmt opens_line (λ l e. cond_true (is l Kinds.Newline) (opens_stmt l) e) starts))
    (λ o. starts-weaker (token Kinds.Newline >>= λ t. give o) is_newline opens_line
    (λ l e. at_kind Kinds.Newline opens_line true refl l e)
    (starts-bind (token Kinds.Newline) _ is_newline (starts-token Kinds.Newline)))

-- ---- bodies

abbrev AfterBody : List Lexeme → Type 0
AfterBody ts = in_body ts ≡ false

line-body : {S S' : Form StatementTree} {s s' : Reader StatementTree} → Starts S opens_stmt → Line S S' s s' AtLineEnd 1
    → Line (body S) (body S') (body_at s) (body_at s') AfterBody 0
unfolding body_at
line-body {S = S} starts f =
    let first = starts-ended S starts in
    weaken (λ ts st. (st, tt)) (omega arith)
    (give_line (λ (lines : List (Option StatementTree)). statements_of_lines lines)
    (line-many in_body (omega arith)
    (λ a ts rest h. in_body_head opens_line (no_end opens_line refl refl refl refl) ts (first.spelled a ts rest h))
    (λ ts e. tt)
    (λ ts more h e. elim (first.begun ts more h)
    [ inl same ↦ same | inr head ↦ let b = in_body_head opens_line (no_end opens_line refl refl refl refl) ts head in absurd cc ])
    (line-ended starts f)))

-- a token at which a body ends
ends_at_kind : (k : TokenKind) → ends_body k ≡ true → (ts : List Lexeme) → head_is (λ l. is l k) ts ≡ true → AfterBody ts
ends_at_kind k ended = end_head (λ l. is l k) (λ l h. at_kind k ends_body true ended l h)

-- ---- foreach

abbrev is_comma : TokenKind → Bool
is_comma l = is l Kinds.Comma

abbrev is_colon : TokenKind → Bool
is_colon l = is l Kinds.Colon

line-second : Line (optional second) (optional second) (optional_at (begins Kinds.Comma) second_at)
    (optional_at (begins Kinds.Comma) second_at) (EndsBefore (begins Kinds.Comma) Any) 0
unfolding second_at
line-second =
    let starts = starts-bind (token Kinds.Comma) (λ c. token Kinds.Name >>= λ t. give t.text) is_comma (starts-token Kinds.Comma) in
    line-optional (begins Kinds.Comma)
    (λ a ts rest h. begins-head Kinds.Comma ts ∙ starts.spelled a ts rest h)
    (λ ts more h e. elim (starts.begun ts more h) [ inl same ↦ same | inr head ↦ let b = begins-head Kinds.Comma ts in absurd cc ])
    (then_line (line-token Kinds.Comma) (λ (c : Lexeme). give_line (λ (t : Lexeme). t.text) (line-token Kinds.Name)))

after_second : (ts : List Lexeme) → head_is is_colon ts ≡ true → EndsBefore (begins Kinds.Comma) Any ts
after_second ts h = (begins-head Kinds.Comma ts ∙ head_not is_colon is_comma (λ l e. at_kind Kinds.Colon is_comma false refl l e) ts h, tt)

starts-kind : {B : Type 0} (k : TokenKind) (G : Lexeme → Form B) → Starts (token k >>= G) (λ l. is l k)
starts-kind k G = starts-bind (token k) G (λ l. is l k) (starts-token k)

line-names : Line names names names_at names_at Any 2
unfolding names_at
line-names =
    weaken (λ ts st. tt) (omega arith)
    (then_line (line-token Kinds.Name) (λ (a : Lexeme).
    before_line is_colon after_second (λ (b : Option (List ℕ)). starts-kind Kinds.Colon _) line-second
    (λ (b : Option (List ℕ)). give_line (λ (c : Lexeme). let x : List ℕ × Option (List ℕ) = (a.text, b) in x) (line-token Kinds.Colon))))

line-branch : {S S' : Form StatementTree} {s s' : Reader StatementTree} (n : ℕ) → Starts S opens_stmt → Line S S' s s' AtLineEnd 1
    → Line (branch (expr n) S) (branch (expr (suc n)) S') (branch_at (expr_at n) s) (branch_at (expr_at (suc n)) s') AfterBody 2
unfolding branch_at
line-branch n starts f =
    then_line line-here (λ (l : ℕ). before_line is_newline (λ ts h. ended_expr ts (at_newline ts h))
    (λ (e : ExpressionTree). starts-kind Kinds.Newline _) (line-expr n)
    (λ (e : ExpressionTree). then_line (line-token Kinds.Newline) (λ (t : Lexeme).
    give_line (λ (ss : List StatementTree). let b : BranchTree = (e, l, statements ss) in b) (line-body starts f))))

line-foreach : {S S' : Form StatementTree} {s s' : Reader StatementTree} (n : ℕ) → Starts S opens_stmt → Line S S' s s' AtLineEnd 1
    → Line (foreach (expr n) S) (foreach (expr (suc n)) S') (foreach_at (expr_at n) s) (foreach_at (expr_at (suc n)) s') Any 1
unfolding foreach_at
line-foreach n starts f =
    weaken (λ ts st. tt) (omega arith)
    (then_line (line-token Kinds.Foreach) (λ (w : Lexeme). then_line line-names (λ (x : List ℕ × Option (List ℕ)).
    before_line (λ l. is l Kinds.EndForeach) (ends_at_kind Kinds.EndForeach refl)
    (λ (b : BranchTree). starts-kind Kinds.EndForeach _) (line-branch n starts f) (λ (b : BranchTree).
    give_line (λ (end : Lexeme). ForeachTree w.line x.0 x.1 b.0 b.1 b.2) (line-token Kinds.EndForeach)))))

-- ---- if

line-elif : {S S' : Form StatementTree} {s s' : Reader StatementTree} (n : ℕ) → Starts S opens_stmt → Line S S' s s' AtLineEnd 1
    → Line (elif (expr n) S) (elif (expr (suc n)) S') (elif_at (expr_at n) s) (elif_at (expr_at (suc n)) s') AfterBody 3
unfolding elif_at
line-elif n starts f = then_line (line-token Kinds.Elif) (λ (w : Lexeme). line-branch n starts f)

line-last : {S S' : Form StatementTree} {s s' : Reader StatementTree} → Starts S opens_stmt → Line S S' s s' AtLineEnd 1
    → Line (last_part S) (last_part S') (last_part_at s) (last_part_at s') AfterBody 2
unfolding last_part_at
line-last starts f = then_line (line-token Kinds.Else)
    (λ (w : Lexeme). then_line (line-token Kinds.Newline) (λ (t : Lexeme). line-body starts f))

abbrev is_elif : TokenKind → Bool
is_elif l = is l Kinds.Elif

abbrev is_else : TokenKind → Bool
is_else l = is l Kinds.Else

abbrev is_endif : TokenKind → Bool
is_endif l = is l Kinds.EndIf

abbrev else_or_end : TokenKind → Bool
else_or_end l = cond (is_else l) true (is_endif l)

ends_else : (l : TokenKind) → else_or_end l ≡ true → (ends_body l ≡ true) × (is_elif l ≡ false)
ends_else l h = elim (cases_bool (is_else l)) [
  | inl y ↦ (at_kind Kinds.Else ends_body true refl l y, at_kind Kinds.Else is_elif false refl l y)
  | inr n ↦ let e : is_endif l ≡ true = sym (ap (λ (b : Bool). cond b true (is_endif l)) n)
      ∙ h in (at_kind Kinds.EndIf ends_body true refl l e, at_kind Kinds.EndIf is_elif false refl l e)
]

-- where the parts with a condition may end
abbrev AfterParts : List Lexeme → Type 0
AfterParts = EndsBefore (begins Kinds.Elif) AfterBody

after_parts : (ts : List Lexeme) → head_is else_or_end ts ≡ true → AfterParts ts
after_parts ts h = (
  begins-head Kinds.Elif ts
      ∙ head_not else_or_end is_elif (λ l e. (ends_else l e).1) ts h,
  end_head else_or_end (λ l e. (ends_else l e).0) ts h,
)

after_else : (ts : List Lexeme) → head_is is_endif ts ≡ true → EndsBefore (begins Kinds.Else) AfterBody ts
after_else ts h = (
  begins-head Kinds.Else ts
      ∙ head_not is_endif is_else (λ l e. at_kind Kinds.EndIf is_else false refl l e) ts h,
  ends_at_kind Kinds.EndIf refl ts h,
)

line-elifs : {S S' : Form StatementTree} {s s' : Reader StatementTree} (n : ℕ) → Starts S opens_stmt → Line S S' s s' AtLineEnd 1
    → Line (many (elif (expr n) S)) (many (elif (expr (suc n)) S'))
    (λ ts. many_at (begins Kinds.Elif) (elif_at (expr_at n) s) (length ts) ts)
    (λ ts. many_at (begins Kinds.Elif) (elif_at (expr_at (suc n)) s') (length ts) ts) AfterParts 0
line-elifs {S = S} n starts f =
    let first = starts-kind Kinds.Elif (λ w. branch (expr n) S) in
    line-many (begins Kinds.Elif) (omega arith)
    (λ a ts rest h. begins-head Kinds.Elif ts ∙ first.spelled a ts rest h)
    (λ ts b. ends_at_kind Kinds.Elif refl ts (sym (begins-head Kinds.Elif ts) ∙ b))
    (λ ts more h e. elim (first.begun ts more h) [ inl same ↦ same | inr head ↦ let b = begins-head Kinds.Elif ts in absurd cc ])
    (line-elif n starts f)

line-parts : {S S' : Form StatementTree} {s s' : Reader StatementTree} (n : ℕ) → Starts S opens_stmt → Line S S' s s' AtLineEnd 1
    → Line (parts (expr n) S) (parts (expr (suc n)) S') (parts_at (expr_at n) s) (parts_at (expr_at (suc n)) s') AfterParts 0
unfolding parts_at
line-parts {S = S} n starts f =
    weaken (λ ts st. st) (omega arith)
    (before_leads is_elif (ends_at_kind Kinds.Elif refl) (λ ts st. st.1)
    (λ (first : BranchTree). leads-give (many (elif (expr n) S)) (λ (others : List BranchTree). first ∷ others) is_elif
    (leads-many (elif (expr n) S) is_elif (starts-kind Kinds.Elif (λ w. branch (expr n) S))))
    (line-branch n starts f) (λ (first : BranchTree). give_line (λ (others : List BranchTree). first ∷ others) (line-elifs n starts f)))

abbrev or_none : Option (List StatementTree) → List StatementTree
or_none last = unwrap_or last []

starts-last : (S : Form StatementTree) → Starts (last_part S) is_else
starts-last S = starts-kind Kinds.Else (λ w. token Kinds.Newline >>= λ t. body S)

line-otherwise : {S S' : Form StatementTree} {s s' : Reader StatementTree} → Starts S opens_stmt → Line S S' s s' AtLineEnd 1
    → Line (otherwise S) (otherwise S') (otherwise_at s) (otherwise_at s') (EndsBefore (begins Kinds.Else) AfterBody) 0
unfolding otherwise_at
line-otherwise {S = S} starts f =
    let first = starts-last S in
    give_line or_none
    (line-optional (begins Kinds.Else)
    (λ a ts rest h. begins-head Kinds.Else ts ∙ first.spelled a ts rest h)
    (λ ts more h e. elim (first.begun ts more h) [ inl same ↦ same | inr head ↦ let b = begins-head Kinds.Else ts in absurd cc ])
    (line-last starts f))

starts-otherwise : (S : Form StatementTree) (w : Lexeme) (bs : List BranchTree)
    → Starts (otherwise S >>= λ ss. token Kinds.EndIf >>= λ end. give (IfTree w.line (branches bs) (statements ss))) else_or_end
starts-otherwise S w bs = starts-behind (otherwise S) _ else_or_end
    (leads-give (optional (last_part S)) or_none else_or_end
    (leads-optional (last_part S) else_or_end
    (starts-weaker (last_part S) is_else else_or_end (λ l e. at_kind Kinds.Else else_or_end true refl l e) (starts-last S))))
    (λ ss. starts-weaker _ is_endif else_or_end (λ l e. cond_true (is_else l) (is_endif l) e) (starts-kind Kinds.EndIf _))

line-conditional : {S S' : Form StatementTree} {s s' : Reader StatementTree} (n : ℕ) → Starts S opens_stmt → Line S S' s s' AtLineEnd 1
    → Line (conditional (expr n) S) (conditional (expr (suc n)) S') (conditional_at (expr_at n) s)
    (conditional_at (expr_at (suc n)) s') Any 1
unfolding conditional_at
line-conditional {S = S} n starts f =
    weaken (λ ts st. tt) (omega arith)
    (then_line (line-token Kinds.If) (λ (w : Lexeme).
    before_line else_or_end after_parts (λ (bs : List BranchTree). starts-otherwise S w bs) (line-parts n starts f)
    (λ (bs : List BranchTree).
    before_line is_endif after_else (λ (ss : List StatementTree). starts-kind Kinds.EndIf _) (line-otherwise starts f)
    (λ (ss : List StatementTree).
    give_line (λ (end : Lexeme). IfTree w.line (branches bs) (statements ss)) (line-token Kinds.EndIf)))))

-- ---- blocks

abbrev is_foreach : TokenKind → Bool
is_foreach l = is l Kinds.Foreach

abbrev is_if : TokenKind → Bool
is_if l = is l Kinds.If

either_block : (l : TokenKind) → is_foreach l ≡ true → opens_block l ≡ true
either_block l e = at_kind Kinds.Foreach opens_block true refl l e

or_block : (l : TokenKind) → is_if l ≡ true → opens_block l ≡ true
or_block l e = at_kind Kinds.If opens_block true refl l e

starts-block : (inside : Bool) (n : ℕ) → Starts (block inside n) opens_block
unfolding block
starts-block inside zero = starts-never opens_block
starts-block inside (suc n) = starts-or (foreach (expr n) (block true n or simple true n))
    (conditional (expr n) (block inside n or simple inside n)) is_foreach is_if opens_block (starts-kind Kinds.Foreach _)
    (starts-kind Kinds.If _) either_block or_block

stmt_begins : (l : TokenKind) → opens_block l ≡ true → opens_stmt l ≡ true
stmt_begins l e = elim (cases_bool (is_foreach l)) [
  | inl y ↦ at_kind Kinds.Foreach opens_stmt true refl l y
  | inr n ↦ elim (cases_bool (is_if l)) [
    | inl y ↦ at_kind Kinds.If opens_stmt true refl l y
    | inr m ↦ absurd (let f : opens_block l ≡ false = rw (n, m) refl in cc)
  ]
]

pub starts-stmt : (inside : Bool) (n : ℕ) → Starts (block inside n or simple inside n) opens_stmt
starts-stmt inside n = starts-or (block inside n) (simple inside n) opens_block opens_simple opens_stmt (starts-block inside n)
    (starts-simple inside n) stmt_begins (λ l e. cond_true (is l Kinds.Foreach) _ (cond_true (is l Kinds.If) (opens_simple l) e))

-- where both words would open a level too many
no_words : {A : Type 0} → AreSame (never {A = A} or never) never
no_words = record {
  spells_to = λ a ts rest h. elim h [ inl p ↦ p | inr p ↦ p ];
  spells_from = λ a ts rest h. inl h;
  front_to =
      λ ts more h. elim h [ inl p ↦ p | inr p ↦ p ];
  front_from = λ ts more h. inl h;
}

-- a statement, from its blocks
line-all : {B B' : Form StatementTree} {b b' : Reader StatementTree} (inside : Bool) (n : ℕ) → Starts B opens_block → Line B B' b b' Any 1
    → Line (B or simple inside n) (B' or simple inside (suc n)) (or_at begins_block b (simple_at inside n))
    (or_at begins_block b' (simple_at inside (suc n))) AtLineEnd 1
line-all inside n starts f = line-apart begins_block opens_block opens_simple block_head (no_block opens_simple refl refl) starts
    (starts-simple inside n) (weaken (λ ts st. tt) (omega arith) f) (line-simple inside n)

foreach-deep : (expr : Form ExpressionTree) (S : Form StatementTree) (r : Reader ExpressionTree) (s : Reader StatementTree)
    → Line never (foreach expr S) (deep_at Kinds.Foreach) (foreach_at r s) Any 1
unfolding foreach_at
foreach-deep expr S r s = line-deep Kinds.Foreach _ _ Any

if-deep : (expr : Form ExpressionTree) (S : Form StatementTree) (r : Reader ExpressionTree) (s : Reader StatementTree)
    → Line never (conditional expr S) (deep_at Kinds.If) (conditional_at r s) Any 1
unfolding conditional_at
if-deep expr S r s = line-deep Kinds.If _ _ Any

line-block : (inside : Bool) (n : ℕ) → Line (block inside n) (block inside (suc n)) (block_at inside n) (block_at inside (suc n)) Any 1
unfolding block block_at
line-block inside zero = line-same (never or never) _ never _ _ _ Any 1 no_words (are-same _)
    (line-apart (begins Kinds.Foreach) is_foreach is_if (begins-head Kinds.Foreach) (not_in is_if Kinds.Foreach refl)
    (starts-never is_foreach) (starts-never is_if)
    (foreach-deep _ _ _ _) (if-deep _ _ _ _))
line-block inside (suc n) = line-apart (begins Kinds.Foreach) is_foreach is_if (begins-head Kinds.Foreach)
    (not_in is_if Kinds.Foreach refl) (starts-kind Kinds.Foreach _) (starts-kind Kinds.If _)
    (line-foreach n (starts-stmt true n) (line-all true n (starts-block true n) (line-block true n)))
    (line-conditional n (starts-stmt inside n) (line-all inside n (starts-block inside n) (line-block inside n)))

pub line-stmt : (inside : Bool) (n : ℕ) → Line (stmt inside n) (stmt inside (suc n)) (stmt_at inside n) (stmt_at inside (suc n)) AtLineEnd 1
unfolding stmt_at
line-stmt inside n = line-all inside n (starts-block inside n) (line-block inside n)

-- The lines of the grammar of statements.
use Rattle.std.proofs.Common.{◌⊎◌, lit<, ◌<◌, lit≤, ◌≡◌, ℕ, suc, Bool, true, false, cond, List, ◌∷◌, refl, sym, ap, subst, ◌∙◌, inl, inr}
use Rattle.std.proofs.Common.{arith, []}
use Rattle.syntax.specs.lexer.Lexeme.{Lexeme}
use Rattle.syntax.specs.lexer.Kinds.{is}
use Rattle.syntax.specs.declared.lexer.token.TokenKind.{TokenKind}
use Rattle.syntax.specs.declared.lexer.token.TokenKind.TheVariants as Kinds
use Rattle.syntax.specs.ExpressionTree.{ExpressionTree, NameTree}
use Rattle.syntax.specs.Tree.{StatementTree, AssignTree, AppendTree, ValueTree, BreakTree, ContinueTree}
use Rattle.syntax.specs.Form.{Form, token, give, ◌>>=◌, ◌or◌}
use Rattle.syntax.specs.Expressions.{expr}
use Rattle.syntax.specs.Statements.{assignment_form, plain, leave, simple}
use Rattle.syntax.specs.Reading.{Reader, begins, or_at, two_begin}
use Rattle.syntax.specs.ReadingExpressions.{expr_at}
use Rattle.syntax.specs.ReadingStatements.{set_at, plain_at, leave_at, simple_at, ends_line}
use Rattle.syntax.proofs.Binding.{AfterExpression, after_kind, binding}
use Rattle.syntax.proofs.Chain.{then_line, at_kind, weaken, give_line, line-or, line-apart, line-none}
use Rattle.syntax.proofs.Expressions.{line-expr, starts-expr}
use Rattle.syntax.proofs.Named.{named_expr, name_front, no_sign_in}
use Rattle.syntax.proofs.Steps.{line-here, opens_expr, starts-here}
use Rattle.syntax.proofs.Line.{Line, line-token, begun_token, begins_token}
use Rattle.syntax.proofs.Starts.{Starts, head_is, begins-head, starts-bind, starts-never, starts-or, starts-token}
use Rattle.syntax.proofs.Words.{cond_true, not_in, newline_head, name_sign, AfterName, after-name, after-name-or}

-- no token of the line is left
abbrev pub AtLineEnd : List Lexeme → Type 0
AtLineEnd ts = ends_line ts ≡ true

abbrev pub is_newline : TokenKind → Bool
is_newline l = is l Kinds.Newline

pub at_newline : (ts : List Lexeme) → head_is is_newline ts ≡ true → AtLineEnd ts
at_newline ts h = newline_head ts (begins-head Kinds.Newline ts ∙ h)

-- ---- expressions

pub ended_expr : (ts : List Lexeme) → AtLineEnd ts → AfterExpression ts
ended_expr [] st = lit≤ tt
ended_expr (t ∷ ts) st = after_kind Kinds.Newline 7 (t ∷ ts) (lit≤ tt) st

-- ---- a name, a sign and an expression

abbrev setter : TokenKind → (List ℕ → ℕ → ExpressionTree → StatementTree) → ℕ → Form StatementTree
setter k tree n = token Kinds.Name >>= λ t. token k >>= λ q. expr n >>= λ e. give (tree t.text t.line e)

line-set : (k : TokenKind) (tree : List ℕ → ℕ → ExpressionTree → StatementTree) (n : ℕ)
    → Line (setter k tree n) (setter k tree (suc n)) (set_at k tree (expr_at n)) (set_at k tree (expr_at (suc n))) AtLineEnd 1
unfolding set_at
line-set k tree n =
    weaken ended_expr (omega arith)
    (then_line (line-token Kinds.Name)
    (λ (t : Lexeme). then_line (line-token k)
    (λ (q : Lexeme). give_line (λ (e : ExpressionTree). tree t.text t.line e) (line-expr n))))

-- what comes behind the name
starts-sign : (k : TokenKind) (tree : List ℕ → ℕ → ExpressionTree → StatementTree) (n : ℕ) (t : Lexeme)
    → Starts (token k >>= λ q. expr n >>= λ e. give (tree t.text t.line e)) (λ l. is l k)
starts-sign k tree n t = starts-bind (token k) _ (λ l. is l k) (starts-token k)

abbrev is_name : TokenKind → Bool
is_name l = is l Kinds.Name

starts-set : (k : TokenKind) (tree : List ℕ → ℕ → ExpressionTree → StatementTree) (n : ℕ) → Starts (setter k tree n) is_name
starts-set k tree n = starts-bind (token Kinds.Name) _ is_name (starts-token Kinds.Name)

-- two statements that both may begin with a name
line-sign-or : {G G' : Form StatementTree} {s s' : Reader StatementTree} (k : TokenKind) (tree : List ℕ → ℕ → ExpressionTree → StatementTree)
    (n : ℕ) → AfterName G AtLineEnd k → Line G G' s s' AtLineEnd 1
    → Line (setter k tree n or G) (setter k tree (suc n) or G') (or_at (two_begin Kinds.Name k) (set_at k tree (expr_at n)) s)
    (or_at (two_begin Kinds.Name k) (set_at k tree (expr_at (suc n))) s') AtLineEnd 1
line-sign-or {G = G} k tree n after g = line-or (two_begin Kinds.Name k)
    (λ a ts rest h. name_sign k ts h.0 h.1 h.2.0 h.2.1
    (begins_token k (λ q. expr n >>= λ e. give (tree h.0.text h.0.line e)) a h.1 rest h.3))
    (λ a ts rest h st. after.apart a ts rest h st)
    (λ ts more two h. elim (after.begun ts more two h) [ inl same ↦ inl (inl (sym same)) | inr w ↦ inl (inr w) ])
    no_sign_front
    (line-set k tree n) g
  where
    no_sign_front : (ts more : List Lexeme) → two_begin Kinds.Name k ts ≡ false → (setter k tree n).front ts more → G.front ts more
    no_sign_front ts more two (inl (inl same)) = subst (λ (l : List Lexeme). G.front l more) (sym same) (g.form.nothing more)
    no_sign_front ts more two (inl (inr (t, e, named))) = subst (λ (l : List Lexeme). G.front l more) (sym e) (after.name t more named)
    no_sign_front ts more two (inr (t, m, h, f)) = elim (begun_token k (λ q. expr n >>= λ e. give (tree t.text t.line e)) m more f) [
      | inl same ↦ subst (λ (l : List Lexeme). G.front l more) (sym (h.0 ∙ ap (λ (l : List Lexeme). t ∷ l) (sym same)))
          (after.name t more h.1)
      | inr b ↦ absurd (let y = name_sign k ts t m h.0 h.1 b in cc)
    ]

-- ---- an expression alone

line-plain : (n : ℕ) → Line (plain (expr n)) (plain (expr (suc n))) (plain_at (expr_at n)) (plain_at (expr_at (suc n))) AtLineEnd 1
unfolding plain_at
line-plain n =
    weaken ended_expr (omega arith)
    (then_line line-here (λ (l : ℕ). give_line (λ (e : ExpressionTree). ValueTree e l) (line-expr n)))

starts-plain : (n : ℕ) → Starts (plain (expr n)) opens_expr
starts-plain n = starts-here (λ l. expr n >>= λ e. give (ValueTree e l)) opens_expr (λ l. starts-bind (expr n) _ opens_expr (starts-expr n))

-- no sign stands at a line's end
no_sign_at_end : (k : TokenKind) → is Kinds.Newline k ≡ false → (ts : List Lexeme) → AtLineEnd ts → begins k ts ≡ false
no_sign_at_end k apart [] st = refl
no_sign_at_end k apart (t ∷ ts) st = at_kind Kinds.Newline (λ l. is l k) false apart t.kind st

after-plain : (n : ℕ) (k : TokenKind) → 7 < binding k → is Kinds.Newline k ≡ false → AfterName (plain (expr n)) AtLineEnd k
after-plain n k ends apart = record {
  name = λ t us named. inr (t.line, t ∷ us, (refl, refl), inl ((line-expr n).form.whole (NameTree t.text t.line) (t ∷ us) us (named_expr n t us named)));
  apart = λ a ts rest h st. plain_apart ts rest h.1 h.3.1 h.2.0 h.3.3.1 h.3.0 h.3.2 st;
  begun = plain_begun;
}
  where
    plain_apart : (ts rest mid after : List Lexeme) → ts ≡ mid → after ≡ rest → (e : ExpressionTree) → (expr n).spells e mid after → AtLineEnd rest → two_begin Kinds.Name k ts ≡ false
    plain_apart ts rest mid after same end e h st =
        let h2 = subst (λ (l : List Lexeme). (expr n).spells e l after) (sym same) h in
        let h3 = subst (λ (l : List Lexeme). (expr n).spells e ts l) end h2 in
        no_sign_in (λ (t : Lexeme). NameTree t.text t.line) (named_expr n) k ends (line-expr n) e ts rest h3 (ended_expr rest st) (no_sign_at_end k apart rest st)

    front_begun : (ts mid more : List Lexeme) → ts ≡ mid → two_begin Kinds.Name k ts ≡ true → (expr n).front mid more → (more ≡ ts) ⊎ ((t : Lexeme) × (ts ≡ t ∷ more) × (t.kind ≡ Kinds.Name))
    front_begun ts mid more same two h =
        name_front (λ (t : Lexeme). NameTree t.text t.line) (named_expr n) k ends (line-expr n) ts more two (subst (λ (l : List Lexeme). (expr n).front l more) (sym same) h)

    plain_begun : (ts more : List Lexeme) → two_begin Kinds.Name k ts ≡ true → (plain (expr n)).front ts more → (more ≡ ts) ⊎ ((t : Lexeme) × (ts ≡ t ∷ more) × (t.kind ≡ Kinds.Name))
    plain_begun ts more two (inl same) = inl (sym same)
    plain_begun ts more two (inr (l, mid, at, inl h)) = front_begun ts mid more at.0 two h
    plain_begun ts more two (inr (l, mid, at, inr (e, after, h, same))) =
        front_begun ts mid more at.0 two (subst (λ (x : List Lexeme). (expr n).front mid x) same ((line-expr n).form.whole e mid after h))

-- ---- statements of one line

line-leave : (k : TokenKind) (tree : ℕ → StatementTree) (inside : Bool)
    → Line (leave k tree inside) (leave k tree inside) (leave_at k tree inside) (leave_at k tree inside) AtLineEnd 1
unfolding leave_at
line-leave k tree true = weaken (λ ts st. tt) (omega arith) (give_line (λ (t : Lexeme). tree t.line) (line-token k))
line-leave k tree false = weaken (λ ts st. tt) (omega arith) line-none

starts-leave : (k : TokenKind) (tree : ℕ → StatementTree) (inside : Bool) → Starts (leave k tree inside) (λ l. is l k)
starts-leave k tree true = starts-bind (token k) _ (λ l. is l k) (starts-token k)
starts-leave k tree false = starts-never (λ l. is l k)

abbrev named : ℕ → Form StatementTree
named n = assignment_form Kinds.Assign AssignTree (expr n) or (assignment_form Kinds.PlusAssign AppendTree (expr n) or plain (expr n))

abbrev opens_continue : TokenKind → Bool
opens_continue l = cond (is l Kinds.Continue) true (opens_expr l)

-- the first token of a statement of one line
abbrev pub opens_simple : TokenKind → Bool
opens_simple l = cond (is l Kinds.Break) true (opens_continue l)

name_opens : (l : TokenKind) → is_name l ≡ true → opens_expr l ≡ true
name_opens l e = at_kind Kinds.Name opens_expr true refl l e

starts-named : (n : ℕ) → Starts (named n) opens_expr
starts-named n = starts-or _ _ is_name opens_expr opens_expr (starts-set Kinds.Assign AssignTree n)
    (starts-or _ _ is_name opens_expr opens_expr (starts-set Kinds.PlusAssign AppendTree n) (starts-plain n) name_opens (λ k e. e)) name_opens (λ k e. e)

starts-continue : (inside : Bool) (n : ℕ) → Starts (leave Kinds.Continue ContinueTree inside or named n) opens_continue
starts-continue inside n = starts-or (leave Kinds.Continue ContinueTree inside) (named n)
    (λ l. is l Kinds.Continue) opens_expr opens_continue (starts-leave Kinds.Continue ContinueTree inside) (starts-named n)
    (λ l h. at_kind Kinds.Continue opens_continue true refl l h) (λ l h. cond_true (is l Kinds.Continue) (opens_expr l) h)

pub starts-simple : (inside : Bool) (n : ℕ) → Starts (simple inside n) opens_simple
starts-simple inside n = starts-or (leave Kinds.Break BreakTree inside) (leave Kinds.Continue ContinueTree inside or named n)
    (λ l. is l Kinds.Break) opens_continue opens_simple (starts-leave Kinds.Break BreakTree inside) (starts-continue inside n)
    (λ l h. at_kind Kinds.Break opens_simple true refl l h) (λ l h. cond_true (is l Kinds.Break) (opens_continue l) h)

pub line-simple : (inside : Bool) (n : ℕ)
    → Line (simple inside n) (simple inside (suc n)) (simple_at inside n) (simple_at inside (suc n)) AtLineEnd 1
unfolding simple_at
line-simple inside n =
    line-apart (begins Kinds.Break) (λ l. is l Kinds.Break) opens_continue (begins-head Kinds.Break)
    (not_in opens_continue Kinds.Break refl) (starts-leave Kinds.Break BreakTree inside) (starts-continue inside n)
    (line-leave Kinds.Break BreakTree inside)
    (line-apart (begins Kinds.Continue) (λ l. is l Kinds.Continue) opens_expr (begins-head Kinds.Continue)
    (not_in opens_expr Kinds.Continue refl) (starts-leave Kinds.Continue ContinueTree inside) (starts-named n)
    (line-leave Kinds.Continue ContinueTree inside)
    (line-sign-or Kinds.Assign AssignTree n
    (after-name-or _ _ AtLineEnd Kinds.Assign
    (after-name _ AtLineEnd Kinds.Assign (λ l. is l Kinds.PlusAssign) refl (starts-sign Kinds.PlusAssign AppendTree n))
    (after-plain n Kinds.Assign (lit< tt) refl))
    (line-sign-or Kinds.PlusAssign AppendTree n (after-plain n Kinds.PlusAssign (lit< tt) refl) (line-plain n))))

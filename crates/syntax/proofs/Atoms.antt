-- Atoms, lists, dictionaries and arguments.
use Rattle.std.proofs.Common.{◌≡◌, ◌+◌, Bool, true, false, cond, List, [], ◌∷◌, Some, None, refl, inl, inr, lit≤, arith}
use Rattle.syntax.specs.lexer.Lexeme.{Lexeme}
use Rattle.syntax.specs.lexer.Kinds.{is}
use Rattle.syntax.specs.declared.lexer.token.TokenKind.{TokenKind}
use Rattle.syntax.specs.declared.lexer.token.TokenKind.TheVariants as Kinds
use Rattle.syntax.specs.ExpressionTree.{ExpressionTree, NameTree, LiteralTree, ListTree, DictionaryTree, ArgumentTree, entries}
use Rattle.syntax.specs.ExpressionTree.{expressions}
use Rattle.syntax.specs.Form.{Form, token, give, listed_by, same_state, ◌>>=◌, ◌or◌}
use Rattle.syntax.specs.Parts.{stands_for, token_as, token_as_at}
use Rattle.syntax.specs.Expressions.{argument, ternary, dictionary, entry, group, list, literal, literal_of, name, positional}
use Rattle.syntax.specs.Reading.{Reader, begins, head_is, listed_at, token_at}
use Rattle.syntax.specs.ReadingExpressions.{argument_at, ternary_at, dictionary_at, entry_at, group_at, list_at, literal_at, name_at}
use Rattle.syntax.specs.ReadingExpressions.{named_at, positional_at}
use Rattle.syntax.proofs.Alike.{line-alike}
use Rattle.syntax.proofs.Binding.{After, after_kind}
use Rattle.syntax.proofs.Chains.{line-map}
use Rattle.syntax.proofs.TernaryLines.{line-before, line-ternary, single_ternary, starts-ternary}
use Rattle.syntax.proofs.Laws.{bind_at, give_at}
use Rattle.syntax.proofs.Line.{Line, Any, line-bind, line-give, line-stops, line-then, line-token, begins_token, begun_token}
use Rattle.syntax.proofs.Lists.{line-listed}
use Rattle.syntax.proofs.Starts.{Starts, starts-bind, starts-or, starts-token}
use Rattle.syntax.proofs.Steps.{IsUnary, line-as, opens_expr, starts-as}

-- ---- what forms begin with

-- the kinds with which one of two forms begins
abbrev pub either : (TokenKind → Bool) → (TokenKind → Bool) → TokenKind → Bool
either p q k = cond (p k) true (q k)

either_right : (a b : Bool) → b ≡ true → cond a true b ≡ true
either_right true b e = refl
either_right false b e = e

pub starts-either : {A : Type 0} (p q : TokenKind → Bool) (F G : Form A) → Starts F p → Starts G q → Starts (F or G) (either p q)
starts-either p q F G s t = starts-or F G p q (either p q) s t (λ k e. rw e refl) (λ k e. either_right (p k) (q k) e)

head_weaker : (p q : TokenKind → Bool) → ((k : TokenKind) → p k ≡ true → q k ≡ true) → (ts : List Lexeme) → head_is p ts ≡ true → head_is q ts ≡ true
head_weaker p q f [] e = absurd cc
head_weaker p q f (t ∷ ts) e = f t.kind e

pub starts-weaker : {A : Type 0} (p q : TokenKind → Bool) (F : Form A) → ((k : TokenKind) → p k ≡ true → q k ≡ true) → Starts F p → Starts F q
starts-weaker p q F f s = record {
  spelled = λ a ts rest h. head_weaker p q f ts (s.spelled a ts rest h);
  begun = λ ts more h. elim (s.begun ts more h) [ inl same ↦ inl same | inr head ↦ inr (head_weaker p q f ts head) ];
}

abbrev pub of_kind : TokenKind → TokenKind → Bool
of_kind k l = is l k

-- ---- names and literals

pub line-name : Line name name name_at name_at Any 1
unfolding name_at
line-name = line-map (token Kinds.Name) (token Kinds.Name) (λ t. NameTree t.text t.line) (token_at Kinds.Name) (token_at Kinds.Name) Any 1 (line-token Kinds.Name)

pub line-literal : Line literal literal literal_at literal_at Any 1
unfolding literal_at
line-literal = line-map (token_as literal_of) (token_as literal_of) (λ t. LiteralTree t.0 t.1.text t.1.line) (token_as_at literal_of) (token_as_at literal_of) Any 1 (line-as literal_of)

pub starts-name : Starts name (of_kind Kinds.Name)
starts-name = starts-bind (token Kinds.Name) _ (of_kind Kinds.Name) (starts-token Kinds.Name)

pub starts-literal : Starts literal (stands_for literal_of)
starts-literal = starts-bind (token_as literal_of) _ (stands_for literal_of) (starts-as literal_of)

-- ---- in brackets

-- a list and the bracket behind it
pub line-closed : {S A B : Type 0} (k : TokenKind) (F F' : S → Form A) (r r' : S → Reader A) (step : S → A → S) (g : List A → B) (Stops : List Lexeme → Type 0) → opens_expr k ≡ false → is k Kinds.Comma ≡ false
    → ((ts : List Lexeme) → begins Kinds.Comma ts ≡ true → Stops ts) → ((ts : List Lexeme) → begins k ts ≡ true → Stops ts) → ((s : S) → Starts (F s) opens_expr) → ((s : S) → Line (F s) (F' s) (r s) (r' s) Stops 1) → (s : S)
    → Line (listed_by F step s >>= λ xs. token k >>= λ c. give (g xs)) (listed_by F' step s >>= λ xs. token k >>= λ c. give (g xs))
    (bind_at (listed_at k r step s) (λ xs. bind_at (token_at k) (λ c. give_at (g xs)))) (bind_at (listed_at k r' step s) (λ xs. bind_at (token_at k) (λ c. give_at (g xs)))) Any 0
line-closed k F F' r r' step g Stops not_first not_comma at_comma at_end starts f s =
    line-bind (listed_by F step s) (listed_by F' step s) _ _ (listed_at k r step s) (listed_at k r' step s) _ _ (λ ts. begins k ts ≡ true) Any 0 0
    (line-listed k opens_expr F F' r r' step Stops not_first not_comma starts at_comma at_end f s)
    (λ xs. line-stops _ _ _ _ Any Any 1 0 (λ ts st. st) (omega arith) (line-map (token k) (token k) (λ c. g xs) (token_at k) (token_at k) Any 1 (line-token k)))
    (λ xs b ts rest h st. begins_token k (λ c. give (g xs)) b ts rest h)
    (λ xs ts more h. begun_token k (λ c. give (g xs)) ts more h)

module _ (U U' : Bool → Form ExpressionTree) (v v' : Bool → Reader ExpressionTree) (u : (b : Bool) → IsUnary (U b) (U' b) (v b) (v' b)) (b : Bool) where
  pub inside : Line (ternary U b) (ternary U' b) (ternary_at v b) (ternary_at v' b) (After 7) 1
  inside = line-ternary U U' v v' (λ c. (u c).line) b

  pub starts-inside : Starts (ternary U b) opens_expr
  starts-inside = starts-ternary U opens_expr (λ c. (u c).starts) b

  pub line-group : (o : Lexeme) → Line (group U b o) (group U' b o) (group_at v b o) (group_at v' b o) Any 0
  unfolding group_at
  line-group o =
      line-stops _ _ _ _ Any Any 1 0 (λ ts st. st) (omega arith)
      (line-before Kinds.CloseParenthesis 7 (ternary U b) (ternary U' b) (λ e c. give e) (λ e c. give e) (ternary_at v b) (ternary_at v' b) (λ e c. give_at e) (λ e c. give_at e) Any (lit≤ tt) inside (λ e c. line-give e Any))

  pub line-list : (o : Lexeme) → Line (list U b o) (list U' b o) (list_at v b o) (list_at v' b o) Any 0
  unfolding list_at
  line-list o = line-closed Kinds.CloseBracket (λ s. ternary U b) (λ s. ternary U' b) (λ s. ternary_at v b) (λ s. ternary_at v' b) same_state (λ es. ListTree (expressions es) o.line) (After 7) refl refl (λ ts b. after_kind Kinds.Comma 7 ts (lit≤ tt) b) (λ ts b. after_kind Kinds.CloseBracket 7 ts (lit≤ tt) b) (λ s. starts-inside) (λ s. inside) tt

  line-entry : Line (entry (ternary U b)) (entry (ternary U' b)) (entry_at (ternary_at v b)) (entry_at (ternary_at v' b)) (After 7) 1
  unfolding entry_at
  line-entry = line-before Kinds.Colon 7 (ternary U b) (ternary U' b) (λ k c. ternary U b >>= λ e. give (k, e)) (λ k c. ternary U' b >>= λ e. give (k, e)) (ternary_at v b) (ternary_at v' b) (λ k c. bind_at (ternary_at v b) (λ e. give_at (k, e))) (λ k c. bind_at (ternary_at v' b) (λ e. give_at (k, e))) (After 7) (lit≤ tt) inside
      (λ k c. line-stops _ _ _ _ (After 7) (After 7) 1 0 (λ ts st. st) (omega arith) (line-map (ternary U b) (ternary U' b) (λ e. (k, e)) (ternary_at v b) (ternary_at v' b) (After 7) 1 inside))

  pub line-dictionary : (o : Lexeme) → Line (dictionary U b o) (dictionary U' b o) (dictionary_at v b o) (dictionary_at v' b o) Any 0
  unfolding dictionary_at
  line-dictionary o = line-closed Kinds.CloseBrace (λ s. entry (ternary U b)) (λ s. entry (ternary U' b)) (λ s. entry_at (ternary_at v b)) (λ s. entry_at (ternary_at v' b)) same_state (λ es. DictionaryTree (entries es) o.line) (After 7) refl refl (λ ts b. after_kind Kinds.Comma 7 ts (lit≤ tt) b) (λ ts b. after_kind Kinds.CloseBrace 7 ts (lit≤ tt) b)
      (λ s. starts-bind (ternary U b) _ opens_expr starts-inside) (λ s. line-entry) tt

  -- ---- arguments

  line-name-value : (t : Lexeme) → Line {A = ArgumentTree} (token Kinds.Colon >>= λ c. ternary U b >>= λ e. give (Some t.text, e)) (token Kinds.Colon >>= λ c. ternary U' b >>= λ e. give (Some t.text, e))
      (bind_at (token_at Kinds.Colon) (λ c. bind_at (ternary_at v b) (λ e. give_at (Some t.text, e)))) (bind_at (token_at Kinds.Colon) (λ c. bind_at (ternary_at v' b) (λ e. give_at (Some t.text, e)))) (After 7) 0
  line-name-value t =
      line-stops _ _ _ _ (After 7) (After 7) 2 0 (λ ts st. st) (omega arith)
      (line-then (token Kinds.Colon) (token Kinds.Colon) _ _ (token_at Kinds.Colon) (token_at Kinds.Colon) _ _ (After 7) 1 1 (line-token Kinds.Colon) (λ c. line-map {B = ArgumentTree} (ternary U b) (ternary U' b) (λ e. (Some t.text, e)) (ternary_at v b) (ternary_at v' b) (After 7) 1 inside))

  line-positional : Line (positional (ternary U b)) (positional (ternary U' b)) (positional_at (ternary_at v b)) (positional_at (ternary_at v' b)) (After 7) 1
  unfolding positional_at
  line-positional = line-map (ternary U b) (ternary U' b) (λ e. (None, e)) (ternary_at v b) (ternary_at v' b) (After 7) 1 inside

  single : (t : Lexeme) (us : List Lexeme) → t.kind ≡ Kinds.Name → (a : ArgumentTree) × (positional (ternary U b)).spells a (t ∷ us) us
  single t us k = ((None, NameTree t.text t.line), (NameTree t.text t.line, us, single_ternary U b (NameTree t.text t.line) (t ∷ us) us ((u b).single t us k), (refl, refl)))

  -- what stands behind an argument
  abbrev pub AfterArgument : List Lexeme → Type 0
  AfterArgument ts = After 7 ts × (begins Kinds.Colon ts ≡ false)

  pub line-argument : (s : Bool) → Line (argument (ternary U b) s) (argument (ternary U' b) s) (argument_at (ternary_at v b) s) (argument_at (ternary_at v' b) s) AfterArgument 1
  unfolding argument_at named_at
  line-argument true =
      line-stops _ _ _ _ (After 7) AfterArgument (1 + 0) 1 (λ ts st. st.0) (omega arith)
      (line-then (token Kinds.Name) (token Kinds.Name) _ _ (token_at Kinds.Name) (token_at Kinds.Name) _ _ (After 7) 1 0 (line-token Kinds.Name) line-name-value)
  line-argument false = line-alike Kinds.Name Kinds.Colon _ _ (positional (ternary U b)) (positional (ternary U' b)) _ _ (positional_at (ternary_at v b)) (positional_at (ternary_at v' b)) AfterArgument (After 7)
      (λ t. starts-bind (token Kinds.Colon) _ (of_kind Kinds.Colon) (starts-token Kinds.Colon))
      (λ t. line-stops _ _ _ _ (After 7) AfterArgument 0 0 (λ ts st. st.0) (omega arith) (line-name-value t))
      line-positional single
      (λ us h. after_kind Kinds.Colon 7 us (lit≤ tt) h)
      (λ us st. (st.0, st.1))

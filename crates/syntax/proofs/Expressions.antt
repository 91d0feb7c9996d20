-- The lines of the grammar of expressions, from atoms to whole expressions.
use Rattle.std.proofs.Common.{◌≡◌, ℕ, zero, suc, ◌+◌, ◌<◌, Bool, true, false, List, [], ◌∷◌, Option, Some, None, refl, sym, ap, subst, ◌∙◌}
use Rattle.std.proofs.Common.{inl, inr, lit≤, arith}
use Rattle.syntax.specs.lexer.Lexeme.{Lexeme}
use Rattle.syntax.specs.lexer.Kinds.{is}
use Rattle.syntax.specs.declared.lexer.token.TokenKind.{TokenKind}
use Rattle.syntax.specs.declared.lexer.token.TokenKind.TheVariants as Kinds
use Rattle.syntax.specs.declared.tree.Prefix.{Prefix}
use Rattle.syntax.specs.declared.tree.Prefix.TheVariants as prefixes
use Rattle.syntax.specs.ExpressionTree.{ExpressionTree, NameTree, FunctionTree, MethodTree, IndexTree, PrefixTree, arguments}
use Rattle.syntax.specs.Form.{Form, token, give, ◌or◌}
use Rattle.syntax.specs.Parts.{Inner, Closed, Inside, here, here_at, form_after_token, stands_for}
use Rattle.syntax.specs.Expressions.{atom, call, ternary, dictionary, expr, group, in_parentheses, index, is_named, items, link, list}
use Rattle.syntax.specs.Expressions.{literal, literal_of, method, name, postfix, postfix_tree, prefix_expression, unary, unary_in, argument}
use Rattle.syntax.specs.Reading.{Reader, begins, token_at}
use Rattle.syntax.specs.ReadingExpressions.{argument_at, atom_at, base_at, call_at, ternary_at, dictionary_at, expr_at, group_at}
use Rattle.syntax.specs.ReadingExpressions.{in_parentheses_at, index_at, items_at, link_at, links_at, links_on, list_at, literal_at}
use Rattle.syntax.specs.ReadingExpressions.{method_at, name_at, postfix_at, prefixed_at, unary_at, unary_in_at}
use Rattle.syntax.proofs.Alike.{line-alike}
use Rattle.syntax.proofs.Atoms.{either, inside, line-argument, line-closed, line-dictionary, line-group, line-list, line-literal}
use Rattle.syntax.proofs.Atoms.{line-name, of_kind, starts-either, starts-weaker, starts-inside, starts-literal, starts-name}
use Rattle.syntax.proofs.Atoms.{AfterArgument}
use Rattle.syntax.proofs.Binding.{After, AfterExpression, after_kind, binding}
use Rattle.syntax.proofs.Chains.{line-map, line-then-many}
use Rattle.syntax.proofs.TernaryLines.{line-before}
use Rattle.syntax.proofs.Laws.{give_at}
use Rattle.syntax.proofs.Line.{Line, Any, line-choice, line-give, line-stops, line-then, line-token}
use Rattle.syntax.proofs.Numbers.{is-true}
use Rattle.syntax.proofs.Operators.{after_less, head_binds, head_ends}
use Rattle.syntax.proofs.Starts.{Starts, begins-head, starts-bind, starts-or, starts-token}
use Rattle.syntax.proofs.Steps.{IsInside, IsUnary, line-here, line-opened, opens_expr, starts-here, starts-opened}

-- ---- atoms

abbrev after_name : TokenKind → Bool
after_name = either (of_kind Kinds.OpenParenthesis) (either (of_kind Kinds.OpenBracket) (either (of_kind Kinds.OpenBrace) (stands_for literal_of)))

abbrev opens_atom : TokenKind → Bool
opens_atom = either (of_kind Kinds.Name) after_name

module _ (u : Inner) (b : Bool) where
  abbrev grouped : Form ExpressionTree
  grouped = form_after_token Kinds.OpenParenthesis u (λ e. group e b)

  abbrev listing : Form ExpressionTree
  listing = form_after_token Kinds.OpenBracket u (λ e. list e b)

  abbrev mapping : Form ExpressionTree
  mapping = form_after_token Kinds.OpenBrace u (λ e. dictionary e b)

  starts-mapping : Starts (mapping or literal) (either (of_kind Kinds.OpenBrace) (stands_for literal_of))
  starts-mapping = starts-either (of_kind Kinds.OpenBrace) (stands_for literal_of) mapping literal (starts-opened Kinds.OpenBrace (λ e. dictionary e b) u) starts-literal

  starts-listing : Starts (listing or (mapping or literal)) (either (of_kind Kinds.OpenBracket) (either (of_kind Kinds.OpenBrace) (stands_for literal_of)))
  starts-listing = starts-either (of_kind Kinds.OpenBracket) _ listing (mapping or literal) (starts-opened Kinds.OpenBracket (λ e. list e b) u) starts-mapping

  starts-grouped : Starts (grouped or (listing or (mapping or literal))) after_name
  starts-grouped = starts-either (of_kind Kinds.OpenParenthesis) _ grouped (listing or (mapping or literal)) (starts-opened Kinds.OpenParenthesis (λ e. group e b) u) starts-listing

  starts-atom : Starts (atom u b) opens_atom
  starts-atom = starts-either (of_kind Kinds.Name) after_name name (grouped or (listing or (mapping or literal))) starts-name starts-grouped

module _ (u u' : Inner) (v v' : Option (Bool → Reader ExpressionTree)) (h : IsInside u u' v v') (b : Bool) where
  line-atom : Line (atom u b) (atom u' b) (atom_at v b) (atom_at v' b) Any 1
  unfolding atom_at
  line-atom =
      line-choice Kinds.Name after_name name name _ _ name_at name_at _ _ Any 1 starts-name (starts-grouped u b) refl line-name
      (line-choice Kinds.OpenParenthesis (either (of_kind Kinds.OpenBracket) (either (of_kind Kinds.OpenBrace) (stands_for literal_of))) (grouped u b) (grouped u' b) _ _ _ _ _ _ Any 1 (starts-opened Kinds.OpenParenthesis (λ e. group e b) u) (starts-listing u b) refl
      (line-opened Kinds.OpenParenthesis (λ e. group e b) (λ e. group_at e b) Any (λ G G' s s' i. line-group G G' s s' i b) u u' v v' h)
      (line-choice Kinds.OpenBracket (either (of_kind Kinds.OpenBrace) (stands_for literal_of)) (listing u b) (listing u' b) _ _ _ _ _ _ Any 1 (starts-opened Kinds.OpenBracket (λ e. list e b) u) (starts-mapping u b) refl
      (line-opened Kinds.OpenBracket (λ e. list e b) (λ e. list_at e b) Any (λ G G' s s' i. line-list G G' s s' i b) u u' v v' h)
      (line-choice Kinds.OpenBrace (stands_for literal_of) (mapping u b) (mapping u' b) literal literal _ _ literal_at literal_at Any 1 (starts-opened Kinds.OpenBrace (λ e. dictionary e b) u) starts-literal refl
      (line-opened Kinds.OpenBrace (λ e. dictionary e b) (λ e. dictionary_at e b) Any (λ G G' s s' i. line-dictionary G G' s s' i b) u u' v v' h)
      line-literal)))

  single_name : (t : Lexeme) (us : List Lexeme) → t.kind ≡ Kinds.Name → (atom u b).spells (NameTree t.text t.line) (t ∷ us) us
  single_name t us k = inl (t, us, (refl, k), (refl, refl))

  -- ---- calls

  line-items : (G G' : Bool → Form ExpressionTree) (s s' : Bool → Reader ExpressionTree) → ((b : Bool) → IsUnary (G b) (G' b) (s b) (s' b)) → (o : Lexeme) → Line (items G b o) (items G' b o) (items_at s b o) (items_at s' b o) Any 0
  unfolding items_at
  line-items G G' s s' i o = line-closed Kinds.CloseParenthesis (argument (ternary G b)) (argument (ternary G' b)) (argument_at (ternary_at s b)) (argument_at (ternary_at s' b)) is_named (λ xs. xs) (AfterArgument G G' s s' i b) refl refl
      (λ ts c. (after_kind Kinds.Comma 7 ts (lit≤ tt) c, not_colon Kinds.Comma refl ts c)) (λ ts c. (after_kind Kinds.CloseParenthesis 7 ts (lit≤ tt) c, not_colon Kinds.CloseParenthesis refl ts c))
      starts_argument (line-argument G G' s s' i b) false
    where
      not_colon : (k : TokenKind) → is k Kinds.Colon ≡ false → (ts : List Lexeme) → begins k ts ≡ true → begins Kinds.Colon ts ≡ false
      not_colon k e [] c = refl
      not_colon k e (t ∷ ts) c = subst (λ (l : TokenKind). is l Kinds.Colon ≡ false) (sym (is-true t.kind k c)) e

      from_name : (k : TokenKind) → is k Kinds.Name ≡ true → opens_expr k ≡ true
      from_name k e = ap opens_expr (is-true k Kinds.Name e)

      starts_argument : (n : Bool) → Starts (argument (ternary G b) n) opens_expr
      starts_argument true = starts-weaker (of_kind Kinds.Name) opens_expr _ from_name (starts-bind (token Kinds.Name) _ (of_kind Kinds.Name) (starts-token Kinds.Name))
      starts_argument false = starts-or _ _ (of_kind Kinds.Name) opens_expr opens_expr (starts-bind (token Kinds.Name) _ (of_kind Kinds.Name) (starts-token Kinds.Name)) (starts-bind (ternary G b) _ opens_expr (starts-inside G G' s s' i b)) from_name (λ k e. e)

  line-in-parentheses : Line (in_parentheses u b) (in_parentheses u' b) (in_parentheses_at v b) (in_parentheses_at v' b) Any 1
  line-in-parentheses = line-opened Kinds.OpenParenthesis (λ e. items e b) (λ e. items_at e b) Any line-items u u' v v' h

  not_call : (ts : List Lexeme) → After 0 ts → begins Kinds.OpenParenthesis ts ≡ false
  not_call ts st = begins-head Kinds.OpenParenthesis ts ∙ head_ends (of_kind Kinds.OpenParenthesis) 0 call_ends ts st
    where
      call_ends : (k : TokenKind) → 0 < binding k → of_kind Kinds.OpenParenthesis k ≡ false
      call_ends Kinds.OpenParenthesis lt = absurd (omega arith)
      call_ends _ lt = refl

  line-base : Line (call (in_parentheses u b) or atom u b) (call (in_parentheses u' b) or atom u' b) (base_at v b) (base_at v' b) (After 0) 1
  unfolding base_at call_at
  line-base = line-alike Kinds.Name Kinds.OpenParenthesis _ _ (atom u b) (atom u' b) _ _ (atom_at v b) (atom_at v' b) (After 0) Any
      (λ t. starts-bind (in_parentheses u b) _ (of_kind Kinds.OpenParenthesis) (starts-opened Kinds.OpenParenthesis (λ e. items e b) u))
      (λ t. line-stops _ _ _ _ Any (After 0) 1 0 (λ ts st. tt) (omega arith) (line-map (in_parentheses u b) (in_parentheses u' b) (λ xs. FunctionTree t.text (arguments xs) t.line) (in_parentheses_at v b) (in_parentheses_at v' b) Any 1 line-in-parentheses))
      line-atom
      (λ t us k. (NameTree t.text t.line, single_name t us k))
      (λ us c. tt)
      (λ us st. (tt, not_call us st))

  -- ---- what is asked of a value

  line-method : Line (method (in_parentheses u b)) (method (in_parentheses u' b)) (method_at (in_parentheses_at v b)) (method_at (in_parentheses_at v' b)) Any 1
  unfolding method_at
  line-method = line-stops _ _ _ _ Any Any (1 + (1 + 1)) 1 (λ ts st. st) (omega arith)
      (line-then (token Kinds.Dot) (token Kinds.Dot) _ _ (token_at Kinds.Dot) (token_at Kinds.Dot) _ _ Any 1 (1 + 1) (line-token Kinds.Dot)
      (λ d. line-then (token Kinds.Name) (token Kinds.Name) _ _ (token_at Kinds.Name) (token_at Kinds.Name) _ _ Any 1 1 (line-token Kinds.Name)
      (λ t. line-map (in_parentheses u b) (in_parentheses u' b) (λ xs. MethodTree t.text (arguments xs)) (in_parentheses_at v b) (in_parentheses_at v' b) Any 1 line-in-parentheses)))

  line-index : (G G' : Bool → Form ExpressionTree) (s s' : Bool → Reader ExpressionTree) → ((b : Bool) → IsUnary (G b) (G' b) (s b) (s' b)) → (o : Lexeme) → Line (index G b o) (index G' b o) (index_at s b o) (index_at s' b o) Any 0
  unfolding index_at
  line-index G G' s s' i o =
      line-stops _ _ _ _ Any Any 1 0 (λ ts st. st) (omega arith)
      (line-before Kinds.CloseBracket 7 (ternary G b) (ternary G' b) (λ e c. give (IndexTree e)) (λ e c. give (IndexTree e)) (ternary_at s b) (ternary_at s' b) (λ e c. give_at (IndexTree e)) (λ e c. give_at (IndexTree e)) Any (lit≤ tt) (inside G G' s s' i b) (λ e c. line-give (IndexTree e) Any))

  starts-method : Starts (method (in_parentheses u b)) (of_kind Kinds.Dot)
  starts-method = starts-bind (token Kinds.Dot) _ (of_kind Kinds.Dot) (starts-token Kinds.Dot)

  starts-index : Starts (form_after_token Kinds.OpenBracket u (λ e. index e b)) (of_kind Kinds.OpenBracket)
  starts-index = starts-opened Kinds.OpenBracket (λ e. index e b) u

  line-link : Line (link u b) (link u' b) (link_at v b) (link_at v' b) Any 1
  unfolding link_at
  line-link = line-choice Kinds.Dot (of_kind Kinds.OpenBracket) (method (in_parentheses u b)) (method (in_parentheses u' b)) _ _ _ _ _ _ Any 1 starts-method starts-index refl line-method
      (line-opened Kinds.OpenBracket (λ e. index e b) (λ e. index_at e b) Any line-index u u' v v' h)

  starts-link : Starts (link u b) links_on
  starts-link = starts-either (of_kind Kinds.Dot) (of_kind Kinds.OpenBracket) _ _ starts-method starts-index

  links_bind : (k : TokenKind) → links_on k ≡ true → 0 < binding k
  links_bind Kinds.Dot e = lit≤ tt
  links_bind Kinds.OpenBracket e = lit≤ tt
  links_bind _ e = absurd cc

  links_end : (k : TokenKind) → 1 < binding k → links_on k ≡ false
  links_end Kinds.Dot lt = absurd (omega arith)
  links_end Kinds.OpenBracket lt = absurd (omega arith)
  links_end _ lt = refl

  line-postfix : Line (postfix u b) (postfix u' b) (postfix_at v b) (postfix_at v' b) (After 1) 1
  unfolding postfix_at links_at
  line-postfix =
      line-stops _ _ _ _ (After 1) (After 1) (0 + 1) 1 (λ ts st. st) (omega arith)
      (line-then here here _ _ here_at here_at _ _ (After 1) 0 1 line-here
      (λ line. line-then-many (link u b) (link u' b) (link_at v b) (link_at v' b) links_on Any starts-link line-link _ _ (base_at v b) (base_at v' b) (After 0) (After 1) line-base
      (λ ts c. (head_binds links_on 0 links_bind ts c, tt))
      (λ ts st. (head_ends links_on 1 links_end ts st, tt, after_less 1 0 (omega arith) ts st))
      (postfix_tree line)))

  starts-postfix : Starts (postfix u b) opens_atom
  starts-postfix = starts-here _ opens_atom (λ line. starts-bind _ _ opens_atom (starts-or (call (in_parentheses u b)) (atom u b) (of_kind Kinds.Name) opens_atom opens_atom
      (starts-bind (token Kinds.Name) _ (of_kind Kinds.Name) (starts-token Kinds.Name)) (starts-atom u b) (λ k e. ap opens_atom (is-true k Kinds.Name e)) (λ k e. e)))

  single_postfix : (t : Lexeme) (us : List Lexeme) → t.kind ≡ Kinds.Name → (postfix u b).spells (NameTree t.text t.line) (t ∷ us) us
  single_postfix t us k = (_, t ∷ us, (refl, refl), (NameTree t.text t.line, us, inr (single_name t us k), ([], us, refl, (refl, refl))))

  -- ---- prefix operators

  line-prefixed : (p : Prefix) (G G' : Bool → Form ExpressionTree) (s s' : Bool → Reader ExpressionTree) → ((b : Bool) → IsUnary (G b) (G' b) (s b) (s' b)) → (o : Lexeme) → Line (prefix_expression p G b o) (prefix_expression p G' b o) (prefixed_at p s b o) (prefixed_at p s' b o) (After 1) 0
  unfolding prefixed_at
  line-prefixed p G G' s s' i o = line-stops _ _ _ _ (After 1) (After 1) 1 0 (λ ts st. st) (omega arith) (line-map (G b) (G' b) (λ e. PrefixTree p e o.line) (s b) (s' b) (After 1) 1 (i b).line)

  abbrev negative : Inner → Form ExpressionTree
  negative w = form_after_token Kinds.Minus w (λ e. prefix_expression prefixes.Negative e b)

  abbrev negated : Inner → Form ExpressionTree
  negated w = form_after_token Kinds.Not w (λ e. prefix_expression prefixes.Not e b)

  starts-negative : Starts (negative u or postfix u b) (either (of_kind Kinds.Minus) opens_atom)
  starts-negative = starts-either (of_kind Kinds.Minus) opens_atom (negative u) (postfix u b) (starts-opened Kinds.Minus (λ e. prefix_expression prefixes.Negative e b) u) starts-postfix

  line-unary-in : Line (unary_in u b) (unary_in u' b) (unary_in_at v b) (unary_in_at v' b) (After 1) 1
  unfolding unary_in_at
  line-unary-in =
      line-choice Kinds.Not (either (of_kind Kinds.Minus) opens_atom) (negated u) (negated u') _ _ _ _ _ _ (After 1) 1 (starts-opened Kinds.Not (λ e. prefix_expression prefixes.Not e b) u) starts-negative refl
      (line-opened Kinds.Not (λ e. prefix_expression prefixes.Not e b) (λ e. prefixed_at prefixes.Not e b) (After 1) (line-prefixed prefixes.Not) u u' v v' h)
      (line-choice Kinds.Minus opens_atom (negative u) (negative u') (postfix u b) (postfix u' b) _ _ (postfix_at v b) (postfix_at v' b) (After 1) 1 (starts-opened Kinds.Minus (λ e. prefix_expression prefixes.Negative e b) u) starts-postfix refl
      (line-opened Kinds.Minus (λ e. prefix_expression prefixes.Negative e b) (λ e. prefixed_at prefixes.Negative e b) (After 1) (line-prefixed prefixes.Negative) u u' v v' h) line-postfix)

  atom_opens : (k : TokenKind) → opens_atom k ≡ true → opens_expr k ≡ true
  atom_opens Kinds.Name e = refl
  atom_opens Kinds.OpenParenthesis e = refl
  atom_opens Kinds.OpenBracket e = refl
  atom_opens Kinds.OpenBrace e = refl
  atom_opens Kinds.Not e = refl
  atom_opens Kinds.Minus e = refl
  atom_opens k e = e

  starts-unary-in : Starts (unary_in u b) opens_expr
  starts-unary-in = starts-or (negated u) _ (of_kind Kinds.Not) opens_expr opens_expr (starts-opened Kinds.Not (λ e. prefix_expression prefixes.Not e b) u)
      (starts-or (negative u) (postfix u b) (of_kind Kinds.Minus) opens_atom opens_expr (starts-opened Kinds.Minus (λ e. prefix_expression prefixes.Negative e b) u) starts-postfix (λ k e. ap opens_expr (is-true k Kinds.Minus e)) atom_opens)
      (λ k e. ap opens_expr (is-true k Kinds.Not e)) (λ k e. e)

  is-unary-in : IsUnary (unary_in u b) (unary_in u' b) (unary_in_at v b) (unary_in_at v' b)
  is-unary-in = record { line = line-unary-in; starts = starts-unary-in; single = λ t us k. inr (inr (single_postfix t us k)) }

-- ---- expressions

is-unary : (n : ℕ) (b : Bool) → IsUnary (unary n b) (unary (suc n) b) (unary_at n b) (unary_at (suc n) b)
unfolding unary unary_at
is-unary zero b = is-unary-in Closed (Inside (unary 0)) None (Some (unary_at 0)) tt b
is-unary (suc n) b = is-unary-in (Inside (unary n)) (Inside (unary (suc n))) (Some (unary_at n)) (Some (unary_at (suc n))) (is-unary n) b

pub line-expr : (n : ℕ) → Line (expr n) (expr (suc n)) (expr_at n) (expr_at (suc n)) AfterExpression 1
unfolding expr expr_at
line-expr n = inside (unary n) (unary (suc n)) (unary_at n) (unary_at (suc n)) (is-unary n) true

pub starts-expr : (n : ℕ) → Starts (expr n) opens_expr
unfolding expr
starts-expr n = starts-inside (unary n) (unary (suc n)) (unary_at n) (unary_at (suc n)) (is-unary n) true

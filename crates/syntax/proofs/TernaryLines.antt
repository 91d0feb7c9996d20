-- The lines from products to ternaries, over the unary expressions.
use Rattle.std.proofs.Common.{[], ◌≡◌, ℕ, ◌+◌, ◌≤◌, ◌<◌, Bool, true, false, List, Option, None, refl, ap, ◌∙◌, inl, inr, lit≤, arith}
use Rattle.std.specs.Option.{option_to_list}
use Rattle.syntax.specs.lexer.Lexeme.{Lexeme}
use Rattle.syntax.specs.lexer.Kinds.{is}
use Rattle.syntax.specs.declared.lexer.token.TokenKind.{TokenKind}
use Rattle.syntax.specs.declared.lexer.token.TokenKind.TheVariants as Kinds
use Rattle.syntax.specs.declared.tree.Operator.{Operator}
use Rattle.syntax.specs.declared.tree.Operator.TheVariants as operators
use Rattle.syntax.specs.ExpressionTree.{ExpressionTree}
use Rattle.syntax.specs.Form.{Form, token, give, ◌>>=◌}
use Rattle.syntax.specs.Parts.{here, here_at, stands_for, token_as, token_as_at}
use Rattle.syntax.specs.Expressions.{additive, comparative, conjunctive, disjunctive, multiplicative, chain, chain_tree, ternary_tree}
use Rattle.syntax.specs.Expressions.{product, sum, comparison, conjunction, disjunction, comparison_operand, comparison_operator, not_in, branches}
use Rattle.syntax.specs.Expressions.{ternary}
use Rattle.syntax.specs.Reading.{Reader, token_at}
use Rattle.syntax.specs.ReadingExpressions.{asks, branches_at, ternary_at, compared_at, compares, comparison_at, comparison_operator_at}
use Rattle.syntax.specs.ReadingExpressions.{conjunction_at, disjunction_at, not_in_at, plain_comparison_at, product_at, sum_at}
use Rattle.syntax.proofs.Binding.{After, after_kind, binding}
use Rattle.syntax.proofs.Chains.{line-either, line-map, line-then-optional}
use Rattle.syntax.proofs.Laws.{bind_at, give_at}
use Rattle.syntax.proofs.Line.{Line, Any, line-token, line-then, line-bind, line-stops, begins_token, begun_token}
use Rattle.syntax.proofs.Numbers.{is-true}
use Rattle.syntax.proofs.Operators.{after_less, head_binds, head_ends, line-chain, rank-additive, rank-conjunctive, rank-disjunctive}
use Rattle.syntax.proofs.Operators.{rank-multiplicative}
use Rattle.syntax.proofs.Starts.{Starts, begins-head, starts-bind, starts-or, starts-token}
use Rattle.syntax.proofs.Steps.{line-as, line-here, starts-as, starts-here}

-- ---- comparisons

compares_ends : (k : TokenKind) → 4 < binding k → compares k ≡ false
compares_ends Kinds.Equal lt = absurd (omega arith)
compares_ends Kinds.NotEqual lt = absurd (omega arith)
compares_ends Kinds.Less lt = absurd (omega arith)
compares_ends Kinds.LessOrEqual lt = absurd (omega arith)
compares_ends Kinds.Greater lt = absurd (omega arith)
compares_ends Kinds.GreaterOrEqual lt = absurd (omega arith)
compares_ends Kinds.In lt = absurd (omega arith)
compares_ends Kinds.Not lt = absurd (omega arith)
compares_ends _ lt = refl

compares_binds : (k : TokenKind) → compares k ≡ true → 4 ≤ binding k
compares_binds Kinds.Equal e = lit≤ tt
compares_binds Kinds.NotEqual e = lit≤ tt
compares_binds Kinds.Less e = lit≤ tt
compares_binds Kinds.LessOrEqual e = lit≤ tt
compares_binds Kinds.Greater e = lit≤ tt
compares_binds Kinds.GreaterOrEqual e = lit≤ tt
compares_binds Kinds.In e = lit≤ tt
compares_binds Kinds.Not e = lit≤ tt
compares_binds _ e = absurd cc

plain_compares : (k : TokenKind) → stands_for comparative k ≡ true → compares k ≡ true
plain_compares Kinds.Not e = refl
plain_compares k e = e

kind_is : (q : TokenKind → Bool) (k : TokenKind) (b : Bool) → q k ≡ b → (l : TokenKind) → is l k ≡ true → q l ≡ b
kind_is q k b e l h = ap q (is-true l k h) ∙ e

abbrev is_not : TokenKind → Bool
is_not l = is l Kinds.Not

abbrev plain_comparison : Form Operator
plain_comparison = token_as comparative >>= λ o. give o.0

line-plain-comparison : Line plain_comparison plain_comparison plain_comparison_at plain_comparison_at Any 1
unfolding plain_comparison_at
line-plain-comparison = line-map (token_as comparative) (token_as comparative) (λ o. o.0) (token_as_at comparative) (token_as_at comparative) Any 1 (line-as comparative)

line-not-in : Line not_in not_in not_in_at not_in_at Any 1
unfolding not_in_at
line-not-in = line-then (token Kinds.Not) (token Kinds.Not) (λ n. token Kinds.In >>= λ i. give operators.NotIn) (λ n. token Kinds.In >>= λ i. give operators.NotIn) (token_at Kinds.Not) (token_at Kinds.Not) (λ n. bind_at (token_at Kinds.In) (λ i. give_at operators.NotIn)) (λ n. bind_at (token_at Kinds.In) (λ i. give_at operators.NotIn)) Any 1 0
    (line-token Kinds.Not) (λ n. line-stops _ _ _ _ Any Any 1 0 (λ ts st. st) (omega arith) (line-map (token Kinds.In) (token Kinds.In) (λ i. operators.NotIn) (token_at Kinds.In) (token_at Kinds.In) Any 1 (line-token Kinds.In)))

starts-plain : Starts plain_comparison (stands_for comparative)
starts-plain = starts-bind (token_as comparative) _ (stands_for comparative) (starts-as comparative)

starts-not-in : Starts not_in is_not
starts-not-in = starts-bind (token Kinds.Not) _ is_not (starts-token Kinds.Not)

line-comparison-operator : Line comparison_operator comparison_operator comparison_operator_at comparison_operator_at Any 1
unfolding comparison_operator_at
line-comparison-operator = line-either (stands_for comparative) is_not plain_comparison plain_comparison not_in not_in plain_comparison_at plain_comparison_at not_in_at not_in_at Any 1 starts-plain starts-not-in
    (kind_is (stands_for comparative) Kinds.Not false refl) line-plain-comparison line-not-in

starts-comparison-operator : Starts comparison_operator compares
starts-comparison-operator = starts-or plain_comparison not_in (stands_for comparative) is_not compares starts-plain starts-not-in plain_compares (kind_is compares Kinds.Not true refl)

-- ---- the lines over the unary expressions

module _ (F F' : Form ExpressionTree) (r r' : Reader ExpressionTree) (u : Line F F' r r' (After 1) 1) where
  line-product : Line (product F) (product F') (product_at r) (product_at r') (After 2) 1
  unfolding product_at
  line-product = line-chain multiplicative 2 1 rank-multiplicative (lit≤ tt) F F' r r' u

  line-sum : Line (sum F) (sum F') (sum_at r) (sum_at r') (After 3) 1
  unfolding sum_at
  line-sum = line-chain additive 3 2 rank-additive (lit≤ tt) (product F) (product F') (product_at r) (product_at r') line-product

  line-compared : Line (comparison_operand (sum F)) (comparison_operand (sum F')) (compared_at (sum_at r)) (compared_at (sum_at r')) (After 3) 1
  unfolding compared_at
  line-compared =
      line-stops _ _ _ _ (After 3) (After 3) 2 1 (λ ts st. st) (omega arith)
      (line-then comparison_operator comparison_operator (λ o. sum F >>= λ e. give (o, e)) (λ o. sum F' >>= λ e. give (o, e)) comparison_operator_at comparison_operator_at (λ o. bind_at (sum_at r) (λ e. give_at (o, e))) (λ o. bind_at (sum_at r') (λ e. give_at (o, e))) (After 3) 1 1 line-comparison-operator
      (λ o. line-map (sum F) (sum F') (λ e. (o, e)) (sum_at r) (sum_at r') (After 3) 1 line-sum))

  line-comparison : Line (comparison F) (comparison F') (comparison_at r) (comparison_at r') (After 4) 1
  unfolding comparison_at
  line-comparison =
      line-stops _ _ _ _ (After 4) (After 4) (0 + 1) 1 (λ ts st. st) (omega arith)
      (line-then here here _ _ here_at here_at _ _ (After 4) 0 1 line-here
      (λ line. line-then-optional (comparison_operand (sum F)) (comparison_operand (sum F')) (compared_at (sum_at r)) (compared_at (sum_at r')) compares (After 3)
      (starts-bind comparison_operator _ compares starts-comparison-operator) line-compared (sum F) (sum F') (sum_at r) (sum_at r') (After 3) (After 4) line-sum
      (λ ts h. let a = head_binds compares 3 (λ k e. compares_binds k e) ts h in (a, a))
      (λ ts st. (head_ends compares 4 compares_ends ts st, after_less 4 3 (lit≤ tt) ts st, after_less 4 3 (lit≤ tt) ts st))
      (λ first o. chain_tree line first (option_to_list o))))

  line-conjunction : Line (conjunction F) (conjunction F') (conjunction_at r) (conjunction_at r') (After 5) 1
  unfolding conjunction_at
  line-conjunction = line-chain conjunctive 5 4 rank-conjunctive (lit≤ tt) (comparison F) (comparison F') (comparison_at r) (comparison_at r') line-comparison

  line-disjunction : Line (disjunction F) (disjunction F') (disjunction_at r) (disjunction_at r') (After 6) 1
  unfolding disjunction_at
  line-disjunction = line-chain disjunctive 6 5 rank-disjunctive (lit≤ tt) (conjunction F) (conjunction F') (conjunction_at r) (conjunction_at r') line-conjunction

starts-disjunction : (F : Form ExpressionTree) (p : TokenKind → Bool) → Starts F p → Starts (disjunction F) p
starts-disjunction F p s =
    starts-here _ p (λ l. starts-bind (conjunction F) _ p (starts-here _ p (λ l. starts-bind (comparison F) _ p (starts-here _ p (λ l. starts-bind (sum F) _ p (starts-here _ p (λ l. starts-bind (product F) _ p (starts-here _ p (λ l. starts-bind F _ p s)))))))))

-- ---- ternaries

-- a part that ends where a token of this kind comes
pub line-before : {A B : Type 0} (k : TokenKind) (rank : ℕ) (F F' : Form A) (G G' : A → Lexeme → Form B) (r r' : Reader A) (s s' : A → Lexeme → Reader B) (StopsG : List Lexeme → Type 0) → rank < binding k → Line F F' r r' (After rank) 1
    → ((a : A) (t : Lexeme) → Line (G a t) (G' a t) (s a t) (s' a t) StopsG 0)
    → Line (F >>= λ a. token k >>= G a) (F' >>= λ a. token k >>= G' a) (bind_at r (λ a. bind_at (token_at k) (s a))) (bind_at r' (λ a. bind_at (token_at k) (s' a))) StopsG 1
line-before k rank F F' G G' r r' s s' StopsG lt f g =
    line-stops _ _ _ _ StopsG StopsG 2 1 (λ ts st. st) (omega arith)
    (line-bind F F' (λ a. token k >>= G a) (λ a. token k >>= G' a) r r' (λ a. bind_at (token_at k) (s a)) (λ a. bind_at (token_at k) (s' a)) (After rank) StopsG 1 1 f
    (λ a. line-then (token k) (token k) (G a) (G' a) (token_at k) (token_at k) (s a) (s' a) StopsG 1 0 (line-token k) (g a))
    (λ a b ts rest h st. after_kind k rank ts lt (begins_token k (G a) b ts rest h))
    (λ a ts more h. elim (begun_token k (G a) ts more h) [ inl same ↦ inl same | inr head ↦ inr (after_kind k rank ts lt head) ]))

module _ (P P' : Form ExpressionTree) (q q' : Reader ExpressionTree) (part : Line P P' q q' (After 6) 1) where
  line-branches : Line (branches P) (branches P') (branches_at q) (branches_at q') (After 6) 1
  unfolding branches_at
  line-branches =
      line-stops _ _ _ _ (After 6) (After 6) 2 1 (λ ts st. st) (omega arith)
      (line-then (token Kinds.Question) (token Kinds.Question) _ _ (token_at Kinds.Question) (token_at Kinds.Question) _ _ (After 6) 1 1 (line-token Kinds.Question)
      (λ t. line-before Kinds.Colon 6 P P' (λ one c. P >>= λ other. give (one, other)) (λ one c. P' >>= λ other. give (one, other)) q q' (λ one c. bind_at q (λ other. give_at (one, other))) (λ one c. bind_at q' (λ other. give_at (one, other))) (After 6) (lit≤ tt) part
      (λ one c. line-stops _ _ _ _ (After 6) (After 6) 1 0 (λ ts st. st) (omega arith) (line-map P P' (λ other. (one, other)) q q' (After 6) 1 part))))

asks_ends : (k : TokenKind) → 7 < binding k → asks k ≡ false
asks_ends Kinds.Question lt = absurd (omega arith)
asks_ends _ lt = refl

module _ (U U' : Bool → Form ExpressionTree) (v v' : Bool → Reader ExpressionTree) (u : (b : Bool) → Line (U b) (U' b) (v b) (v' b) (After 1) 1) where
  pub line-ternary : (b : Bool) → Line (ternary U b) (ternary U' b) (ternary_at v b) (ternary_at v' b) (After 7) 1
  unfolding ternary_at
  line-ternary false = line-stops (disjunction (U false)) (disjunction (U' false)) (disjunction_at (v false)) (disjunction_at (v' false)) (After 6) (After 7) 1 1 (after_less 7 6 (lit≤ tt)) (omega arith) (line-disjunction (U false) (U' false) (v false) (v' false) (u false))
  line-ternary true =
      let plain = line-disjunction (U false) (U' false) (v false) (v' false) (u false) in
      line-stops _ _ _ _ (After 7) (After 7) (0 + 1) 1 (λ ts st. st) (omega arith)
      (line-then here here _ _ here_at here_at _ _ (After 7) 0 1 line-here
      (λ line. line-then-optional (branches (disjunction (U false))) (branches (disjunction (U' false))) (branches_at (disjunction_at (v false))) (branches_at (disjunction_at (v' false))) asks (After 6)
      (starts-bind (token Kinds.Question) _ asks (starts-token Kinds.Question)) (line-branches _ _ _ _ plain) (disjunction (U true)) (disjunction (U' true)) (disjunction_at (v true)) (disjunction_at (v' true)) (After 6) (After 7)
      (line-disjunction (U true) (U' true) (v true) (v' true) (u true))
      (λ ts h. let a = after_kind Kinds.Question 6 ts (lit≤ tt) (begins-head Kinds.Question ts ∙ h) in (a, a))
      (λ ts st. (head_ends asks 7 asks_ends ts st, after_less 7 6 (lit≤ tt) ts st, after_less 7 6 (lit≤ tt) ts st))
      (ternary_tree line)))

pub starts-ternary : (U : Bool → Form ExpressionTree) (p : TokenKind → Bool) → ((b : Bool) → Starts (U b) p) → (b : Bool) → Starts (ternary U b) p
starts-ternary U p s false = starts-disjunction (U false) p (s false)
starts-ternary U p s true = starts-here _ p (λ l. starts-bind (disjunction (U true)) _ p (starts-disjunction (U true) p (s true)))

-- ---- a name alone

single_chain : (f : TokenKind → Option Operator) (F : Form ExpressionTree) (a : ExpressionTree) (ts rest : List Lexeme) → F.spells a ts rest → (chain f F).spells a ts rest
single_chain f F a ts rest h = (_, ts, (refl, refl), (a, rest, h, ([], rest, refl, (refl, refl))))

single_disjunction : (F : Form ExpressionTree) (a : ExpressionTree) (ts rest : List Lexeme) → F.spells a ts rest → (disjunction F).spells a ts rest
single_disjunction F a ts rest h =
    let s = single_chain additive (product F) a ts rest (single_chain multiplicative F a ts rest h) in
    let c : (comparison F).spells a ts rest = (_, ts, (refl, refl), (a, rest, s, (None, rest, inr (refl, refl), (refl, refl)))) in
    single_chain disjunctive (conjunction F) a ts rest (single_chain conjunctive (comparison F) a ts rest c)

pub single_ternary : (U : Bool → Form ExpressionTree) (b : Bool) (a : ExpressionTree) (ts rest : List Lexeme) → (U b).spells a ts rest → (ternary U b).spells a ts rest
single_ternary U false a ts rest h = single_disjunction (U false) a ts rest h
single_ternary U true a ts rest h = (_, ts, (refl, refl), (a, rest, single_disjunction (U true) a ts rest h, (None, rest, inr (refl, refl), (refl, refl))))

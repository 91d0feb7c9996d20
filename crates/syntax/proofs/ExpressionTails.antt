-- What the functions that read expressions answer, case by case.
use Rattle.std.proofs.Common.{◌⊎◌, ◌&&◌, ◌||◌, subst, inl, inr, take, drop, get_or, Bool, Option, Some, None, ◌≡◌, ℕ, zero, suc, ◌-◌}
use Rattle.std.proofs.Common.{◌≤◌, ◌<◌, true, false, List, [], ◌∷◌, length, Result, Ok, Err, refl, sym, ap, ◌∙◌, arith, sub-one}
use Rattle.syntax.specs.declared.lexer.token.TokenKind.{TokenKind}
use Rattle.syntax.specs.declared.lexer.token.Token.{Token}
use Rattle.syntax.specs.declared.lexer.token.TokenKind.TheVariants as Kinds
use Rattle.syntax.specs.declared.stop.ParseStop.{ParseStop}
use Rattle.syntax.specs.declared.stop.ParseStop.TheVariants.{Unexpected, TooDeep}
use Rattle.syntax.specs.declared.stop.ReadError.{ReadError}
use Rattle.syntax.specs.declared.stop.ReadError.TheVariants as errors
use Rattle.syntax.specs.lexer.Kinds.{is}
use Rattle.syntax.specs.lexer.Lexeme.{Lexeme, lexemes}
use Rattle.syntax.specs.ExpressionTree.{ArgumentTree, ChainTree, ExpressionTree}
use Rattle.syntax.specs.ExpressionTree.{LinkTree, OperandTree, PostfixTree, TernaryTree}
use Rattle.syntax.specs.ExpressionTree.{links, operands}
use Rattle.syntax.specs.declared.tree.Prefix.{Prefix}
use Rattle.syntax.specs.declared.tree.Prefix.TheVariants as prefixes
use Rattle.syntax.proofs.Laws.{cases_bool, cases_result}
use Rattle.syntax.proofs.Gathered.{head_long, many_none}
use Rattle.syntax.proofs.Loops.{many_some}
use Rattle.syntax.proofs.Numbers.{is-true}
use Rattle.syntax.proofs.Starts.{begins-head}
use Rattle.syntax.specs.Reading.{Reader, ◌>>=◌, Fails, begins, deep_at, head_is, optional_at, or_at, token_at, two_begin}
use Rattle.syntax.specs.declared.parser.expression.Rank.{Rank}
use Rattle.syntax.specs.declared.parser.expression.Rank.TheVariants as ranks
use Rattle.std.specs.Option.{is_some}
use Rattle.syntax.specs.declared.tree.Operator.{Operator}
use Rattle.syntax.specs.Expressions.{comparative, ternary_tree}
use Rattle.syntax.specs.Parts.{after_as, first_line, opened_at, stands_for, taken_token, token_as_at}
use Rattle.syntax.specs.ReadingExpressions.{argument_at, atom_at, base_at, branches_at, call_at, chain_at, ternary_at}
use Rattle.syntax.specs.ReadingExpressions.{comparison_operator_at, dictionary_at, disjunction_at, enter_at, entered_at}
use Rattle.syntax.specs.ReadingExpressions.{group_at, index_at, inner_at, items_at, link_at, list_at, label_at, links_at, links_on}
use Rattle.syntax.specs.ReadingExpressions.{method_at, name_colon_at, named_at, not_in_at, operand_at, operands_at, plain_comparison_at}
use Rattle.syntax.specs.ReadingExpressions.{positional_at, postfix_at, prefix_of, prefixed_at, single_at, unary_at, unary_in_at, word_of}
use Rattle.syntax.proofs.Steps.{cases_option}
use Rattle.syntax.proofs.Tails.{fails_at, length_lexemes, rest_is}

-- ---- tokens that stand for something

pub some_same : {B : Type 0} (x y : B) → ◌≡◌ {A = Option B} (Some x) (Some y) → x ≡ y
some_same x y e = cc

pub some_none : {B : Type 0} (x : B) → ◌≡◌ {A = Option B} (Some x) None → ⊥
some_none x e = cc

module _ {B : Type 0} (f : TokenKind → Option B) where
  pub taken_end : (ts : List Token) → length ts < 1 → (None, lexemes ts) ≡ taken_token f (lexemes ts)
  unfolding taken_token
  taken_end [] lt = refl
  taken_end (t ∷ ts) lt = absurd (omega arith)

  pub taken_missing : (ts : List Token) (d : Token) → 1 ≤ length ts → f (get_or ts 0 d).kind ≡ None → (None, lexemes ts) ≡ taken_token f (lexemes ts)
  unfolding taken_token
  taken_missing [] d le e = absurd (omega arith)
  taken_missing (t ∷ ts) d le e = rw e refl

  pub taken_found : (ts : List Token) (d : Token) (x : B) → 1 ≤ length ts → f (get_or ts 0 d).kind ≡ Some x → (Some x, lexemes (take (length ts - 1) (drop 1 ts))) ≡ taken_token f (lexemes ts)
  unfolding taken_token
  taken_found [] d x le e = absurd (omega arith)
  taken_found (t ∷ ts) d x le e = rw e (ap (λ (us : List Token). (Some x, lexemes us)) (sym (rest_is t ts)))

  -- what was taken
  pub taken_some : (x : B) (ts rest : List Lexeme) → (Some x, rest) ≡ taken_token f ts → (t : Lexeme) × (token_as_at f ts ≡ Ok ((x, t), rest)) × (head_is (stands_for f) ts ≡ true)
  unfolding taken_token token_as_at
  taken_some x [] rest e = absurd (some_none x (ap (λ (p : Option B × List Lexeme). p.0) e))
  taken_some x (t ∷ ts) rest e = elim (cases_option (f t.kind)) [
    | inl n ↦ absurd (some_none x (ap (λ (p : Option B × List Lexeme). p.0) (e ∙ ap (λ (o : Option B). after_as o t ts) n)))
    | inr w ↦
        let e2 : ◌≡◌ {A = Option B × List Lexeme} (Some x, rest) (Some w.0, ts) = e ∙ ap (λ (o : Option B). after_as o t ts) w.1 in
        let same : ◌≡◌ {A = Option B} (Some x) (Some w.0) = ap (λ (p : Option B × List Lexeme). p.0) e2 in
        let here : f t.kind ≡ Some x = w.1 ∙ sym same in
        (t, rw here (ap (λ (us : List Lexeme). Ok ((x, t), us)) (sym (ap (λ (p : Option B × List Lexeme). p.1) e2))), ap is_some here)
  ]

  pub taken_none : (ts rest : List Lexeme) → (None, rest) ≡ taken_token f ts → (rest ≡ ts) × (head_is (stands_for f) ts ≡ false)
  unfolding taken_token
  taken_none [] rest e = (ap (λ (p : Option B × List Lexeme). p.1) e, refl)
  taken_none (t ∷ ts) rest e = elim (cases_option (f t.kind)) [
    | inl n ↦ (ap (λ (p : Option B × List Lexeme). p.1) (e ∙ ap (λ (o : Option B). after_as o t ts) n), ap is_some n)
    | inr w ↦ absurd (some_none w.0 (sym (ap (λ (p : Option B × List Lexeme). p.0) (e ∙ ap (λ (o : Option B). after_as o t ts) w.1))))
  ]

pub taken_other : {B : Type 0} (f : TokenKind → Option B) (o : Option B) (ts rest : List Lexeme) → (o, rest) ≡ taken_token f ts → o ≡ None → (rest ≡ ts) × (head_is (stands_for f) ts ≡ false)
taken_other f o ts rest e n = taken_none f ts rest (ap (λ (p : Option _). (p, rest)) (sym n) ∙ e)

pub comparison_plain : (o : Option Operator) (x : Operator) (ts rest : List Lexeme) → (o, rest) ≡ taken_token comparative ts → o ≡ Some x → comparison_operator_at ts ≡ Ok (x, rest)
unfolding comparison_operator_at or_at plain_comparison_at
comparison_plain o x ts rest e s = let w = taken_some comparative x ts rest (ap (λ (p : Option Operator). (p, rest)) (sym s) ∙ e) in rw (w.2, w.1) refl

pub comparison_other : (o : Option Operator) (ts rest : List Lexeme) → (o, rest) ≡ taken_token comparative ts → o ≡ None → comparison_operator_at ts ≡ not_in_at rest
unfolding comparison_operator_at or_at
comparison_other o ts rest e n = let w = taken_other comparative o ts rest e n in rw w.1 (ap not_in_at (sym w.0))

pub taken_head : {B : Type 0} (f : TokenKind → Option B) (o : Option B) (x : B) (ts rest : List Lexeme) → (o, rest) ≡ taken_token f ts → o ≡ Some x → head_is (stands_for f) ts ≡ true
taken_head f o x ts rest e s = (taken_some f x ts rest (ap (λ (p : Option _). (p, rest)) (sym s) ∙ e)).2

pub operand_reads : (f : TokenKind → Option Operator) (part : Reader ExpressionTree) (o : Option Operator) (x : Operator) (ts mid : List Lexeme) (a : ExpressionTree) (rest : List Lexeme)
    → (o, mid) ≡ taken_token f ts → o ≡ Some x → part mid ≡ Ok (a, rest) → operand_at f part ts ≡ Ok ((x, a), rest)
unfolding operand_at
operand_reads f part o x ts mid a rest e s h = let w = taken_some f x ts mid (ap (λ (p : Option Operator). (p, mid)) (sym s) ∙ e) in rw (w.1, h) refl

pub operand_fails : (f : TokenKind → Option Operator) (part : Reader ExpressionTree) (o : Option Operator) (x : Operator) (ts mid : List Lexeme) (d : ReadError)
    → (o, mid) ≡ taken_token f ts → o ≡ Some x → Fails d (part mid) → Fails d (operand_at f part ts)
unfolding operand_at
operand_fails f part o x ts mid errors.Memory e s h = tt
operand_fails f part o x ts mid (errors.Stop d) e s h = let w = taken_some f x ts mid (ap (λ (p : Option Operator). (p, mid)) (sym s) ∙ e) in rw (w.1, h) refl

-- ---- chains and ternaries

pub chain_alone : (f : TokenKind → Option Operator) (part : Reader ExpressionTree) (ts : List Lexeme) (a : ExpressionTree) (mid : List Lexeme)
    → part ts ≡ Ok (a, mid) → head_is (stands_for f) mid ≡ false → chain_at f part ts ≡ Ok (a, mid)
unfolding chain_at operands_at
chain_alone f part ts a mid h b = rw (h, many_none (head_is (stands_for f)) (operand_at f part) (length mid) mid b) refl

pub chain_more : (f : TokenKind → Option Operator) (part : Reader ExpressionTree) (ts : List Lexeme) (a : ExpressionTree) (mid : List Lexeme)
    (os : List OperandTree) (rest : List Lexeme) → part ts ≡ Ok (a, mid) → head_is (stands_for f) mid ≡ true
    → operands_at f part mid ≡ Ok (os, rest) → chain_at f part ts ≡ Ok (ChainTree a (operands os) (first_line ts), rest)
unfolding chain_at operands_at
chain_more f part ts a mid os rest h b e =
    let w = many_some (head_is (stands_for f)) (operand_at f part) mid os rest b (head_long (stands_for f) mid b) e in
    rw (h, e, w.2) refl

module _ (u : Bool → Reader ExpressionTree) (b : Bool) (ts : List Lexeme) where
  abbrev asked : Bool → Result (ExpressionTree × List Lexeme) ParseStop
  asked z = disjunction_at (u z) ts >>= λ test. optional_at (λ us. z && begins Kinds.Question us) (branches_at (disjunction_at (u false))) test.1
      >>= λ rest. Ok (ternary_tree (first_line ts) test.0 rest.0, rest.1)

  any_of : ternary_at u true ts ≡ asked true
  unfolding ternary_at optional_at or_at
  any_of = elim (cases_result (disjunction_at (u true) ts)) [
    | inl x ↦ rw (x.1, begins-head Kinds.Question x.0.1) refl
    | inr d ↦ rw d.1 refl
  ]

  none_of : ternary_at u false ts ≡ asked false
  unfolding ternary_at optional_at or_at
  none_of = elim (cases_result (disjunction_at (u false) ts)) [ inl x ↦ rw x.1 refl | inr d ↦ rw d.1 refl ]

  test_of : ternary_at u b ts ≡ asked b
  test_of = elim b as (λ z. ternary_at u z ts ≡ asked z) [ true ↦ any_of | false ↦ none_of ]

  pub ternary_test_fails : (d : ReadError) → Fails d (disjunction_at (u b) ts) → Fails d (ternary_at u b ts)
  ternary_test_fails errors.Memory h = tt
  ternary_test_fails (errors.Stop f) h = test_of ∙ rw h refl

  pub ternary_alone : (a : ExpressionTree) (mid : List Lexeme) → disjunction_at (u b) ts ≡ Ok (a, mid) → (b && begins Kinds.Question mid) ≡ false
      → ternary_at u b ts ≡ Ok (a, mid)
  unfolding optional_at or_at
  ternary_alone a mid h e = test_of ∙ rw (h, e) refl

  module _ (a : ExpressionTree) (mid : List Lexeme) (h : disjunction_at (u b) ts ≡ Ok (a, mid)) (e : (b && begins Kinds.Question mid) ≡ true) where
    pub ternary_branches_fail : (d : ReadError) → Fails d (branches_at (disjunction_at (u false)) mid) → Fails d (ternary_at u b ts)
    unfolding optional_at or_at
    ternary_branches_fail errors.Memory g = tt
    ternary_branches_fail (errors.Stop f) g = test_of ∙ rw (h, e, g) refl

    pub ternary_asks : (one other : ExpressionTree) (rest : List Lexeme) → branches_at (disjunction_at (u false)) mid ≡ Ok ((one, other), rest)
        → ternary_at u b ts ≡ Ok (TernaryTree a one other (first_line ts), rest)
    unfolding optional_at or_at
    ternary_asks one other rest g = test_of ∙ rw (h, e, g) refl

-- ---- the branches of a ternary

module _ (part : Reader ExpressionTree) (ts : List Lexeme) where
  pub question_fails : (d : ReadError) → Fails d (token_at Kinds.Question ts) → Fails d (branches_at part ts)
  unfolding branches_at
  question_fails errors.Memory g = tt
  question_fails (errors.Stop f) g = rw g refl

  module _ (q : Lexeme) (one_from : List Lexeme) (g : token_at Kinds.Question ts ≡ Ok (q, one_from)) where
    pub one_fails : (d : ReadError) → Fails d (part one_from) → Fails d (branches_at part ts)
    unfolding branches_at
    one_fails errors.Memory k = tt
    one_fails (errors.Stop f) k = rw (g, k) refl

    module _ (one : ExpressionTree) (behind : List Lexeme) (k : part one_from ≡ Ok (one, behind)) where
      pub branches_colon_fails : (d : ReadError) → Fails d (token_at Kinds.Colon behind) → Fails d (branches_at part ts)
      unfolding branches_at
      branches_colon_fails errors.Memory m = tt
      branches_colon_fails (errors.Stop f) m = rw (g, k, m) refl

      module _ (c : Lexeme) (other_from : List Lexeme) (m : token_at Kinds.Colon behind ≡ Ok (c, other_from)) where
        pub other_fails : (d : ReadError) → Fails d (part other_from) → Fails d (branches_at part ts)
        unfolding branches_at
        other_fails errors.Memory o = tt
        other_fails (errors.Stop f) o = rw (g, k, m, o) refl

        pub branches_read : (other : ExpressionTree) (rest : List Lexeme) → part other_from ≡ Ok (other, rest)
            → branches_at part ts ≡ Ok ((one, other), rest)
        unfolding branches_at
        branches_read other rest o = rw (g, k, m, o) refl

-- ---- what opens a level

module _ {A : Type 0} (k : TokenKind) (f : (Bool → Reader ExpressionTree) → Lexeme → Reader A) where
  pub opened_entered : (n : ℕ) (ts : List Lexeme) → opened_at k (inner_at n) f ts ≡ entered_at k n f ts
  unfolding opened_at entered_at enter_at deep_at
  opened_entered zero ts = elim (cases_bool (begins k ts)) [ inl b ↦ rw b refl | inr b ↦ rw b refl ]
  opened_entered (suc n) ts = elim (cases_result (token_at k ts)) [ inl x ↦ rw x.1 refl | inr d ↦ rw d.1 refl ]

  pub opened_is : (n : ℕ) → opened_at k (inner_at n) f ≡ entered_at k n f
  opened_is n = λ i ts. opened_entered n ts i

pub enter_found : (k : TokenKind) (n : ℕ) (ts : List Lexeme) (t : Lexeme) (rest : List Lexeme) → 0 < n → token_at k ts ≡ Ok (t, rest) → enter_at k n ts ≡ Ok ((t, n - 1), rest)
unfolding enter_at
enter_found k zero ts t rest lt e = absurd (omega arith)
enter_found k (suc n) ts t rest lt e = rw (e, sub-one) refl

pub enter_fails : (k : TokenKind) (n : ℕ) (ts : List Lexeme) (e : ReadError) → 0 < n → Fails e (token_at k ts) → Fails e (enter_at k n ts)
unfolding enter_at
enter_fails k n ts errors.Memory lt h = tt
enter_fails k zero ts (errors.Stop f) lt h = absurd (omega arith)
enter_fails k (suc n) ts (errors.Stop f) lt h = rw h refl

pub enter_deep : (k : TokenKind) (n : ℕ) (ts : List Token) → n ≤ 0 → begins k (lexemes ts) ≡ true → enter_at k n (lexemes ts) ≡ Err (TooDeep (length ts))
unfolding enter_at deep_at
enter_deep k zero ts le b = rw b (ap (λ (m : ℕ). Err (TooDeep m)) (length_lexemes ts))
enter_deep k (suc n) ts le b = absurd (omega arith)

pub enter_missing : (k : TokenKind) (n : ℕ) (ts : List Token) → n ≤ 0 → begins k (lexemes ts) ≡ false → enter_at k n (lexemes ts) ≡ Err (Unexpected (length ts))
unfolding enter_at deep_at
enter_missing k zero ts le b = rw b (ap (λ (m : ℕ). Err (Unexpected m)) (length_lexemes ts))
enter_missing k (suc n) ts le b = absurd (omega arith)

-- ---- atoms

-- a token of one kind is none of another
begins_other : (k l : TokenKind) → is k l ≡ false → (ts : List Lexeme) → begins k ts ≡ true → begins l ts ≡ false
begins_other k l other [] e = refl
begins_other k l other (t ∷ ts) e = subst (λ (m : TokenKind). is m l ≡ false) (sym (is-true t.kind k e)) other

module _ (n : ℕ) (b : Bool) (ts : List Lexeme) where
  pub base_call : two_begin Kinds.Name Kinds.OpenParenthesis ts ≡ true → base_at (inner_at n) b ts ≡ call_at (entered_at Kinds.OpenParenthesis n (λ e. items_at e b)) ts
  unfolding base_at or_at
  base_call e = rw e (ap (λ (q : Reader (List ArgumentTree)). call_at q ts) (opened_is Kinds.OpenParenthesis (λ e. items_at e b) n))

  module _ (no_call : two_begin Kinds.Name Kinds.OpenParenthesis ts ≡ false) where
    base_atom : base_at (inner_at n) b ts ≡ atom_at (inner_at n) b ts
    unfolding base_at or_at
    base_atom = rw no_call

    pub atom_group : begins Kinds.OpenParenthesis ts ≡ true
        → base_at (inner_at n) b ts ≡ entered_at Kinds.OpenParenthesis n (λ e. group_at e b) ts
    unfolding atom_at or_at
    atom_group f =
        base_atom ∙ rw (begins_other Kinds.OpenParenthesis Kinds.Name refl ts f, f)
        (opened_entered Kinds.OpenParenthesis (λ e. group_at e b) n ts)

    pub atom_list : begins Kinds.OpenParenthesis ts ≡ false → begins Kinds.OpenBracket ts ≡ true
        → base_at (inner_at n) b ts ≡ entered_at Kinds.OpenBracket n (λ e. list_at e b) ts
    unfolding atom_at or_at
    atom_list f g =
        base_atom ∙ rw (begins_other Kinds.OpenBracket Kinds.Name refl ts g, f, g)
        (opened_entered Kinds.OpenBracket (λ e. list_at e b) n ts)

    pub atom_dictionary : begins Kinds.OpenParenthesis ts ≡ false → begins Kinds.OpenBracket ts ≡ false → begins Kinds.OpenBrace ts ≡ true
        → base_at (inner_at n) b ts ≡ entered_at Kinds.OpenBrace n (λ e. dictionary_at e b) ts
    unfolding atom_at or_at
    atom_dictionary f g h =
        base_atom ∙ rw (begins_other Kinds.OpenBrace Kinds.Name refl ts h, f, g, h)
        (opened_entered Kinds.OpenBrace (λ e. dictionary_at e b) n ts)

    pub atom_single : begins Kinds.OpenParenthesis ts ≡ false → begins Kinds.OpenBracket ts ≡ false → begins Kinds.OpenBrace ts ≡ false
        → base_at (inner_at n) b ts ≡ single_at ts
    unfolding atom_at or_at single_at
    atom_single f g h = base_atom ∙ elim (cases_bool (begins Kinds.Name ts)) [ inl y ↦ rw y refl | inr m ↦ rw (m, f, g, h) refl ]

  pub link_method : begins Kinds.Dot ts ≡ true → link_at (inner_at n) b ts ≡ method_at (entered_at Kinds.OpenParenthesis n (λ e. items_at e b)) ts
  unfolding link_at or_at
  link_method e = rw e (ap (λ (q : Reader (List ArgumentTree)). method_at q ts) (opened_is Kinds.OpenParenthesis (λ e. items_at e b) n))

  pub link_index : begins Kinds.Dot ts ≡ false → link_at (inner_at n) b ts ≡ entered_at Kinds.OpenBracket n (λ e. index_at e b) ts
  unfolding link_at or_at
  link_index e = rw e (opened_entered Kinds.OpenBracket (λ e. index_at e b) n ts)

unary_inner : (n : ℕ) (b : Bool) (ts : List Lexeme) → unary_at n b ts ≡ unary_in_at (inner_at n) b ts
unfolding unary_at
unary_inner zero b ts = refl
unary_inner (suc n) b ts = refl

module _ (n : ℕ) (b : Bool) (ts : List Lexeme) where
  unary_not : begins Kinds.Not ts ≡ true → unary_at n b ts ≡ entered_at Kinds.Not n (λ e. prefixed_at prefixes.Not e b) ts
  unfolding unary_in_at or_at
  unary_not e = unary_inner n b ts ∙ rw e (opened_entered Kinds.Not (λ e. prefixed_at prefixes.Not e b) n ts)

  unary_minus : begins Kinds.Not ts ≡ false → begins Kinds.Minus ts ≡ true → unary_at n b ts ≡ entered_at Kinds.Minus n (λ e. prefixed_at prefixes.Negative e b) ts
  unfolding unary_in_at or_at
  unary_minus e f = unary_inner n b ts ∙ rw (e, f) (opened_entered Kinds.Minus (λ e. prefixed_at prefixes.Negative e b) n ts)

  unary_other : begins Kinds.Not ts ≡ false → begins Kinds.Minus ts ≡ false → unary_at n b ts ≡ postfix_at (inner_at n) b ts
  unfolding unary_in_at or_at
  unary_other e f = unary_inner n b ts ∙ rw (e, f) refl

  pub unary_prefixed : (p : Prefix) → prefix_of ts ≡ Some p → unary_at n b ts ≡ entered_at (word_of p) n (λ e. prefixed_at p e b) ts
  unary_prefixed p e = elim (cases_bool (begins Kinds.Not ts)) [
    | inl y ↦ let same : prefixes.Not ≡ p = some_same _ _ (sym (rw y refl) ∙ e) in
        subst (λ (q : Prefix). unary_at n b ts ≡ entered_at (word_of q) n (λ i. prefixed_at q i b) ts) same (unary_not y)
    | inr m ↦ elim (cases_bool (begins Kinds.Minus ts)) [
      | inl y ↦ let same : prefixes.Negative ≡ p = some_same _ _ (sym (rw (m, y) refl) ∙ e) in
          subst (λ (q : Prefix). unary_at n b ts ≡ entered_at (word_of q) n (λ i. prefixed_at q i b) ts) same (unary_minus m y)
      | inr o ↦ absurd (some_none p (sym e ∙ rw (m, o) refl))
    ]
  ]

  pub unary_postfix : prefix_of ts ≡ None → unary_at n b ts ≡ postfix_at (inner_at n) b ts
  unary_postfix e = elim (cases_bool (begins Kinds.Not ts)) [
    | inl y ↦ absurd (some_none prefixes.Not (sym (rw y refl) ∙ e))
    | inr m ↦ elim (cases_bool (begins Kinds.Minus ts)) [
      | inl y ↦ absurd (some_none prefixes.Negative (sym (rw (m, y) refl) ∙ e))
      | inr o ↦ unary_other m o
    ]
  ]

-- ---- a value and what is asked of it

module _ (u : Option (Bool → Reader ExpressionTree)) (b : Bool) (ts : List Lexeme) where
  pub postfix_base_fails : (d : ReadError) → Fails d (base_at u b ts) → Fails d (postfix_at u b ts)
  unfolding postfix_at
  postfix_base_fails errors.Memory h = tt
  postfix_base_fails (errors.Stop f) h = rw h refl

  module _ (a : ExpressionTree) (mid : List Lexeme) (h : base_at u b ts ≡ Ok (a, mid)) where
    pub postfix_alone : head_is links_on mid ≡ false → postfix_at u b ts ≡ Ok (a, mid)
    unfolding postfix_at links_at
    postfix_alone e = rw (h, many_none (head_is links_on) (link_at u b) (length mid) mid e) refl

    pub postfix_links_fail : (d : ReadError) → Fails d (links_at u b mid) → Fails d (postfix_at u b ts)
    unfolding postfix_at
    postfix_links_fail errors.Memory e = tt
    postfix_links_fail (errors.Stop f) e = rw (h, e) refl

    pub postfix_more : (ls : List LinkTree) (rest : List Lexeme) → head_is links_on mid ≡ true → links_at u b mid ≡ Ok (ls, rest)
        → postfix_at u b ts ≡ Ok (PostfixTree a (links ls) (first_line ts), rest)
    unfolding postfix_at links_at
    postfix_more ls rest e g =
        let w = many_some (head_is links_on) (link_at u b) mid ls rest e (head_long links_on mid e) g in
        rw (h, g, w.2) refl

-- ---- arguments

module _ (s : Bool) (ts : List Lexeme) where
  label_is : (s ≡ true) ⊎ (two_begin Kinds.Name Kinds.Colon ts ≡ true) → label_at s ts ≡ (name_colon_at ts >>= λ x. Ok (Some x.0, x.1))
  unfolding label_at optional_at or_at
  label_is (inl e) = rw e refl
  label_is (inr e) = elim s as (λ z. label_at z ts ≡ (name_colon_at ts >>= λ x. Ok (Some x.0, x.1))) [ true ↦ refl | false ↦ rw e refl ]

  either_label : (s || two_begin Kinds.Name Kinds.Colon ts) ≡ true → (s ≡ true) ⊎ (two_begin Kinds.Name Kinds.Colon ts ≡ true)
  either_label e = elim (cases_bool s) [ inl y ↦ inl y | inr n ↦ inr (sym (rw n refl) ∙ e) ]

  pub label_none : (s || two_begin Kinds.Name Kinds.Colon ts) ≡ false → label_at s ts ≡ Ok (None, ts)
  unfolding label_at optional_at or_at
  label_none e = elim (cases_bool s) [
    | inl y ↦ absurd (let x : (s || two_begin Kinds.Name Kinds.Colon ts) ≡ true = rw y refl in cc)
    | inr n ↦ let two : two_begin Kinds.Name Kinds.Colon ts ≡ false = sym (rw n refl) ∙ e in rw (n, two) refl
  ]

  pub label_some : (k : List ℕ) (rest : List Lexeme) → (s || two_begin Kinds.Name Kinds.Colon ts) ≡ true → name_colon_at ts ≡ Ok (k, rest) → label_at s ts ≡ Ok (Some k, rest)
  label_some k rest e h = label_is (either_label e) ∙ rw h refl

  pub label_fails : (d : ReadError) → (s || two_begin Kinds.Name Kinds.Colon ts) ≡ true → Fails d (name_colon_at ts) → Fails d (label_at s ts)
  label_fails errors.Memory e h = tt
  label_fails (errors.Stop f) e h = label_is (either_label e) ∙ rw h refl

module _ (r : Reader ExpressionTree) (s : Bool) (ts : List Lexeme) where
  named_is : named_at r ts ≡ (label_at true ts >>= λ n. r n.1 >>= λ e. Ok ((n.0, e.0), e.1))
  unfolding named_at label_at name_colon_at
  named_is = elim (cases_result (token_at Kinds.Name ts)) [
    | inl x ↦ elim (cases_result (token_at Kinds.Colon x.0.1)) [ inl y ↦ rw (x.1, y.1) refl | inr d ↦ rw (x.1, d.1) refl ]
    | inr d ↦ rw d.1 refl
  ]

  argument_is : argument_at r s ts ≡ (label_at s ts >>= λ n. r n.1 >>= λ e. Ok ((n.0, e.0), e.1))
  unfolding argument_at or_at positional_at
  argument_is = elim s as (λ z. argument_at r z ts ≡ (label_at z ts >>= λ n. r n.1 >>= λ e. Ok ((n.0, e.0), e.1))) [
    | true ↦ named_is
    | false ↦ elim (cases_bool (two_begin Kinds.Name Kinds.Colon ts)) [
      | inl y ↦ rw y (named_is ∙ rw (label_is true ts (inl refl), label_is false ts (inr y)) refl)
      | inr n ↦ rw (n, label_none false ts n) refl
    ]
  ]

  pub argument_reads : (o : Option (List ℕ)) (mid : List Lexeme) (e : ExpressionTree) (rest : List Lexeme) → label_at s ts ≡ Ok (o, mid)
      → r mid ≡ Ok (e, rest) → argument_at r s ts ≡ Ok ((o, e), rest)
  argument_reads o mid e rest h g = argument_is ∙ rw (h, g) refl

  pub argument_label_fails : (d : ReadError) → Fails d (label_at s ts) → Fails d (argument_at r s ts)
  argument_label_fails errors.Memory h = tt
  argument_label_fails (errors.Stop f) h = argument_is ∙ rw h refl

  pub argument_value_fails : (o : Option (List ℕ)) (mid : List Lexeme) (d : ReadError) → label_at s ts ≡ Ok (o, mid) → Fails d (r mid)
      → Fails d (argument_at r s ts)
  argument_value_fails o mid errors.Memory h g = tt
  argument_value_fails o mid (errors.Stop f) h g = argument_is ∙ rw (h, g) refl

-- ---- the order of the calls

-- how far a chain of this rank is from the unary expressions
abbrev pub weight : Rank → ℕ
weight ranks.Product = 8
weight ranks.Sum = 12
weight ranks.And = 21
weight ranks.Or = 25

-- ---- the lemmas of one function each

pub ruleset label_cases = (label_some, label_none, label_fails)

pub ruleset taken_cases = (taken_end, taken_missing, taken_found)

pub ruleset enter_cases = (enter_found, enter_fails, enter_deep, enter_missing, fails_at)

pub ruleset base_cases = (base_call, atom_group, atom_list, atom_dictionary, atom_single)

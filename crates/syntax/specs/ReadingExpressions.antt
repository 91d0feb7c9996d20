-- Defines how expressions are read, as functions.
use Rattle.std.specs.Prelude.{ℕ, zero, suc, Bool, true, false, cond, ◌||◌, if◌then◌else◌, List, [], ◌∷◌, length, Ok, Option, Some, None}
use Rattle.std.specs.Option.{option_map, option_to_list}
use Rattle.syntax.specs.lexer.Lexeme.{Lexeme}
use Rattle.syntax.specs.lexer.Kinds.{is}
use Rattle.syntax.specs.declared.lexer.token.TokenKind.{TokenKind}
use Rattle.syntax.specs.declared.lexer.token.TokenKind.TheVariants as Kinds
use Rattle.syntax.specs.declared.tree.Operator.{Operator}
use Rattle.syntax.specs.declared.tree.Operator.TheVariants as operators
use Rattle.syntax.specs.declared.parser.expression.Rank.{Rank}
use Rattle.syntax.specs.declared.parser.expression.Rank.TheVariants as ranks
use Rattle.syntax.specs.ExpressionTree.{ExpressionTree, NameTree, LiteralTree, ListTree, DictionaryTree, FunctionTree, PrefixTree}
use Rattle.syntax.specs.ExpressionTree.{ArgumentTree, EntryTree, LinkTree, MethodTree, IndexTree, OperandTree, arguments, entries}
use Rattle.syntax.specs.ExpressionTree.{expressions}
use Rattle.syntax.specs.declared.tree.Prefix.{Prefix}
use Rattle.syntax.specs.declared.tree.Prefix.TheVariants as prefixes
use Rattle.syntax.specs.Expressions.{additive, chain_tree, ternary_tree, comparative, conjunctive, disjunctive, is_named, literal_of}
use Rattle.syntax.specs.Expressions.{multiplicative, postfix_tree}
use Rattle.syntax.specs.Parts.{here_at, opened_at, stands_for, token_as_at}
use Rattle.syntax.specs.Reading.{Reader, ◌>>=◌, begins, deep_at, head_is, listed_at, many_at, optional_at, token_at, or_at, two_begin}
use Rattle.syntax.specs.Form.{same_state}

-- ---- chains of operators

-- Reads an operator and the value after it.
unfoldable pub operand_at : (TokenKind → Option Operator) → Reader ExpressionTree → Reader OperandTree
operand_at f part ts = do
  o ← token_as_at f ts
  e ← part o.1
  Ok ((o.0.0, e.0), e.1)

-- Reads operators and the values after them, as long as an operator follows.
unfoldable pub operands_at : (TokenKind → Option Operator) → Reader ExpressionTree → Reader (List OperandTree)
operands_at f part ts = many_at (head_is (stands_for f)) (operand_at f part) (length ts) ts

-- Reads a chain: a value, and operators with the values after them.
unfoldable pub chain_at : (TokenKind → Option Operator) → Reader ExpressionTree → Reader ExpressionTree
chain_at f part ts = do
  line ← here_at ts
  first ← part line.1
  others ← operands_at f part first.1
  Ok (chain_tree line.0 first.0 others.0, others.1)

-- Reads the two tokens of the operator `not in`.
unfoldable pub not_in_at : Reader Operator
not_in_at ts = do
  n ← token_at Kinds.Not ts
  i ← token_at Kinds.In n.1
  Ok (operators.NotIn, i.1)

-- Reads a comparison operator of one token.
unfoldable pub plain_comparison_at : Reader Operator
plain_comparison_at ts = do
  o ← token_as_at comparative ts
  Ok (o.0.0, o.1)

-- Reads a comparison operator: one token, or `not in`.
unfoldable pub comparison_operator_at : Reader Operator
comparison_operator_at ts = or_at (head_is (stands_for comparative)) plain_comparison_at not_in_at ts

-- Reads a comparison operator and the value after it.
unfoldable pub compared_at : Reader ExpressionTree → Reader OperandTree
compared_at part ts = do
  o ← comparison_operator_at ts
  e ← part o.1
  Ok ((o.0, e.0), e.1)

-- Reads a comparison as the only operand of a chain.
unfoldable pub one_compared_at : Reader ExpressionTree → Reader (List OperandTree)
one_compared_at part ts = compared_at part ts >>= λ o. Ok (o.0 ∷ [], o.1)

-- Returns whether a comparison continues.
abbrev pub compares : TokenKind → Bool
compares Kinds.Not = true
compares k = stands_for comparative k

-- ---- the lines of the grammar, over the unary expressions

-- Reads a product: unary expressions with `*`, `/` or `%` between them, or one alone.
unfoldable pub product_at : Reader ExpressionTree → Reader ExpressionTree
product_at unary ts = chain_at multiplicative unary ts

-- Reads a sum: products with `+` or `-` between them, or one alone.
unfoldable pub sum_at : Reader ExpressionTree → Reader ExpressionTree
sum_at unary ts = chain_at additive (product_at unary) ts

-- Reads a comparison: a sum, and a comparison operator with another sum if such an operator follows.
unfoldable pub comparison_at : Reader ExpressionTree → Reader ExpressionTree
comparison_at unary ts = do
  line ← here_at ts
  first ← sum_at unary line.1
  second ← optional_at (head_is compares) (compared_at (sum_at unary)) first.1
  Ok (chain_tree line.0 first.0 (option_to_list second.0), second.1)

-- Reads comparisons with `and` between them, or one alone.
unfoldable pub conjunction_at : Reader ExpressionTree → Reader ExpressionTree
conjunction_at unary ts = chain_at conjunctive (comparison_at unary) ts

-- Reads conjunctions with `or` between them, or one alone.
unfoldable pub disjunction_at : Reader ExpressionTree → Reader ExpressionTree
disjunction_at unary ts = chain_at disjunctive (conjunction_at unary) ts

-- Returns whether a ternary continues.
abbrev pub asks : TokenKind → Bool
asks k = is k Kinds.Question

-- Reads the two branches of a ternary.
unfoldable pub branches_at : Reader ExpressionTree → Reader (ExpressionTree × ExpressionTree)
branches_at part ts = do
  q ← token_at Kinds.Question ts
  one ← part q.1
  c ← token_at Kinds.Colon one.1
  other ← part c.1
  Ok ((one.0, other.0), other.1)

-- Reads a ternary, or its condition alone if no `?` follows. The branches hold no ternary.
unfoldable pub ternary_at : (Bool → Reader ExpressionTree) → Bool → Reader ExpressionTree
ternary_at unary false ts = disjunction_at (unary false) ts
ternary_at unary true ts = do
  line ← here_at ts
  test ← disjunction_at (unary true) line.1
  rest ← optional_at (head_is asks) (branches_at (disjunction_at (unary false))) test.1
  Ok (ternary_tree line.0 test.0 rest.0, rest.1)

-- ---- atoms

-- Reads a name.
unfoldable pub name_at : Reader ExpressionTree
name_at ts = do
  t ← token_at Kinds.Name ts
  Ok (NameTree t.0.text t.0.line, t.1)

-- Reads a number, a string, `true` or `false`.
unfoldable pub literal_at : Reader ExpressionTree
literal_at ts = do
  t ← token_as_at literal_of ts
  Ok (LiteralTree t.0.0 t.0.1.text t.0.1.line, t.1)

-- Reads an expression and the parenthesis that closes it.
unfoldable pub group_at : (Bool → Reader ExpressionTree) → Bool → Lexeme → Reader ExpressionTree
group_at unary b o ts = do
  e ← ternary_at unary b ts
  c ← token_at Kinds.CloseParenthesis e.1
  Ok (e.0, c.1)

-- Reads the elements of a list, up to its bracket.
unfoldable pub elements_at : (Bool → Reader ExpressionTree) → Bool → Reader (List ExpressionTree)
elements_at unary b ts = listed_at Kinds.CloseBracket (λ s. ternary_at unary b) same_state tt ts

-- Reads the elements of a list and the bracket that closes it. The list has the line of the bracket `o` that opened it.
unfoldable pub list_at : (Bool → Reader ExpressionTree) → Bool → Lexeme → Reader ExpressionTree
list_at unary b o ts = do
  es ← listed_at Kinds.CloseBracket (λ s. ternary_at unary b) same_state tt ts
  c ← token_at Kinds.CloseBracket es.1
  Ok (ListTree (expressions es.0) o.line, c.1)

-- Reads a key and its value.
unfoldable pub entry_at : Reader ExpressionTree → Reader EntryTree
entry_at expr ts = do
  k ← expr ts
  c ← token_at Kinds.Colon k.1
  v ← expr c.1
  Ok ((k.0, v.0), v.1)

-- Reads the entries of a dictionary, up to its brace.
unfoldable pub entries_at : (Bool → Reader ExpressionTree) → Bool → Reader (List EntryTree)
entries_at unary b ts = listed_at Kinds.CloseBrace (λ s. entry_at (ternary_at unary b)) same_state tt ts

-- Reads the entries of a dictionary and the brace that closes it. The dictionary has the line of the brace `o` that opened it.
unfoldable pub dictionary_at : (Bool → Reader ExpressionTree) → Bool → Lexeme → Reader ExpressionTree
dictionary_at unary b o ts = do
  es ← listed_at Kinds.CloseBrace (λ s. entry_at (ternary_at unary b)) same_state tt ts
  c ← token_at Kinds.CloseBrace es.1
  Ok (DictionaryTree (entries es.0) o.line, c.1)

-- Reads a name, an expression in brackets, a list, a dictionary or a literal.
unfoldable pub atom_at : Option (Bool → Reader ExpressionTree) → Bool → Reader ExpressionTree
atom_at u b ts =
    or_at (begins Kinds.Name) name_at
    (or_at (begins Kinds.OpenParenthesis) (opened_at Kinds.OpenParenthesis u (λ e. group_at e b))
    (or_at (begins Kinds.OpenBracket) (opened_at Kinds.OpenBracket u (λ e. list_at e b))
    (or_at (begins Kinds.OpenBrace) (opened_at Kinds.OpenBrace u (λ e. dictionary_at e b))
    literal_at))) ts

-- ---- one token

-- Returns the expression of a single token: a name or a literal.
abbrev pub single_of : Lexeme → Option ExpressionTree
single_of t =
    if is t.kind Kinds.Name then Some (NameTree t.text t.line)
    else option_map (λ l. LiteralTree l t.text t.line) (literal_of t.kind)

-- Reads an expression of a single token: a name or a literal.
unfoldable pub single_at : Reader ExpressionTree
single_at ts = or_at (begins Kinds.Name) name_at literal_at ts

-- Returns whether tokens of this kind never continue an expression: an element, an argument, an entry or a statement ends before them.
abbrev pub ends_expression : TokenKind → Bool
ends_expression k = is k Kinds.Comma || (is k Kinds.Colon || (is k Kinds.Newline || (is k Kinds.CloseParenthesis
    || (is k Kinds.CloseBracket || is k Kinds.CloseBrace))))

-- ---- arguments

-- Reads an argument with a name.
unfoldable pub named_at : Reader ExpressionTree → Reader ArgumentTree
named_at expr ts = do
  t ← token_at Kinds.Name ts
  c ← token_at Kinds.Colon t.1
  e ← expr c.1
  Ok ((Some t.0.text, e.0), e.1)

-- Reads an argument without a name.
unfoldable pub positional_at : Reader ExpressionTree → Reader ArgumentTree
positional_at expr ts = do
  e ← expr ts
  Ok ((None, e.0), e.1)

-- Reads an argument. After a named one, it must have a name too.
unfoldable pub argument_at : Reader ExpressionTree → Bool → Reader ArgumentTree
argument_at expr true ts = named_at expr ts
argument_at expr false ts = or_at (two_begin Kinds.Name Kinds.Colon) (named_at expr) (positional_at expr) ts

-- Reads only the name and the colon of an argument. Each argument after a named one has them.
unfoldable pub name_colon_at : Reader (List ℕ)
name_colon_at ts = do
  t ← token_at Kinds.Name ts
  c ← token_at Kinds.Colon t.1
  Ok (t.0.text, c.1)

-- Reads the name and the colon of an argument, if there are any. After a named argument there must be.
unfoldable pub label_at : Bool → Reader (Option (List ℕ))
label_at true ts = name_colon_at ts >>= λ x. Ok (Some x.0, x.1)
label_at false ts = optional_at (two_begin Kinds.Name Kinds.Colon) name_colon_at ts

-- Reads the arguments of a call, up to its parenthesis.
unfoldable pub given_at : (Bool → Reader ExpressionTree) → Bool → Reader (List ArgumentTree)
given_at unary b ts = listed_at Kinds.CloseParenthesis (argument_at (ternary_at unary b)) is_named false ts

-- Reads the arguments of a call and the parenthesis that closes them.
unfoldable pub items_at : (Bool → Reader ExpressionTree) → Bool → Lexeme → Reader (List ArgumentTree)
items_at unary b o ts = do
  xs ← listed_at Kinds.CloseParenthesis (argument_at (ternary_at unary b)) is_named false ts
  c ← token_at Kinds.CloseParenthesis xs.1
  Ok (xs.0, c.1)

-- Reads the arguments of a call with the parentheses around them, which open a level.
abbrev pub in_parentheses_at : Option (Bool → Reader ExpressionTree) → Bool → Reader (List ArgumentTree)
in_parentheses_at u b = opened_at Kinds.OpenParenthesis u (λ e. items_at e b)

-- Reads the name of a function, and its arguments in parentheses with `args`.
unfoldable pub call_at : Reader (List ArgumentTree) → Reader ExpressionTree
call_at args ts = do
  t ← token_at Kinds.Name ts
  xs ← args t.1
  Ok (FunctionTree t.0.text (arguments xs.0) t.0.line, xs.1)

-- ---- methods and indexes

-- Reads a dot, the name of a method, and its arguments in parentheses with `args`.
unfoldable pub method_at : Reader (List ArgumentTree) → Reader LinkTree
method_at args ts = do
  d ← token_at Kinds.Dot ts
  t ← token_at Kinds.Name d.1
  xs ← args t.1
  Ok (MethodTree t.0.text (arguments xs.0), xs.1)

-- Reads an index and the bracket that closes it.
unfoldable pub index_at : (Bool → Reader ExpressionTree) → Bool → Lexeme → Reader LinkTree
index_at unary b o ts = do
  e ← ternary_at unary b ts
  c ← token_at Kinds.CloseBracket e.1
  Ok (IndexTree e.0, c.1)

-- Reads a method call or an index.
unfoldable pub link_at : Option (Bool → Reader ExpressionTree) → Bool → Reader LinkTree
link_at u b ts = or_at (begins Kinds.Dot) (method_at (in_parentheses_at u b)) (opened_at Kinds.OpenBracket u (λ e. index_at e b)) ts

-- Returns whether a method or an index begins with a token of this kind.
abbrev pub links_on : TokenKind → Bool
links_on k = cond (is k Kinds.Dot) true (is k Kinds.OpenBracket)

-- Reads method calls and indexes, as long as a dot or an opening bracket follows.
unfoldable pub links_at : Option (Bool → Reader ExpressionTree) → Bool → Reader (List LinkTree)
links_at u b ts = many_at (head_is links_on) (link_at u b) (length ts) ts

-- Reads a call or an atom.
unfoldable pub base_at : Option (Bool → Reader ExpressionTree) → Bool → Reader ExpressionTree
base_at u b ts = or_at (two_begin Kinds.Name Kinds.OpenParenthesis) (call_at (in_parentheses_at u b)) (atom_at u b) ts

-- Reads a call or an atom, and the methods and indices that follow it.
unfoldable pub postfix_at : Option (Bool → Reader ExpressionTree) → Bool → Reader ExpressionTree
postfix_at u b ts = do
  line ← here_at ts
  first ← base_at u b line.1
  ls ← links_at u b first.1
  Ok (postfix_tree line.0 first.0 ls.0, ls.1)

-- ---- prefix operators

-- Reads the value after a prefix operator.
unfoldable pub prefixed_at : Prefix → (Bool → Reader ExpressionTree) → Bool → Lexeme → Reader ExpressionTree
prefixed_at p unary b o ts = do
  e ← unary b ts
  Ok (PrefixTree p e.0 o.line, e.1)

-- Returns the prefix operator that is next, and the token of each.
abbrev pub prefix_of : List Lexeme → Option Prefix
prefix_of ts = if begins Kinds.Not ts then Some prefixes.Not else (if begins Kinds.Minus ts then Some prefixes.Negative else None)

-- Returns the token of a prefix operator.
abbrev pub word_of : Prefix → TokenKind
word_of prefixes.Not = Kinds.Not
word_of prefixes.Negative = Kinds.Minus

-- Reads a prefix operator and its value, or an expression without one. It may open levels if `u` says how they are read.
unfoldable pub unary_in_at : Option (Bool → Reader ExpressionTree) → Bool → Reader ExpressionTree
unary_in_at u b ts =
    or_at (begins Kinds.Not) (opened_at Kinds.Not u (λ e. prefixed_at prefixes.Not e b))
    (or_at (begins Kinds.Minus) (opened_at Kinds.Minus u (λ e. prefixed_at prefixes.Negative e b))
    (postfix_at u b)) ts

-- Reads the values between operators, when n levels may be opened.
unfoldable pub unary_at : ℕ → Bool → Reader ExpressionTree
unary_at zero b ts = unary_in_at None b ts
unary_at (suc n) b ts = unary_in_at (Some (unary_at n)) b ts

-- Returns the reader inside a level, if one more may be opened.
abbrev pub inner_at : ℕ → Option (Bool → Reader ExpressionTree)
inner_at zero = None
inner_at (suc n) = Some (unary_at n)

-- Reads an expression, when n levels may be opened.
unfoldable pub expr_at : ℕ → Reader ExpressionTree
expr_at n ts = ternary_at (unary_at n) true ts

-- Reads a token of this kind, and returns how many levels may be opened inside.
unfoldable pub enter_at : TokenKind → ℕ → Reader (Lexeme × ℕ)
enter_at k zero ts = deep_at k ts
enter_at k (suc n) ts = token_at k ts >>= λ t. Ok ((t.0, n), t.1)

-- Reads a token of this kind, followed by `f` with the reader of expressions inside, if one of n levels may be opened.
unfoldable pub entered_at : {A : Type 0} → TokenKind → ℕ → ((Bool → Reader ExpressionTree) → Lexeme → Reader A) → Reader A
entered_at k n f ts = enter_at k n ts >>= λ t. f (unary_at t.0.1) t.0.0 t.1

-- ---- the operators of a rank, and the parts between them

-- Returns the operators of a rank.
abbrev pub operator_of : Rank → TokenKind → Option Operator
operator_of ranks.Or = disjunctive
operator_of ranks.And = conjunctive
operator_of ranks.Sum = additive
operator_of ranks.Product = multiplicative

-- Reads the values between the operators of a rank.
abbrev pub part_at : Rank → Reader ExpressionTree → Reader ExpressionTree
part_at ranks.Or unary = conjunction_at unary
part_at ranks.And unary = comparison_at unary
part_at ranks.Sum unary = product_at unary
part_at ranks.Product unary = unary

-- Defines the grammar of expressions, with a form for each line, as the Meson manual has it (page "Syntax"). `b` says whether a ternary
-- (`test ? yes : no`) may be in the expression. `u` is what may follow a token that opens a level.
use Rattle.std.specs.Prelude.{ℕ, zero, suc, Bool, true, false, List, [], ◌∷◌, Option, Some, None}
use Rattle.std.specs.Option.{is_some, option_to_list}
use Rattle.syntax.specs.lexer.Lexeme.{Lexeme}
use Rattle.syntax.specs.declared.lexer.token.TokenKind.{TokenKind}
use Rattle.syntax.specs.declared.lexer.token.TokenKind.TheVariants as Kinds
use Rattle.syntax.specs.declared.tree.Literal.{Literal}
use Rattle.syntax.specs.declared.tree.Literal.TheVariants as literals
use Rattle.syntax.specs.declared.tree.Operator.{Operator}
use Rattle.syntax.specs.declared.tree.Operator.TheVariants as operators
use Rattle.syntax.specs.declared.tree.Prefix.{Prefix}
use Rattle.syntax.specs.declared.tree.Prefix.TheVariants as prefixes
use Rattle.syntax.specs.ExpressionTree.{ExpressionTree, NameTree, LiteralTree, ListTree, DictionaryTree, FunctionTree, PostfixTree}
use Rattle.syntax.specs.ExpressionTree.{PrefixTree, ChainTree, TernaryTree, ArgumentTree, EntryTree, LinkTree, MethodTree, IndexTree}
use Rattle.syntax.specs.ExpressionTree.{OperandTree, arguments, entries, expressions, links, operands}
use Rattle.syntax.specs.Form.{Form, token, give, ◌>>=◌, ◌or◌, many, optional, list_form, listed_by}
use Rattle.syntax.specs.Parts.{Inner, Closed, Inside, here, form_after_token, token_as}

-- ---- what tokens mean

-- Returns the kind of literal that a token is (a number, a string, `true` or `false`), and none for any other token.
abbrev pub literal_of : TokenKind → Option Literal
literal_of Kinds.True = Some literals.True
literal_of Kinds.False = Some literals.False
literal_of Kinds.Number = Some literals.Number
literal_of Kinds.String = Some literals.String
literal_of Kinds.RawString = Some literals.RawString
literal_of Kinds.FormatString = Some literals.FormatString
literal_of Kinds.RawFormatString = Some literals.RawFormatString
literal_of _ = None

-- Returns the operator `or` for the token `or`, and none for any other token.
abbrev pub disjunctive : TokenKind → Option Operator
disjunctive Kinds.Or = Some operators.Or
disjunctive _ = None

-- Returns the operator `and` for the token `and`, and none for any other token.
abbrev pub conjunctive : TokenKind → Option Operator
conjunctive Kinds.And = Some operators.And
conjunctive _ = None

-- Returns the comparison operator that one token spells, and none for any other token. `not in`, of two tokens, is not among them.
abbrev pub comparative : TokenKind → Option Operator
comparative Kinds.Equal = Some operators.Equal
comparative Kinds.NotEqual = Some operators.NotEqual
comparative Kinds.Less = Some operators.Less
comparative Kinds.LessOrEqual = Some operators.LessOrEqual
comparative Kinds.Greater = Some operators.Greater
comparative Kinds.GreaterOrEqual = Some operators.GreaterOrEqual
comparative Kinds.In = Some operators.In
comparative _ = None

-- Returns the operator of `+` or `-`, and none for any other token.
abbrev pub additive : TokenKind → Option Operator
additive Kinds.Plus = Some operators.Add
additive Kinds.Minus = Some operators.Subtract
additive _ = None

-- Returns the operator of `*`, `/` or `%`, and none for any other token.
abbrev pub multiplicative : TokenKind → Option Operator
multiplicative Kinds.Times = Some operators.Multiply
multiplicative Kinds.Divide = Some operators.Divide
multiplicative Kinds.Remainder = Some operators.Remainder
multiplicative _ = None

-- ---- chains of operators

-- Returns the tree of a chain. A chain of one part is that part.
abbrev pub chain_tree : ℕ → ExpressionTree → List OperandTree → ExpressionTree
chain_tree line first [] = first
chain_tree line first (o ∷ os) = ChainTree first (operands (o ∷ os)) line

-- Spells an operand of a chain: OPERATOR part. `f` says which tokens are operators.
abbrev pub operand : (TokenKind → Option Operator) → Form ExpressionTree → Form OperandTree
operand f part = do
  o ← token_as f
  e ← part
  give (o.0, e)

-- Spells a chain of values with operators of one precedence between them: part {OPERATOR part}
abbrev pub chain : (TokenKind → Option Operator) → Form ExpressionTree → Form ExpressionTree
chain f part = do
  line ← here
  first ← part
  others ← many (operand f part)
  give (chain_tree line first others)

-- Spells the operator of two words: "not" "in"
abbrev pub not_in : Form Operator
not_in = do
  n ← token Kinds.Not
  i ← token Kinds.In
  give operators.NotIn

-- Spells a comparison operator: CMPOP = "==" | "!=" | "<" | "<=" | ">" | ">=" | "in" | "not" "in"
abbrev pub comparison_operator : Form Operator
comparison_operator = (token_as comparative >>= λ o. give o.0) or not_in

-- Spells a comparison operator and the value after it: CMPOP part
abbrev pub comparison_operand : Form ExpressionTree → Form OperandTree
comparison_operand part = do
  o ← comparison_operator
  e ← part
  give (o, e)

-- ---- the lines of the grammar, over the unary expressions

-- Spells a product: prod = unary {("*"|"/"|"%") unary}
abbrev pub product : Form ExpressionTree → Form ExpressionTree
product unary = chain multiplicative unary

-- Spells a sum: sum = prod {("+"|"-") prod}
abbrev pub sum : Form ExpressionTree → Form ExpressionTree
sum unary = chain additive (product unary)

-- Spells a comparison, of at most one operator: cmp = sum [CMPOP sum]
abbrev pub comparison : Form ExpressionTree → Form ExpressionTree
comparison unary = do
  line ← here
  first ← sum unary
  second ← optional (comparison_operand (sum unary))
  give (chain_tree line first (option_to_list second))

-- Spells a conjunction: and = cmp {"and" cmp}
abbrev pub conjunction : Form ExpressionTree → Form ExpressionTree
conjunction unary = chain conjunctive (comparison unary)

-- Spells a disjunction: or = and {"or" and}
abbrev pub disjunction : Form ExpressionTree → Form ExpressionTree
disjunction unary = chain disjunctive (conjunction unary)

-- Returns the tree of a ternary. A ternary without branches is its test.
abbrev pub ternary_tree : ℕ → ExpressionTree → Option (ExpressionTree × ExpressionTree) → ExpressionTree
ternary_tree line test None = test
ternary_tree line test (Some x) = TernaryTree test x.0 x.1 line

-- Spells the branches of a ternary: "?" or ":" or
abbrev pub branches : Form ExpressionTree → Form (ExpressionTree × ExpressionTree)
branches part = do
  q ← token Kinds.Question
  one ← part
  c ← token Kinds.Colon
  other ← part
  give (one, other)

-- Spells an expression: expr = or ["?" or ":" or]. The branches hold no other ternary, in brackets or not.
abbrev pub ternary : (Bool → Form ExpressionTree) → Bool → Form ExpressionTree
ternary unary false = disjunction (unary false)
ternary unary true = do
  line ← here
  test ← disjunction (unary true)
  rest ← optional (branches (disjunction (unary false)))
  give (ternary_tree line test rest)

-- ---- atoms

-- Spells a name: NAME
abbrev pub name : Form ExpressionTree
name = do
  t ← token Kinds.Name
  give (NameTree t.text t.line)

-- Spells a literal: NUMBER | STRING | "true" | "false"
abbrev pub literal : Form ExpressionTree
literal = do
  t ← token_as literal_of
  give (LiteralTree t.0 t.1.text t.1.line)

-- Spells the rest of an expression in parentheses, after the opening one: expr ")"
abbrev pub group : (Bool → Form ExpressionTree) → Bool → Lexeme → Form ExpressionTree
group unary b o = do
  e ← ternary unary b
  c ← token Kinds.CloseParenthesis
  give e

-- Spells the rest of a list, after the bracket `o`: [expr {"," expr} [","]] "]"
abbrev pub list : (Bool → Form ExpressionTree) → Bool → Lexeme → Form ExpressionTree
list unary b o = do
  es ← list_form (ternary unary b)
  c ← token Kinds.CloseBracket
  give (ListTree (expressions es) o.line)

-- Spells an entry of a dictionary: expr ":" expr
abbrev pub entry : Form ExpressionTree → Form EntryTree
entry expr = do
  k ← expr
  c ← token Kinds.Colon
  v ← expr
  give (k, v)

-- Spells the rest of a dictionary, after the brace `o`: [expr ":" expr {"," expr ":" expr} [","]] "}"
abbrev pub dictionary : (Bool → Form ExpressionTree) → Bool → Lexeme → Form ExpressionTree
dictionary unary b o = do
  es ← list_form (entry (ternary unary b))
  c ← token Kinds.CloseBrace
  give (DictionaryTree (entries es) o.line)

-- Spells an atom: atom = NAME | "(" expr ")" | "[" .. "]" | "{" .. "}" | NUMBER | STRING | "true" | "false"
abbrev pub atom : Inner → Bool → Form ExpressionTree
atom u b =
    name
    or (form_after_token Kinds.OpenParenthesis u (λ e. group e b)
    or (form_after_token Kinds.OpenBracket u (λ e. list e b)
    or (form_after_token Kinds.OpenBrace u (λ e. dictionary e b)
    or literal)))

-- ---- arguments

-- Spells an argument with a name: NAME ":" expr
abbrev pub keyword_argument : Form ExpressionTree → Form ArgumentTree
keyword_argument expr = do
  t ← token Kinds.Name
  c ← token Kinds.Colon
  e ← expr
  give (Some t.text, e)

-- Spells an argument without a name: expr
abbrev pub positional : Form ExpressionTree → Form ArgumentTree
positional expr = do
  e ← expr
  give (None, e)

-- Spells an argument: item = expr | NAME ":" expr. If the argument before it has a name (`true`), it needs one too.
abbrev pub argument : Form ExpressionTree → Bool → Form ArgumentTree
argument expr true = keyword_argument expr
argument expr false = keyword_argument expr or positional expr

-- Returns whether an argument has a name. `before`, whether the argument before it has one, is not used.
abbrev pub is_named : Bool → ArgumentTree → Bool
is_named before a = is_some a.0

-- Spells the rest of a call's arguments, after the opening parenthesis: args ")", where args = [item {"," item} [","]]
abbrev pub items : (Bool → Form ExpressionTree) → Bool → Lexeme → Form (List ArgumentTree)
items unary b o = do
  xs ← listed_by (argument (ternary unary b)) is_named false
  c ← token Kinds.CloseParenthesis
  give xs

-- Spells the arguments of a call: "(" args ")"
abbrev pub in_parentheses : Inner → Bool → Form (List ArgumentTree)
in_parentheses u b = form_after_token Kinds.OpenParenthesis u (λ e. items e b)

-- Spells a call of a function, with its arguments as `args`: NAME "(" args ")"
abbrev pub call : Form (List ArgumentTree) → Form ExpressionTree
call args = do
  t ← token Kinds.Name
  xs ← args
  give (FunctionTree t.text (arguments xs) t.line)

-- ---- methods and indexes

-- Spells a call of a method, with its arguments as `args`: "." NAME "(" args ")"
abbrev pub method : Form (List ArgumentTree) → Form LinkTree
method args = do
  d ← token Kinds.Dot
  t ← token Kinds.Name
  xs ← args
  give (MethodTree t.text (arguments xs))

-- Spells the rest of an index, after the opening bracket: expr "]"
abbrev pub index : (Bool → Form ExpressionTree) → Bool → Lexeme → Form LinkTree
index unary b o = do
  e ← ternary unary b
  c ← token Kinds.CloseBracket
  give (IndexTree e)

-- Spells a method call or an index after a value: "." NAME "(" args ")" | "[" expr "]"
abbrev pub link : Inner → Bool → Form LinkTree
link u b = method (in_parentheses u b) or form_after_token Kinds.OpenBracket u (λ e. index e b)

-- Returns the tree of a value with its methods and indexes. A value without any is itself.
abbrev pub postfix_tree : ℕ → ExpressionTree → List LinkTree → ExpressionTree
postfix_tree line first [] = first
postfix_tree line first (l ∷ ls) = PostfixTree first (links (l ∷ ls)) line

-- Spells a value with its method calls and indexes: post = (NAME "(" args ")" | atom) {"." NAME "(" args ")" | "[" expr "]"}
abbrev pub postfix : Inner → Bool → Form ExpressionTree
postfix u b = do
  line ← here
  first ← call (in_parentheses u b) or atom u b
  ls ← many (link u b)
  give (postfix_tree line first ls)

-- ---- prefix operators

-- Spells the value after the prefix operator `o`: unary
abbrev pub prefix_expression : Prefix → (Bool → Form ExpressionTree) → Bool → Lexeme → Form ExpressionTree
prefix_expression p unary b o = do
  e ← unary b
  give (PrefixTree p e o.line)

-- Spells a unary expression, given the expressions inside one more level: unary = ("not"|"-") unary | post
abbrev pub unary_in : Inner → Bool → Form ExpressionTree
unary_in u b =
    form_after_token Kinds.Not u (λ e. prefix_expression prefixes.Not e b)
    or (form_after_token Kinds.Minus u (λ e. prefix_expression prefixes.Negative e b)
    or postfix u b)

-- Spells a unary expression in which at most n levels are open at once. Each opening bracket, `not` and prefix `-` opens a level.
unfoldable pub unary : ℕ → Bool → Form ExpressionTree
unary zero b = unary_in Closed b
unary (suc n) b = unary_in (Inside (unary n)) b

-- Spells an expression in which at most n levels are open at once.
unfoldable pub expr : ℕ → Form ExpressionTree
expr n = ternary (unary n) true

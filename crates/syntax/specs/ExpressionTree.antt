-- Defines the tree of an expression, without its place in memory.
use Rattle.std.specs.Prelude.{ℕ, List, [], ◌∷◌, map, Option}
use Rattle.std.specs.Option.{option_map}
use Rattle.syntax.specs.declared.tree.Expression.{Expression}
use Rattle.syntax.specs.declared.tree.Expression.TheOpen.{Expression-F, Operand-F, Link-F, Argument-F, Entry-F, Name}
use Rattle.syntax.specs.declared.tree.Expression.TheOpen.{Literal as LiteralOpen, List as ListOpen, Dictionary, Call, Postfix}
use Rattle.syntax.specs.declared.tree.Expression.TheOpen.{Prefix as PrefixOpen, Chain, Ternary, Method, Index}
use Rattle.syntax.specs.declared.tree.Expression.TheFolds.{fold-Expression, fold-Operand, fold-Link, fold-Argument, fold-Entry}
use Rattle.syntax.specs.declared.tree.Argument.{Argument}
use Rattle.syntax.specs.declared.tree.Entry.{Entry}
use Rattle.syntax.specs.declared.tree.Link.{Link}
use Rattle.syntax.specs.declared.tree.Operand.{Operand}
use Rattle.syntax.specs.declared.tree.Prefix.{Prefix}
use Rattle.syntax.specs.declared.tree.Literal.{Literal}
use Rattle.syntax.specs.declared.tree.Operator.{Operator}

-- The last number of a node is its line.
mutual
  -- An expression: its form, its parts, and the line of its first token. Parentheses around an expression have no tree.
  pub data ExpressionTree : Type 0 where
    -- Holds the name of a variable.
    NameTree : List ℕ → ℕ → ExpressionTree
    -- Holds the kind of a literal and its token as written: a string keeps its quotes.
    LiteralTree : Literal → List ℕ → ℕ → ExpressionTree
    -- Holds the items of a list, in order: `[first, second]`.
    ListTree : ExpressionTrees → ℕ → ExpressionTree
    -- Holds the entries of a dictionary, in order: `{key : value, key : value}`.
    DictionaryTree : EntryTrees → ℕ → ExpressionTree
    -- Calls a function: its name and its arguments, `name(argument, name: argument)`.
    FunctionTree : List ℕ → ArgumentTrees → ℕ → ExpressionTree
    -- Holds a value, and the method calls and indexes that follow it: `first.name(argument)[index]`.
    PostfixTree : ExpressionTree → LinkTrees → ℕ → ExpressionTree
    -- Holds a prefix operator and the value after it: `not value` or `-value`.
    PrefixTree : Prefix → ExpressionTree → ℕ → ExpressionTree
    -- Holds a value, and the operators of one precedence with the values after them: `first + second - third`.
    ChainTree : ExpressionTree → OperandTrees → ℕ → ExpressionTree
    -- Holds a condition, the value if it is true, and the value if it is false: `test ? yes : no`.
    TernaryTree : ExpressionTree → ExpressionTree → ExpressionTree → ℕ → ExpressionTree

  -- The expressions of a list, in order.
  pub data ExpressionTrees : Type 0 where
    NoExpression : ExpressionTrees
    MoreExpressions : ExpressionTree → ExpressionTrees → ExpressionTrees

  -- The entries of a dictionary, in order. Each has the key and the value.
  pub data EntryTrees : Type 0 where
    NoEntry : EntryTrees
    MoreEntries : ExpressionTree → ExpressionTree → EntryTrees → EntryTrees

  -- The arguments of a call, in order. Each has its value, and its name if it is a keyword argument.
  pub data ArgumentTrees : Type 0 where
    NoArgument : ArgumentTrees
    MoreArguments : Option (List ℕ) → ExpressionTree → ArgumentTrees → ArgumentTrees

  -- A link follows a value: it calls a method of the value, or takes the item at an index.
  pub data LinkTree : Type 0 where
    -- Calls a method: its name and its arguments, `.name(argument)`.
    MethodTree : List ℕ → ArgumentTrees → LinkTree
    -- Takes the item at an index or a key: `[index]`.
    IndexTree : ExpressionTree → LinkTree

  -- The links that follow a value, in order.
  pub data LinkTrees : Type 0 where
    NoLink : LinkTrees
    MoreLinks : LinkTree → LinkTrees → LinkTrees

  -- The operands of a chain after the first, in order. Each has the operator before it.
  pub data OperandTrees : Type 0 where
    NoOperand : OperandTrees
    MoreOperands : Operator → ExpressionTree → OperandTrees → OperandTrees

-- A key and its value.
abbrev pub EntryTree : Type 0
EntryTree = ExpressionTree × ExpressionTree

-- An optional name, and the value.
abbrev pub ArgumentTree : Type 0
ArgumentTree = Option (List ℕ) × ExpressionTree

-- An operator and the value after it.
abbrev pub OperandTree : Type 0
OperandTree = Operator × ExpressionTree

-- Returns the expressions of a list as `ExpressionTrees`, in the same order.
abbrev pub expressions : List ExpressionTree → ExpressionTrees
expressions [] = NoExpression
expressions (e ∷ es) = MoreExpressions e (expressions es)

-- Returns the keys and values of a list as `EntryTrees`, in the same order.
abbrev pub entries : List EntryTree → EntryTrees
entries [] = NoEntry
entries (e ∷ es) = MoreEntries e.0 e.1 (entries es)

-- Returns the arguments of a list as `ArgumentTrees`, in the same order.
abbrev pub arguments : List ArgumentTree → ArgumentTrees
arguments [] = NoArgument
arguments (a ∷ more) = MoreArguments a.0 a.1 (arguments more)

-- Returns the method calls and indexes of a list as `LinkTrees`, in the same order.
abbrev pub links : List LinkTree → LinkTrees
links [] = NoLink
links (l ∷ ls) = MoreLinks l (links ls)

-- Returns the operators and operands of a list as `OperandTrees`, in the same order.
abbrev pub operands : List OperandTree → OperandTrees
operands [] = NoOperand
operands (o ∷ os) = MoreOperands o.0 o.1 (operands os)

-- ---- the trees of what the code makes

-- Returns the tree of an expression of the code, given the trees of its parts. References, boxes and vectors are left out.
abbrev pub expression_step : Expression-F ExpressionTree LinkTree ArgumentTree EntryTree OperandTree → ExpressionTree
expression_step (Name name line) = NameTree name.now line
expression_step (LiteralOpen literal text line) = LiteralTree literal text.now line
expression_step (ListOpen items line) = ListTree (expressions items.items) line
expression_step (Dictionary es line) = DictionaryTree (entries es.items) line
expression_step (Call line name items) = FunctionTree name.now (arguments items.items) line
expression_step (Postfix first ls line) = PostfixTree first.value (links ls.items) line
expression_step (PrefixOpen prefix value line) = PrefixTree prefix value.value line
expression_step (Chain first others line) = ChainTree first.value (operands others.items) line
expression_step (Ternary test one other line) = TernaryTree test.value one.value other.value line

-- Returns the operator of an operand of the code, and the tree of its value.
abbrev pub operand_step : Operand-F ExpressionTree LinkTree ArgumentTree EntryTree OperandTree → OperandTree
operand_step o = (o.operator, o.value)

-- Returns the tree of a method call or an index of the code, given the trees of its arguments or of the index.
abbrev pub link_step : Link-F ExpressionTree LinkTree ArgumentTree EntryTree OperandTree → LinkTree
link_step (Method name items) = MethodTree name.now (arguments items.items)
link_step (Index index) = IndexTree index

-- Returns the name of an argument of the code, if it has one, and the tree of its value.
abbrev pub argument_step : Argument-F ExpressionTree LinkTree ArgumentTree EntryTree OperandTree → ArgumentTree
argument_step a = (option_map (λ k. k.now) a.name, a.value)

-- Returns the trees of the key and the value of an entry of the code.
abbrev pub entry_step : Entry-F ExpressionTree LinkTree ArgumentTree EntryTree OperandTree → EntryTree
entry_step e = (e.key, e.value)

-- Returns the tree of an expression of the code. It has the same parts and lines, without references, boxes and vectors.
abbrev pub expression_of : Expression → ExpressionTree
expression_of = fold-Expression ExpressionTree LinkTree ArgumentTree EntryTree OperandTree expression_step link_step argument_step
    entry_step operand_step

-- Returns the operator of an operand of the code, and the tree of the value after the operator.
abbrev pub operand_of : Operand → OperandTree
operand_of = fold-Operand ExpressionTree LinkTree ArgumentTree EntryTree OperandTree expression_step link_step argument_step entry_step
    operand_step

-- Returns the tree of a method call or an index of the code.
abbrev pub link_of : Link → LinkTree
link_of = fold-Link ExpressionTree LinkTree ArgumentTree EntryTree OperandTree expression_step link_step argument_step entry_step
    operand_step

-- Returns the name of an argument of the code, none if it is positional, and the tree of its value.
abbrev pub argument_of : Argument → ArgumentTree
argument_of = fold-Argument ExpressionTree LinkTree ArgumentTree EntryTree OperandTree expression_step link_step argument_step entry_step
    operand_step

-- Returns the tree of the key and the tree of the value of an entry of the code.
abbrev pub entry_of : Entry → EntryTree
entry_of = fold-Entry ExpressionTree LinkTree ArgumentTree EntryTree OperandTree expression_step link_step argument_step entry_step
    operand_step

-- Returns the trees of the code's arguments.
abbrev pub argument_trees : List Argument → ArgumentTrees
argument_trees xs = arguments (map argument_of xs)

-- Returns the line of the first token.
abbrev pub line_of : ExpressionTree → ℕ
line_of (NameTree name line) = line
line_of (LiteralTree literal text line) = line
line_of (ListTree items line) = line
line_of (DictionaryTree entries line) = line
line_of (FunctionTree name arguments line) = line
line_of (PostfixTree first links line) = line
line_of (PrefixTree prefix value line) = line
line_of (ChainTree first others line) = line
line_of (TernaryTree test one other line) = line

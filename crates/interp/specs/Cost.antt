-- Defines how many rules the evaluation of a tree of files can end at most.
use Rattle.std.specs.Prelude.{ℕ, ◌+◌, ◌*◌, ◌-◌, Bool, ◌||◌, ◌&&◌, List, length, drop, [], ◌∷◌, Result, Ok, Err, codes, bytes_eq}
use Rattle.std.specs.Prelude.{if◌then◌else◌}
use Rattle.std.specs.Str.{is_utf8}
use Rattle.syntax.specs.declared.lexer.fault.SyntaxFault.{SyntaxFault}
use Rattle.syntax.specs.ExpressionTree.{ExpressionTree, NameTree, LiteralTree, ListTree, DictionaryTree, FunctionTree, PostfixTree}
use Rattle.syntax.specs.ExpressionTree.{PrefixTree, ChainTree, TernaryTree, ExpressionTrees, NoExpression, MoreExpressions, EntryTrees}
use Rattle.syntax.specs.ExpressionTree.{NoEntry, MoreEntries, ArgumentTrees, NoArgument, MoreArguments, LinkTree, MethodTree, IndexTree}
use Rattle.syntax.specs.ExpressionTree.{LinkTrees, NoLink, MoreLinks, OperandTrees, NoOperand, MoreOperands}
use Rattle.syntax.specs.Parsed.{parsed_file}
use Rattle.syntax.specs.Tree.{StatementTree, AssignTree, AppendTree, ValueTree, BreakTree, ContinueTree, IfTree, ForeachTree, Statements}
use Rattle.syntax.specs.Tree.{NoStatement, MoreStatements, Branches, NoBranch, MoreBranches, FileTree, statements}
use Rattle.world.specs.Deed.{Files}

-- Returns the cost of an expression: one, plus the cost of its parts.
abbrev mutual
  pub value_cost : ExpressionTree → ℕ
  value_cost (NameTree name line) = 1
  value_cost (LiteralTree literal t line) = 1
  value_cost (ListTree es line) = 1 + values_cost es
  value_cost (DictionaryTree es line) = 1 + entries_cost es
  value_cost (FunctionTree name es line) = 1 + arguments_cost es
  value_cost (PostfixTree first ls line) = 1 + (value_cost first + links_cost ls)
  value_cost (PrefixTree prefix value line) = 1 + value_cost value
  value_cost (ChainTree first others line) = 1 + (value_cost first + chain_cost others)
  value_cost (TernaryTree test one other line) = 1 + (value_cost test + (value_cost one + value_cost other))

  -- Returns the cost of a list of expressions: the sum of their costs.
  pub values_cost : ExpressionTrees → ℕ
  values_cost NoExpression = 0
  values_cost (MoreExpressions e es) = value_cost e + values_cost es

  -- Returns the cost of the entries of a dictionary: the sum of the costs of all keys and values.
  pub entries_cost : EntryTrees → ℕ
  entries_cost NoEntry = 0
  entries_cost (MoreEntries key value es) = value_cost key + (value_cost value + entries_cost es)

  -- Returns the cost of the arguments of a call: the sum of the costs of their values.
  pub arguments_cost : ArgumentTrees → ℕ
  arguments_cost NoArgument = 0
  arguments_cost (MoreArguments name e es) = value_cost e + arguments_cost es

  -- Returns the cost of the methods and indexes that follow a value: the sum of their costs.
  pub links_cost : LinkTrees → ℕ
  links_cost NoLink = 0
  links_cost (MoreLinks l ls) = link_cost l + links_cost ls

  -- Returns the cost of a method, which is that of its arguments, or of an index.
  pub link_cost : LinkTree → ℕ
  link_cost (MethodTree name es) = arguments_cost es
  link_cost (IndexTree index) = value_cost index

  -- Returns the cost of the operands of a chain after the first: the sum of their costs. The operators cost nothing.
  pub chain_cost : OperandTrees → ℕ
  chain_cost NoOperand = 0
  chain_cost (MoreOperands operator e es) = value_cost e + chain_cost es

-- Returns the cost of a statement: one, plus the cost of its parts. A loop costs its body plus one for each iteration that a list allows.
abbrev mutual
  pub statement_cost : StatementTree → ℕ
  statement_cost (AssignTree name line value) = 1 + value_cost value
  statement_cost (AppendTree name line value) = 1 + value_cost value
  statement_cost (ValueTree e line) = 1 + value_cost e
  statement_cost (BreakTree line) = 1
  statement_cost (ContinueTree line) = 1
  statement_cost (IfTree line branches otherwise) = 1 + (branches_cost branches + statements_cost otherwise)
  statement_cost (ForeachTree line first second items items_line body) = 1 + (value_cost items + 65536 * (statements_cost body + 1))

  -- Returns the cost of the branches of an `if`: the sum of the costs of all conditions and bodies.
  pub branches_cost : Branches → ℕ
  branches_cost NoBranch = 0
  branches_cost (MoreBranches test line body bs) = value_cost test + (statements_cost body + branches_cost bs)

  -- Returns the cost of a list of statements: the sum of their costs.
  pub statements_cost : Statements → ℕ
  statements_cost NoStatement = 0
  statements_cost (MoreStatements s ss) = statement_cost s + statements_cost ss

-- Returns the cost of a file that parses: one for the file, plus the cost of its statements.
abbrev pub parsed_cost : Result FileTree SyntaxFault → ℕ
parsed_cost (Ok tree) = 1 + statements_cost (statements tree)
parsed_cost (Err fault) = 0

-- Returns whether the path is that of the root's definition file, or of one in a folder.
abbrev pub is_definition_file : List ℕ → Bool
is_definition_file path = bytes_eq path (codes "meson.build") || bytes_eq (drop (length path - 12) path) (codes "/meson.build")

-- Returns the cost of a definition file that is UTF-8 and parses. Other files cost nothing.
abbrev pub file_cost : List ℕ × List ℕ → ℕ
file_cost file = if is_definition_file file.0 && is_utf8 file.1 then parsed_cost (parsed_file file.1) else 0

-- Returns the cost of all files of a tree.
abbrev pub tree_cost : Files → ℕ
tree_cost [] = 0
tree_cost (file ∷ files) = file_cost file + tree_cost files

-- Defines the grammar of statements, with a form for each line. `inside` says whether a `foreach` of the same file is open. The number is
-- that of the levels that may still be opened.
use Rattle.std.specs.Prelude.{ℕ, zero, suc, Bool, true, false, List, [], ◌∷◌, Option, Some, None, unwrap_or}
use Rattle.syntax.specs.declared.lexer.token.TokenKind.{TokenKind}
use Rattle.syntax.specs.declared.lexer.token.TokenKind.TheVariants.{Name, Assign, PlusAssign, Newline, Comma, Colon, Break, Continue, If}
use Rattle.syntax.specs.declared.lexer.token.TokenKind.TheVariants.{Elif, Else}
use Rattle.syntax.specs.declared.lexer.token.TokenKind.TheVariants.{EndIf, Foreach, EndForeach}
use Rattle.syntax.specs.ExpressionTree.{ExpressionTree}
use Rattle.syntax.specs.Tree.{StatementTree, AssignTree, AppendTree, ValueTree, BreakTree, ContinueTree, IfTree, ForeachTree, FileTree}
use Rattle.syntax.specs.Tree.{statements, BranchTree, branches}
use Rattle.syntax.specs.Form.{Form, token, give, ◌>>=◌, ◌or◌, never, many, optional}
use Rattle.syntax.specs.Parts.{here}
use Rattle.syntax.specs.Expressions.{expr}

-- ---- statements of one line

-- Spells a statement that sets a name: NAME, this sign and expr. `tree` makes the statement of the name, its line and the value.
abbrev pub assignment_form : TokenKind → (List ℕ → ℕ → ExpressionTree → StatementTree) → Form ExpressionTree → Form StatementTree
assignment_form sign tree expr = do
  t ← token Name
  q ← token sign
  e ← expr
  give (tree t.text t.line e)

-- Spells an expression as a statement: expr
abbrev pub plain : Form ExpressionTree → Form StatementTree
plain expr = do
  line ← here
  e ← expr
  give (ValueTree e line)

-- Spells a word that is allowed only inside a `foreach`. The truth value says whether one is open.
abbrev pub leave : TokenKind → (ℕ → StatementTree) → Bool → Form StatementTree
leave k tree true = do
  t ← token k
  give (tree t.line)
leave k tree false = never

-- Spells a statement of one line: NAME ("="|"+=") expr | expr | "break" | "continue"
abbrev pub simple : Bool → ℕ → Form StatementTree
simple inside n =
    leave Break BreakTree inside
    or (leave Continue ContinueTree inside
    or (assignment_form Assign AssignTree (expr n) or (assignment_form PlusAssign AppendTree (expr n) or plain (expr n))))

-- ---- blocks

-- Spells a line that may be empty: [stmt] NL
abbrev pub line : Form StatementTree → Form (Option StatementTree)
line stmt = do
  s ← optional stmt
  t ← token Newline
  give s

-- Returns the statements of the lines, without the empty ones.
abbrev pub statements_of_lines : List (Option StatementTree) → FileTree
statements_of_lines [] = []
statements_of_lines (None ∷ os) = statements_of_lines os
statements_of_lines (Some s ∷ os) = s ∷ statements_of_lines os

-- Spells the statements of a block: body = { [stmt] NL }
abbrev pub body : Form StatementTree → Form (List StatementTree)
body stmt = do
  lines ← many (line stmt)
  give (statements_of_lines lines)

-- Spells the second name of a `foreach`: "," NAME
abbrev pub second : Form (List ℕ)
second = do
  c ← token Comma
  t ← token Name
  give t.text

-- Spells the names of a `foreach`: NAME ["," NAME] ":"
abbrev pub names : Form (List ℕ × Option (List ℕ))
names = do
  a ← token Name
  b ← optional second
  c ← token Colon
  give (a.text, b)

-- Spells a condition, or the list of a `foreach`, and the body after it: expr NL body
abbrev pub branch : Form ExpressionTree → Form StatementTree → Form BranchTree
branch expr stmt = do
  line ← here
  e ← expr
  t ← token Newline
  ss ← body stmt
  give (e, line, statements ss)

-- Spells a loop: "foreach" NAME ["," NAME] ":" expr NL body "endforeach"
abbrev pub foreach : Form ExpressionTree → Form StatementTree → Form StatementTree
foreach expr stmt = do
  w ← token Foreach
  x ← names
  b ← branch expr stmt
  end ← token EndForeach
  give (ForeachTree w.line x.0 x.1 b.0 b.1 b.2)

-- Spells a further branch of an `if`: "elif" expr NL body
abbrev pub elif : Form ExpressionTree → Form StatementTree → Form BranchTree
elif expr stmt = do
  w ← token Elif
  branch expr stmt

-- Spells the branches of an `if` that have a condition, after the word: expr NL body {"elif" expr NL body}
abbrev pub parts : Form ExpressionTree → Form StatementTree → Form (List BranchTree)
parts expr stmt = do
  first ← branch expr stmt
  others ← many (elif expr stmt)
  give (first ∷ others)

-- Spells the branch of an `if` without a condition: "else" NL body
abbrev pub last_part : Form StatementTree → Form (List StatementTree)
last_part stmt = do
  w ← token Else
  t ← token Newline
  body stmt

-- Spells the branch of an `if` without a condition if there is one, and otherwise gives no statements: ["else" NL body]
abbrev pub otherwise : Form StatementTree → Form (List StatementTree)
otherwise stmt = do
  last ← optional (last_part stmt)
  give (unwrap_or last [])

-- Spells an `if`: "if" expr NL body {"elif" expr NL body} ["else" NL body] "endif"
abbrev pub conditional : Form ExpressionTree → Form StatementTree → Form StatementTree
conditional expr stmt = do
  w ← token If
  bs ← parts expr stmt
  ss ← otherwise stmt
  end ← token EndIf
  give (IfTree w.line (branches bs) (statements ss))

-- Spells a block, which opens a level at its word. The condition of an `if` and the list of a `foreach` are inside.
unfoldable pub block : Bool → ℕ → Form StatementTree
block inside zero = never
block inside (suc n) = foreach (expr n) (block true n or simple true n) or conditional (expr n) (block inside n or simple inside n)

-- Spells a block, or a statement of one line.
abbrev pub stmt : Bool → ℕ → Form StatementTree
stmt inside n = block inside n or simple inside n

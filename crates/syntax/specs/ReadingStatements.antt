-- Defines how statements are read by their grammar, as functions: a reader returns a value and the tokens after it, or where reading stops.
use Rattle.std.specs.Prelude.{◌≡◌, ℕ, zero, suc, Bool, true, false, not, ◌||◌, List, [], ◌∷◌, ◌++◌, length, Result, Ok, Err, Option}
use Rattle.std.specs.Prelude.{unwrap_or, if◌then◌else◌}
use Rattle.syntax.specs.lexer.Lexeme.{Lexeme}
use Rattle.syntax.specs.lexer.Kinds.{is}
use Rattle.syntax.specs.declared.lexer.token.TokenKind.{TokenKind}
use Rattle.syntax.specs.declared.lexer.token.TokenKind.TheVariants as Kinds
use Rattle.syntax.specs.declared.stop.ReadError.{ReadError}
use Rattle.syntax.specs.declared.stop.ParseStop.{ParseStop}
use Rattle.syntax.specs.declared.stop.ParseStop.TheVariants.{Unexpected}
use Rattle.syntax.specs.Parts.{here_at}
use Rattle.syntax.specs.ExpressionTree.{ExpressionTree}
use Rattle.syntax.specs.Tree.{StatementTree, AssignTree, AppendTree, ValueTree, BreakTree, ContinueTree, IfTree, ForeachTree, FileTree}
use Rattle.syntax.specs.Tree.{statements, BranchTree, branches}
use Rattle.syntax.specs.Statements.{statements_of_lines}
use Rattle.syntax.specs.Reading.{Reader, ◌>>=◌, Fails, begins, token_at, many_at, or_at, optional_at, deep_at, two_begin}
use Rattle.syntax.specs.ReadingExpressions.{expr_at}

-- ---- statements of one line

-- Returns the sign of `+=` or `=`, and the statement.
abbrev pub sign_of : Bool → TokenKind
sign_of appends = if appends then Kinds.PlusAssign else Kinds.Assign

-- Returns the statement that sets a name, or adds to its value.
abbrev pub set_tree : Bool → List ℕ → ℕ → ExpressionTree → StatementTree
set_tree appends = if appends then AppendTree else AssignTree

-- Reads a statement that sets a name, with the token of this kind after the name.
unfoldable pub set_at : TokenKind → (List ℕ → ℕ → ExpressionTree → StatementTree) → Reader ExpressionTree → Reader StatementTree
set_at k tree r ts = do
  t ← token_at Kinds.Name ts
  q ← token_at k t.1
  e ← r q.1
  Ok (tree t.0.text t.0.line e.0, e.1)

-- Reads an expression alone.
unfoldable pub plain_at : Reader ExpressionTree → Reader StatementTree
plain_at r ts = do
  line ← here_at ts
  e ← r line.1
  Ok (ValueTree e.0 line.0, e.1)

-- Returns the word of `break` or `continue`, and the statement.
abbrev pub leave_word : Bool → TokenKind
leave_word breaks = if breaks then Kinds.Break else Kinds.Continue

-- Returns `break` or `continue`.
abbrev pub leave_tree : Bool → ℕ → StatementTree
leave_tree breaks = if breaks then BreakTree else ContinueTree

-- Reads the word of `break` or `continue`, which is allowed only inside a loop.
unfoldable pub leave_at : TokenKind → (ℕ → StatementTree) → Bool → Reader StatementTree
leave_at k tree true ts = token_at k ts >>= λ t. Ok (tree t.0.line, t.1)
leave_at k tree false ts = Err (Unexpected (length ts))

-- Reads a statement of one line.
unfoldable pub simple_at : Bool → ℕ → Reader StatementTree
simple_at inside n ts =
    or_at (begins Kinds.Break) (leave_at Kinds.Break BreakTree inside)
    (or_at (begins Kinds.Continue) (leave_at Kinds.Continue ContinueTree inside)
    (or_at (two_begin Kinds.Name Kinds.Assign) (set_at Kinds.Assign AssignTree (expr_at n))
    (or_at (two_begin Kinds.Name Kinds.PlusAssign) (set_at Kinds.PlusAssign AppendTree (expr_at n))
    (plain_at (expr_at n))))) ts

-- ---- blocks

-- Returns whether no statement is left on this line.
abbrev pub ends_line : List Lexeme → Bool
ends_line [] = true
ends_line (t ∷ ts) = is t.kind Kinds.Newline

-- Returns whether a statement is left on this line.
abbrev pub in_line : List Lexeme → Bool
in_line ts = not (ends_line ts)

-- Returns whether a token of this kind begins another branch of a block or ends the block.
abbrev pub ends_body : TokenKind → Bool
ends_body k = is k Kinds.EndForeach || (is k Kinds.EndIf || (is k Kinds.Elif || is k Kinds.Else))

-- Returns whether another line of a body follows: there is a token, and it neither begins another branch nor ends a block.
abbrev pub in_body : List Lexeme → Bool
in_body [] = false
in_body (t ∷ ts) = not (ends_body t.kind)

-- Reads a statement if one is left on this line: [stmt]
abbrev pub maybe_at : Reader StatementTree → Reader (Option StatementTree)
maybe_at r = optional_at in_line r

-- Relates the result of a function that appends a line's statement, with the statements before and after it, to the result of reading,
-- unless memory ran out.
abbrev pub GivesLine : {X : Type 0} → List StatementTree → List StatementTree → Result X ReadError → List Lexeme
    → Result (Option StatementTree × List Lexeme) ParseStop → Type 0
GivesLine before after (Ok x) rest read = (o : Option StatementTree) × (read ≡ Ok (o, rest))
    × (after ≡ before ++ statements_of_lines (o ∷ []))
GivesLine before after (Err e) rest read = Fails e read

-- Reads a line that may be empty, and the newline that ends it: [stmt] NL
unfoldable pub ended_line_at : Reader StatementTree → Reader (Option StatementTree)
ended_line_at r ts = do
  s ← maybe_at r ts
  t ← token_at Kinds.Newline s.1
  Ok (s.0, t.1)

-- Reads lines, up to a word that begins another branch or ends a block. Returns their statements, without the empty lines.
unfoldable pub body_at : Reader StatementTree → Reader (List StatementTree)
body_at r ts = do
  lines ← many_at in_body (ended_line_at r) (length ts) ts
  Ok (statements_of_lines lines.0, lines.1)

-- Reads a comma and the second name of a `foreach`: "," NAME
unfoldable pub second_at : Reader (List ℕ)
second_at ts = do
  c ← token_at Kinds.Comma ts
  t ← token_at Kinds.Name c.1
  Ok (t.0.text, t.1)

-- Reads the name or the two names of a `foreach`, and the colon after them.
unfoldable pub names_at : Reader (List ℕ × Option (List ℕ))
names_at ts = do
  a ← token_at Kinds.Name ts
  b ← optional_at (begins Kinds.Comma) second_at a.1
  c ← token_at Kinds.Colon b.1
  Ok ((a.0.text, b.0), c.1)

-- Reads a condition or the list of a `foreach`, the newline after it, and the body. The line is that of the first token.
unfoldable pub branch_at : Reader ExpressionTree → Reader StatementTree → Reader BranchTree
branch_at expr stmt ts = do
  line ← here_at ts
  e ← expr line.1
  t ← token_at Kinds.Newline e.1
  ss ← body_at stmt t.1
  Ok ((e.0, line.0, statements ss.0), ss.1)

-- Reads a `foreach`, from its word to `endforeach`.
unfoldable pub foreach_at : Reader ExpressionTree → Reader StatementTree → Reader StatementTree
foreach_at expr stmt ts = do
  w ← token_at Kinds.Foreach ts
  x ← names_at w.1
  b ← branch_at expr stmt x.1
  end ← token_at Kinds.EndForeach b.1
  Ok (ForeachTree w.0.line x.0.0 x.0.1 b.0.0 b.0.1 b.0.2, end.1)

-- Reads `elif`, its condition and its body.
unfoldable pub elif_at : Reader ExpressionTree → Reader StatementTree → Reader BranchTree
elif_at expr stmt ts = do
  w ← token_at Kinds.Elif ts
  branch_at expr stmt w.1

-- Reads the branches of an `if` that have a condition, from the condition after `if` on.
unfoldable pub parts_at : Reader ExpressionTree → Reader StatementTree → Reader (List BranchTree)
parts_at expr stmt ts = do
  first ← branch_at expr stmt ts
  others ← many_at (begins Kinds.Elif) (elif_at expr stmt) (length first.1) first.1
  Ok (first.0 ∷ others.0, others.1)

-- Reads `else`, the newline after it, and the body.
unfoldable pub last_part_at : Reader StatementTree → Reader (List StatementTree)
last_part_at stmt ts = do
  w ← token_at Kinds.Else ts
  t ← token_at Kinds.Newline w.1
  body_at stmt t.1

-- Reads `else` and its body if `else` follows. Otherwise it reads nothing, and returns no statements.
unfoldable pub otherwise_at : Reader StatementTree → Reader (List StatementTree)
otherwise_at stmt ts = do
  last ← optional_at (begins Kinds.Else) (last_part_at stmt) ts
  Ok (unwrap_or last.0 [], last.1)

-- Reads the branches of an `if` that have a condition, and the statements after `else`, up to the end.
unfoldable pub alternatives_at : Reader ExpressionTree → Reader StatementTree → Reader (List BranchTree × List StatementTree)
alternatives_at expr stmt ts = do
  bs ← parts_at expr stmt ts
  ss ← otherwise_at stmt bs.1
  end ← token_at Kinds.EndIf ss.1
  Ok ((bs.0, ss.0), end.1)

-- Reads an `if`, from its word to `endif`.
unfoldable pub conditional_at : Reader ExpressionTree → Reader StatementTree → Reader StatementTree
conditional_at expr stmt ts = do
  w ← token_at Kinds.If ts
  bs ← parts_at expr stmt w.1
  ss ← otherwise_at stmt bs.1
  end ← token_at Kinds.EndIf ss.1
  Ok (IfTree w.0.line (branches bs.0) (statements ss.0), end.1)

-- Returns whether a token of this kind opens a block.
abbrev pub opens_block : TokenKind → Bool
opens_block k = is k Kinds.Foreach || is k Kinds.If

-- Returns whether the first token opens a block. It is false if there is no token.
abbrev pub begins_block : List Lexeme → Bool
begins_block [] = false
begins_block (t ∷ ts) = opens_block t.kind

-- Reads a `foreach` or an `if`, which opens a level if one of n is left. `inside` says whether a `foreach` is open.
unfoldable pub block_at : Bool → ℕ → Reader StatementTree
block_at inside zero ts = or_at (begins Kinds.Foreach) (deep_at Kinds.Foreach) (deep_at Kinds.If) ts
block_at inside (suc n) ts =
    or_at (begins Kinds.Foreach) (foreach_at (expr_at n) (or_at begins_block (block_at true n) (simple_at true n)))
    (conditional_at (expr_at n) (or_at begins_block (block_at inside n) (simple_at inside n))) ts

-- Reads a block, or a statement of one line, when n levels may be opened. `inside` says whether a `foreach` is open.
unfoldable pub stmt_at : Bool → ℕ → Reader StatementTree
stmt_at inside n ts = or_at begins_block (block_at inside n) (simple_at inside n) ts

-- ---- files

-- Reads a statement of the file itself if one is left on this line: [stmt]
abbrev pub line_at : ℕ → Reader (Option StatementTree)
line_at n = maybe_at (stmt_at false n)

-- Reads a newline and the line after it, which may be empty: NL [stmt]
unfoldable pub next_line_at : ℕ → Reader (Option StatementTree)
next_line_at n ts = do
  t ← token_at Kinds.Newline ts
  line_at n t.1

-- Reads lines with newlines between them, when n levels may be opened. Returns their statements, without the empty lines.
unfoldable pub file_at : ℕ → Reader FileTree
file_at n ts = do
  first ← line_at n ts
  others ← many_at (begins Kinds.Newline) (next_line_at n) (length first.1) first.1
  Ok (statements_of_lines (first.0 ∷ others.0), others.1)

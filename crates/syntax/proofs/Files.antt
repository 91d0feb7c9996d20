-- The lines of files, each but the first behind a newline.
use Rattle.std.proofs.Common.{ℕ, suc, false, List, ◌∷◌, length, sym, ◌∙◌, inl, inr, arith, Option}
use Rattle.syntax.specs.lexer.Lexeme.{Lexeme}
use Rattle.syntax.specs.declared.lexer.token.TokenKind.TheVariants as Kinds
use Rattle.syntax.specs.Tree.{StatementTree, FileTree}
use Rattle.syntax.specs.Form.{Form, token, give, many, optional, ◌>>=◌}
use Rattle.syntax.specs.Statements.{stmt, statements_of_lines}
use Rattle.syntax.specs.Reading.{Reader, begins, many_at}
use Rattle.syntax.specs.ReadingStatements.{file_at, line_at, next_line_at}
use Rattle.syntax.proofs.Blocks.{AfterLine, after_newline, line-maybe, line-stmt, starts-stmt}
use Rattle.syntax.proofs.Chain.{before_leads, then_line, EndsBefore, line-many, leads-give, leads-many, give_line}
use Rattle.syntax.proofs.Laws.{bind_at, give_at}
use Rattle.syntax.proofs.Line.{Line, line-token}
use Rattle.syntax.proofs.Starts.{Starts, begins-head, starts-bind, starts-token}
use Rattle.syntax.proofs.Statements.{is_newline}

-- ---- [stmt]

abbrev pub maybe : ℕ → Form (Option StatementTree)
maybe n = optional (stmt false n)

pub line-first : (n : ℕ) → Line (maybe n) (maybe (suc n)) (line_at n) (line_at (suc n)) AfterLine 0
line-first n = line-maybe (starts-stmt false n) (line-stmt false n)

-- ---- NL [stmt]

abbrev pub next : ℕ → Form (Option StatementTree)
next n = token Kinds.Newline >>= λ t. maybe n

line-next : (n : ℕ) → Line (next n) (next (suc n)) (next_line_at n) (next_line_at (suc n)) AfterLine 1
unfolding next_line_at
line-next n = then_line (line-token Kinds.Newline) (λ (t : Lexeme). line-first n)

starts-next : (n : ℕ) → Starts (next n) is_newline
starts-next n = starts-bind (token Kinds.Newline) (λ t. maybe n) is_newline (starts-token Kinds.Newline)

abbrev pub AfterLines : List Lexeme → Type 0
AfterLines = EndsBefore (begins Kinds.Newline) AfterLine

abbrev nexts_at : ℕ → Reader (List (Option StatementTree))
nexts_at n ts = many_at (begins Kinds.Newline) (next_line_at n) (length ts) ts

line-nexts : (n : ℕ) → Line (many (next n)) (many (next (suc n))) (nexts_at n) (nexts_at (suc n)) AfterLines 0
line-nexts n = line-many (begins Kinds.Newline) (omega arith)
    (λ a ts rest h. begins-head Kinds.Newline ts ∙ (starts-next n).spelled a ts rest h)
    (λ ts e. after_newline ts (sym (begins-head Kinds.Newline ts) ∙ e))
    (λ ts more h e. elim ((starts-next n).begun ts more h)
    [ inl same ↦ same | inr head ↦ let b = begins-head Kinds.Newline ts in absurd cc ])
    (line-next n)

-- ---- [stmt] {NL [stmt]}

abbrev pub others : ℕ → Option StatementTree → Form FileTree
others n first = many (next n) >>= λ os. give (statements_of_lines (first ∷ os))

abbrev others_at : ℕ → Option StatementTree → Reader FileTree
others_at n first = bind_at (nexts_at n) (λ os. give_at (statements_of_lines (first ∷ os)))

line-others : (n : ℕ) (first : Option StatementTree)
    → Line (others n first) (others (suc n) first) (others_at n first) (others_at (suc n) first) AfterLines 0
line-others n first = give_line (λ (os : List (Option StatementTree)). statements_of_lines (first ∷ os)) (line-nexts n)

-- the lines, each but the first behind a newline
abbrev pub lines : ℕ → Form FileTree
lines n = maybe n >>= others n

pub line-lines : (n : ℕ) → Line (lines n) (lines (suc n)) (file_at n) (file_at (suc n)) AfterLines 0
unfolding file_at
line-lines n = before_leads is_newline after_newline (λ ts st. st.1)
    (λ (first : Option StatementTree). leads-give (many (next n)) (λ (os : List (Option StatementTree)). statements_of_lines (first ∷ os)) is_newline
    (leads-many (next n) is_newline (starts-next n)))
    (line-first n) (line-others n)

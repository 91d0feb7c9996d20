-- Defines how definition files are read: from bytes to statements.
use Prim.Native.Char.{code}
use Rattle.std.specs.Prelude.{ℕ, ◌+◌, Bool, true, false, List, [], take, count_by, nat_eq, nat_le, length, Result, Ok, Err, refl}
use Rattle.std.specs.Str.{is_utf8}
use Rattle.std.specs.Str.Lossy.{utf8_valid_len}
use Rattle.syntax.specs.declared.lexer.fault.SyntaxFault.{SyntaxFault}
use Rattle.syntax.specs.declared.lexer.fault.FaultKind.{FaultKind}
use Rattle.syntax.specs.declared.lexer.fault.FaultKind.TheVariants as kinds
use Rattle.syntax.specs.Parsed.{parsed_file}
use Rattle.syntax.specs.Tree.{FileTree, Statements, statements}
use Rattle.support.specs.declared.faults.refusal.Refusal.{Refusal}
use Rattle.support.specs.declared.faults.refusal.Refusal.TheVariants as refusals
use Rattle.support.specs.Limits.{text_bytes}
use Rattle.world.specs.World.{with_line}
use Rattle.world.specs.Deed.{Deed, give, refuse, change, ◌>>=◌, need}

-- Returns the most bytes of a definition file.
abbrev pub most_bytes : ℕ
most_bytes = text_bytes

-- Returns the line of the byte at an offset.
abbrev pub line_at : List ℕ → ℕ → ℕ
line_at bytes at = 1 + count_by (nat_eq (code "\n")) (take at bytes)

-- Returns the refusal for a kind of syntax fault.
abbrev pub refusal_of : FaultKind → Refusal
refusal_of kinds.Token = refusals.Token
refusal_of kinds.Grammar = refusals.Grammar
refusal_of kinds.Nesting = refusals.Nesting

-- Refuses the call at a line of the present file.
unfoldable pub refuse_line : {A : Type 0} → ℕ → Refusal → Deed A
refuse_line line refusal = do
  _ ← change (with_line line) (λ facts. refl)
  refuse refusal []

-- Returns the statements of a parsed text, or refuses its syntax fault.
unfoldable pub tree_or_fault : Result FileTree SyntaxFault → Deed Statements
tree_or_fault (Ok tree) = give (statements tree)
tree_or_fault (Err fault) = refuse_line fault.line (refusal_of fault.kind)

-- Returns the statements of a text, or E1 if it is not UTF-8.
unfoldable pub spelled_by : Bool → List ℕ → Deed Statements
spelled_by true bytes = tree_or_fault (parsed_file bytes)
spelled_by false bytes = refuse_line (line_at bytes (utf8_valid_len bytes)) refusals.NotUtf8

-- Returns the statements of the present definition file from its bytes. Refuses E22 if there are too many bytes, then E1, then E2 to E4.
unfoldable pub statements_of_bytes : List ℕ → Deed Statements
statements_of_bytes bytes = do
  _ ← need (nat_le (length bytes) most_bytes) refusals.Limit []
  spelled_by (is_utf8 bytes) bytes

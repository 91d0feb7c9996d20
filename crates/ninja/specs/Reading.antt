-- Defines what a Ninja file says, by the Ninja manual (“Ninja file reference”).
use Prim.Native.Char.{code}
use Rattle.std.specs.Prelude.{ℕ, zero, suc, Bool, true, false, cond, ◌||◌, ◌&&◌, List, [], ◌∷◌, ◌++◌, length, codes, unwrap_or}
use Rattle.std.specs.Prelude.{Option, Some, None}
use Rattle.support.specs.OptionSteps.{◌>>=◌}
use Rattle.ninja.specs.Pieces.{Piece, Plain, Escaped, Variable, Scope, pieces_of, expansion}
use Rattle.ninja.specs.Bytes.{same_bytes}
use Rattle.ninja.specs.Lines.{is_plain, lines_of, without_blanks, begins_blank, name_at, plain_name, is_name}
use Rattle.ninja.specs.Lines.{Token, Path, Colon, Bar, Bars, tokens_of}

-- ---- a build line

-- A `build` line, whose paths are not expanded yet.
pub record BuildLine : Type 0 where
  -- The explicit outputs, which `$out` names.
  pub outputs : List (List Piece)
  -- The implicit outputs, after `|` and before the colon.
  pub implicit_outputs : List (List Piece)
  pub rule : List ℕ
  -- The explicit dependencies, which `$in` names.
  pub inputs : List (List Piece)
  -- The implicit dependencies, after `|`.
  pub implicit : List (List Piece)
  -- The order-only dependencies, after `||`.
  pub order_only : List (List Piece)

-- Returns paths with a token before them, if that is a path.
abbrev pub paths_step : Token → List Token → List (List Piece) × List Token → List (List Piece) × List Token
paths_step (Path p) ts found = (p ∷ found.0, found.1)
paths_step Colon ts found = ([], Colon ∷ ts)
paths_step Bar ts found = ([], Bar ∷ ts)
paths_step Bars ts found = ([], Bars ∷ ts)

-- Returns the paths at the front, and what follows them.
abbrev pub paths_at : List Token → List (List Piece) × List Token
paths_at [] = ([], [])
paths_at (t ∷ ts) = paths_step t ts (paths_at ts)

-- Returns the paths after one bar, if there is one, and what follows them.
abbrev pub paths_behind_bar : List Token → List (List Piece) × List Token
paths_behind_bar [] = ([], [])
paths_behind_bar (Path p ∷ ts) = ([], Path p ∷ ts)
paths_behind_bar (Colon ∷ ts) = ([], Colon ∷ ts)
paths_behind_bar (Bar ∷ ts) = paths_at ts
paths_behind_bar (Bars ∷ ts) = ([], Bars ∷ ts)

-- Returns the paths after two bars, if there are any, and what follows them.
abbrev pub paths_behind_bars : List Token → List (List Piece) × List Token
paths_behind_bars [] = ([], [])
paths_behind_bars (Path p ∷ ts) = ([], Path p ∷ ts)
paths_behind_bars (Colon ∷ ts) = ([], Colon ∷ ts)
paths_behind_bars (Bar ∷ ts) = ([], Bar ∷ ts)
paths_behind_bars (Bars ∷ ts) = paths_at ts

-- Returns the name of the rule after a colon, and what follows it.
abbrev pub rule_behind_colon : List Token → Option (List ℕ × List Token)
rule_behind_colon (Colon ∷ Path rule ∷ ts) = plain_name rule >>= λ name. Some (name, ts)
rule_behind_colon _ = None

-- Returns x if no token is left.
abbrev pub at_end : {A : Type 0} → List Token → A → Option A
at_end [] x = Some x
at_end (t ∷ ts) x = None

-- Returns x if there is a path.
abbrev pub with_path : {A : Type 0} → List (List Piece) → Option A → Option A
with_path [] x = None
with_path (p ∷ ps) x = x

-- Returns the `build` line of the tokens after its word: PATHS [| PATHS]: RULE [PATHS] [| PATHS] [|| PATHS]. Returns none for other tokens.
unfoldable pub build_line : List Token → Option BuildLine
build_line ts =
    let outs = paths_at ts in
    let implicit_outs = paths_behind_bar outs.1 in
    with_path outs.0 (rule_behind_colon implicit_outs.1 >>= λ rule.
    let ins = paths_at rule.1 in
    let implicits = paths_behind_bar ins.1 in
    let orders = paths_behind_bars implicits.1 in
    at_end orders.1 (record {
      outputs = outs.0;
      implicit_outputs = implicit_outs.0;
      rule = rule.0;
      inputs = ins.0;
      implicit = implicits.0;
      order_only = orders.0;
    }))

-- Returns the paths of a `default` line.
abbrev pub default_line : List Token → Option (List (List Piece))
default_line ts = let paths = paths_at ts in with_path paths.0 (at_end paths.1 paths.0)

-- ---- one line

-- A statement of one line. A `Let` gives a name a value, and is indented in a block.
pub data Statement : Type 0 where
  -- The line is empty, or has spaces alone.
  Empty : Statement
  Let : (indented : Bool) (name : List ℕ) (value : List Piece) → Statement
  -- The line is `rule NAME`, which begins a rule.
  RuleHead : (name : List ℕ) → Statement
  -- The line is `build OUTPUTS: RULE INPUTS`, which begins an edge.
  BuildHead : (line : BuildLine) → Statement
  -- The line is `default PATHS`.
  Default : (paths : List (List Piece)) → Statement

-- Returns the statement of `= value` after a name.
abbrev pub let_behind : Bool → List ℕ → List Piece → Option Statement
let_behind indented name [] = None
let_behind indented name (p ∷ ps) =
    cond (is_plain (code "=") p && is_name name) (Some (Let indented name (without_blanks ps))) None

-- Returns the statement that gives a name a value.
abbrev pub let_of : Bool → List ℕ × List Piece → Option Statement
let_of indented found = let_behind indented found.0 (without_blanks found.1)

-- Returns the statement of a `rule` line.
abbrev pub rule_line : List Piece → Option Statement
rule_line ps = plain_name ps >>= λ name. Some (RuleHead name)

-- Returns the tokens after a word, which a space must follow.
abbrev pub tokens_behind : List Piece → Option (List Token)
tokens_behind ps = cond (begins_blank ps) (tokens_of ps) None

-- Returns the statement of a line that begins with a name.
abbrev pub named_statement : List ℕ × List Piece → Option Statement
named_statement found =
    elim (same_bytes found.0 (codes "build")) [
      | true ↦ tokens_behind found.1 >>= λ ts. build_line ts >>= λ line. Some (BuildHead line)
      | false ↦ elim (same_bytes found.0 (codes "rule")) [
        | true ↦ rule_line (without_blanks found.1)
        | false ↦ elim (same_bytes found.0 (codes "default")) [
          | true ↦ tokens_behind found.1 >>= λ ts. default_line ts >>= λ paths. Some (Default paths)
          | false ↦ let_of false found
        ]
      ]
    ]

-- Returns the statement of an indented line.
abbrev pub indented_statement : List Piece → Option Statement
indented_statement [] = Some Empty
indented_statement (p ∷ ps) = let_of true (name_at (p ∷ ps))

-- Returns the statement of a line, if it is one.
abbrev pub statement_of : List Piece → Option Statement
statement_of [] = Some Empty
statement_of (p ∷ ps) = elim (is_plain (code " ") p) [ true ↦ indented_statement (without_blanks ps) | false ↦ named_statement (name_at (p ∷ ps)) ]

-- ---- the file

-- A rule, and the values of its variables, which are not expanded yet.
pub record Rule : Type 0 where
  pub name : List ℕ
  pub bindings : List (List ℕ × List Piece)

-- An edge: its paths, its rule, and the values of its own variables.
pub record BuildEdge : Type 0 where
  pub outputs : List (List ℕ)
  pub implicit_outputs : List (List ℕ)
  pub rule : List ℕ
  pub inputs : List (List ℕ)
  pub implicit : List (List ℕ)
  pub order_only : List (List ℕ)
  pub bindings : List (List ℕ × List ℕ)

-- The content of a Ninja file: variables, rules, edges, and the targets that are made by default.
pub record Manifest : Type 0 where
  pub variables : List (List ℕ × List ℕ)
  pub rules : List Rule
  pub edges : List BuildEdge
  pub defaults : List (List ℕ)

-- The block to which indented lines belong.
pub data Block : Type 0 where
  -- No block is open, so an indented line with a value is refused.
  NoBlock : Block
  -- A `rule` line was read, and the indented lines after it so far.
  RuleBlock : (rule : Rule) → Block
  -- A `build` line was read, and the values of the indented lines after it so far.
  EdgeBlock : (line : BuildLine) (bindings : List (List ℕ × List ℕ)) → Block

-- The state of a reader of lines: the content so far, and the block that is open.
pub record State : Type 0 where
  pub read : Manifest
  pub block : Block

-- Returns the last value given to a name.
abbrev pub value_in : {V : Type 0} → List (List ℕ × V) → List ℕ → Option V
value_in [] name = None
value_in (b ∷ bs) name = later (value_in bs name) (same_bytes b.0 name) b.1
  where
    later : {V : Type 0} → Option V → Bool → V → Option V
    later (Some v) found here = Some v
    later None true here = Some here
    later None false here = None

-- Looks a name up in the file. A name without a value is empty.
abbrev pub file_scope : Manifest → Scope
file_scope m name = unwrap_or (value_in m.variables name) []

-- Looks a name up in the block of a `build` line: first its own values, then the file's.
abbrev pub block_scope : Manifest → List (List ℕ × List ℕ) → Scope
block_scope m bindings name = unwrap_or (value_in bindings name) (file_scope m name)

-- Returns the texts of these pieces.
abbrev pub expansions : Scope → List (List Piece) → List (List ℕ)
expansions scope [] = []
expansions scope (p ∷ ps) = expansion scope p ∷ expansions scope ps

-- Returns the edge of a `build` line, with its paths expanded.
abbrev pub edge_of : Scope → BuildLine → List (List ℕ × List ℕ) → BuildEdge
edge_of scope line bindings = record {
  outputs = expansions scope line.outputs;
  implicit_outputs = expansions scope line.implicit_outputs;
  rule = line.rule;
  inputs = expansions scope line.inputs;
  implicit = expansions scope line.implicit;
  order_only = expansions scope line.order_only;
  bindings = bindings;
}

-- Returns the manifest after a block. The paths of a `build` line are expanded once its whole block is read.
abbrev pub manifest_after_block : Manifest → Block → Manifest
manifest_after_block m NoBlock = m
manifest_after_block m (RuleBlock rule) = record m { rules = m.rules ++ rule ∷ [] }
manifest_after_block m (EdgeBlock line bindings) = record m { edges = m.edges ++ edge_of (block_scope m bindings) line bindings ∷ [] }

-- Binds a value in a block. A value of a `build` line is expanded at once, in the scope outside the block, and a rule's when it is used.
abbrev pub block_with_binding : Scope → List ℕ → List Piece → Block → Option Block
block_with_binding scope name value NoBlock = None
block_with_binding scope name value (RuleBlock rule) = Some (RuleBlock (record rule { bindings = rule.bindings ++ (name, value) ∷ [] }))
block_with_binding scope name value (EdgeBlock line bindings) = Some (EdgeBlock line (bindings ++ (name, expansion scope value) ∷ []))

-- Returns the state after a statement, or `None` if it is not allowed here.
abbrev pub after_statement : State → Statement → Option State
after_statement s Empty = Some (record { read = manifest_after_block s.read s.block; block = NoBlock })
after_statement s (Let true name value) = block_with_binding (file_scope s.read) name value s.block
    >>= λ b. Some (record { read = s.read; block = b })
after_statement s (Let false name value) =
    let m = manifest_after_block s.read s.block in
    Some (record { read = record m { variables = m.variables ++ (name, expansion (file_scope m) value) ∷ [] }; block = NoBlock })
after_statement s (RuleHead name) = Some (record {
  read = manifest_after_block s.read s.block;
  block = RuleBlock (record { name = name; bindings = [] });
})
after_statement s (BuildHead line) = Some (record {
  read = manifest_after_block s.read s.block;
  block = EdgeBlock line [];
})
after_statement s (Default paths) =
    let m = manifest_after_block s.read s.block in
    Some (record { read = record m { defaults = m.defaults ++ expansions (file_scope m) paths }; block = NoBlock })

-- Reads further lines from a state.
abbrev pub after_lines : State → List (List Piece) → Option State
after_lines s [] = Some s
after_lines s (line ∷ lines) = statement_of line >>= λ statement. after_statement s statement >>= λ t. after_lines t lines

-- Reads further text from a state.
abbrev pub reads_from : State → List ℕ → Option State
reads_from s text = pieces_of text >>= λ ps. after_lines s (lines_of ps)

-- Returns the manifest of an empty file.
abbrev pub nothing_read : Manifest
nothing_read = record { variables = []; rules = []; edges = []; defaults = [] }

-- Returns the manifest of a Ninja file's text, or none if it has a `$` or a line without a meaning.
abbrev pub manifest_of : List ℕ → Option Manifest
manifest_of text = reads_from (record { read = nothing_read; block = NoBlock }) text >>= λ s. Some (manifest_after_block s.read s.block)

-- ---- the value of a rule's variable for an edge

-- Returns the first rule with this name.
abbrev pub rule_named : List Rule → List ℕ → Option Rule
rule_named [] name = None
rule_named (r ∷ rs) name = cond (same_bytes r.name name) (Some r) (rule_named rs name)

-- Returns a text with another before it, if there is one.
abbrev pub put_before : List ℕ → Option (List ℕ) → Option (List ℕ)
put_before front (Some rest) = Some (front ++ rest)
put_before front None = None

-- Returns the text of a piece, in a scope that may lack values.
abbrev pub piece_used : (List ℕ → Option (List ℕ)) → Piece → Option (List ℕ)
piece_used scope (Plain b) = Some (b ∷ [])
piece_used scope (Escaped b) = Some (b ∷ [])
piece_used scope (Variable name) = scope name

-- Returns the text of pieces, in a scope that may lack values.
abbrev pub text_in_scope : (List ℕ → Option (List ℕ)) → List Piece → Option (List ℕ)
text_in_scope scope [] = Some []
text_in_scope scope (p ∷ ps) = piece_used scope p >>= λ front. put_before front (text_in_scope scope ps)

-- Returns the value of a rule's variable, expanded, or else the other value.
abbrev pub rule_value : (List Piece → Option (List ℕ)) → Option (List Piece) → List ℕ → Option (List ℕ)
rule_value expanded (Some pieces) other = expanded pieces
rule_value expanded None other = Some other

-- Returns the first value if there is one, and else the other.
abbrev pub first_value : Option (List ℕ) → Option (List ℕ) → Option (List ℕ)
first_value (Some v) other = Some v
first_value None other = other

-- Looks a variable up: first in the edge's own values, then in the rule's, whose variables are looked up again, then in the file's. `depth`
-- limits the nesting. `$in` and `$out` are not read here.
abbrev pub value_at : ℕ → Manifest → Rule → BuildEdge → List ℕ → Option (List ℕ)
value_at zero m rule edge name = None
value_at (suc depth) m rule edge name =
    elim (same_bytes name (codes "in") || same_bytes name (codes "out")) [
      | true ↦ None
      | false ↦ first_value (value_in edge.bindings name)
          (rule_value (text_in_scope (value_at depth m rule edge)) (value_in rule.bindings name) (file_scope m name))
    ]

-- Returns the value of a variable of the edge's rule for the edge.
abbrev pub value_of : Manifest → BuildEdge → List ℕ → Option (List ℕ)
value_of m edge name = rule_named m.rules edge.rule >>= λ rule. value_at (suc (length rule.bindings)) m rule edge name

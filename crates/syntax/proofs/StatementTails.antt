-- What the functions that read statements answer, case by case.
use Rattle.std.proofs.Common.{◌++◌, ◌∙◌, subst, ◌≡◌, ℕ, zero, suc, ◌-◌, ◌≤◌, ◌<◌, Bool, true, false, List, [], ◌∷◌, length, Result, Ok, Err}
use Rattle.std.proofs.Common.{refl, sym, ap, arith, map, sub-one, Option, Some, None}
use Rattle.std.proofs.lemmas.List.{append-nil, map_push}
use Rattle.std.specs.Prelude.{unwrap_or}
use Rattle.syntax.specs.declared.lexer.token.Token.{Token}
use Rattle.syntax.specs.declared.lexer.token.TokenKind.{TokenKind}
use Rattle.syntax.specs.declared.lexer.token.TokenKind.TheVariants as Kinds
use Rattle.syntax.specs.lexer.Lexeme.{Lexeme, lexemes}
use Rattle.syntax.specs.declared.stop.ParseStop.{ParseStop}
use Rattle.syntax.specs.declared.stop.ParseStop.TheVariants.{Unexpected, TooDeep}
use Rattle.syntax.specs.declared.stop.ReadError.{ReadError}
use Rattle.syntax.specs.declared.stop.ReadError.TheVariants as errors
use Rattle.syntax.specs.Statements.{statements_of_lines}
use Rattle.syntax.specs.ExpressionTree.{ExpressionTree}
use Rattle.syntax.specs.declared.tree.Statement.{Statement}
use Rattle.syntax.specs.Tree.{StatementTree, AssignTree, AppendTree, BreakTree, ContinueTree, BranchTree, statement_of}
use Rattle.syntax.specs.Reading.{Reader, ◌>>=◌, Fails, Gives, GoesOn, begins, deep_at, optional_at, or_at, token_at, two_begin}
use Rattle.syntax.specs.ReadingExpressions.{expr_at}
use Rattle.syntax.specs.ReadingStatements.{GivesLine, set_at, plain_at, leave_at, simple_at, ends_line, in_line, maybe_at, in_body}
use Rattle.syntax.specs.ReadingStatements.{ended_line_at, body_at, elif_at, branch_at, parts_at, last_part_at, otherwise_at, foreach_at}
use Rattle.syntax.specs.ReadingStatements.{conditional_at, begins_block, block_at, stmt_at, line_at, next_line_at, file_at}
use Rattle.syntax.proofs.Gathered as loops
use Rattle.syntax.proofs.Gathered.{all, with_one, one_regroup, with_line, line_regroup, begins_long}
use Rattle.syntax.proofs.Tails.{fails_at, length_lexemes}

-- ---- statements of one line

pub leave_inside : (k : TokenKind) (tree : ℕ → StatementTree) (inside : Bool) (ts : List Lexeme) (t : Lexeme) (rest : List Lexeme) → inside ≡ true
    → token_at k ts ≡ Ok (t, rest) → leave_at k tree inside ts ≡ Ok (tree t.line, rest)
unfolding leave_at
leave_inside k tree true ts t rest i e = rw e refl
leave_inside k tree false ts t rest i e = absurd cc

pub leave_fails : (k : TokenKind) (tree : ℕ → StatementTree) (inside : Bool) (ts : List Lexeme) (e : ReadError) → inside ≡ true
    → Fails e (token_at k ts) → Fails e (leave_at k tree inside ts)
unfolding leave_at
leave_fails k tree inside ts errors.Memory i h = tt
leave_fails k tree true ts (errors.Stop f) i h = rw h refl
leave_fails k tree false ts (errors.Stop f) i h = absurd cc

pub leave_outside : (k : TokenKind) (tree : ℕ → StatementTree) (inside : Bool) (ts : List Token) → inside ≡ false
    → leave_at k tree inside (lexemes ts) ≡ Err (Unexpected (length ts))
unfolding leave_at
leave_outside k tree true ts i = absurd cc
leave_outside k tree false ts i = ap (λ (n : ℕ). Err (Unexpected n)) (length_lexemes ts)

pub simple_break : (inside : Bool) (n : ℕ) (ts : List Lexeme) → begins Kinds.Break ts ≡ true
    → simple_at inside n ts ≡ leave_at Kinds.Break BreakTree inside ts
unfolding simple_at or_at
simple_break inside n ts b = rw b refl

pub simple_continue : (inside : Bool) (n : ℕ) (ts : List Lexeme) → begins Kinds.Break ts ≡ false → begins Kinds.Continue ts ≡ true
    → simple_at inside n ts ≡ leave_at Kinds.Continue ContinueTree inside ts
unfolding simple_at or_at
simple_continue inside n ts b c = rw (b, c) refl

pub simple_assign : (inside : Bool) (n : ℕ) (ts : List Lexeme) → begins Kinds.Break ts ≡ false → begins Kinds.Continue ts ≡ false
    → two_begin Kinds.Name Kinds.Assign ts ≡ true → simple_at inside n ts ≡ set_at Kinds.Assign AssignTree (expr_at n) ts
unfolding simple_at or_at
simple_assign inside n ts b c a = rw (b, c, a) refl

pub simple_append : (inside : Bool) (n : ℕ) (ts : List Lexeme) → begins Kinds.Break ts ≡ false → begins Kinds.Continue ts ≡ false
    → two_begin Kinds.Name Kinds.Assign ts ≡ false → two_begin Kinds.Name Kinds.PlusAssign ts ≡ true
    → simple_at inside n ts ≡ set_at Kinds.PlusAssign AppendTree (expr_at n) ts
unfolding simple_at or_at
simple_append inside n ts b c a p = rw (b, c, a, p) refl

pub simple_plain : (inside : Bool) (n : ℕ) (ts : List Lexeme) → begins Kinds.Break ts ≡ false → begins Kinds.Continue ts ≡ false
    → two_begin Kinds.Name Kinds.Assign ts ≡ false → two_begin Kinds.Name Kinds.PlusAssign ts ≡ false → simple_at inside n ts ≡ plain_at (expr_at n) ts
unfolding simple_at or_at
simple_plain inside n ts b c a p = rw (b, c, a, p) refl

-- ---- statements

stmt_block : (inside : Bool) (n : ℕ) (ts : List Lexeme) → begins_block ts ≡ true → stmt_at inside n ts ≡ block_at inside n ts
unfolding stmt_at or_at
stmt_block inside n ts b = rw b refl

pub stmt_simple : (inside : Bool) (n : ℕ) (ts : List Lexeme) → begins_block ts ≡ false → stmt_at inside n ts ≡ simple_at inside n ts
unfolding stmt_at or_at
stmt_simple inside n ts b = rw b refl

block_foreach : (inside : Bool) (n : ℕ) (ts : List Lexeme) → 0 < n → begins Kinds.Foreach ts ≡ true
    → block_at inside n ts ≡ foreach_at (expr_at (n - 1)) (stmt_at true (n - 1)) ts
unfolding block_at stmt_at or_at
block_foreach inside zero ts lt b = absurd (omega arith)
block_foreach inside (suc n) ts lt b = rw (b, sub-one) refl

block_conditional : (inside : Bool) (n : ℕ) (ts : List Lexeme) → 0 < n → begins Kinds.Foreach ts ≡ false
    → block_at inside n ts ≡ conditional_at (expr_at (n - 1)) (stmt_at inside (n - 1)) ts
unfolding block_at stmt_at or_at
block_conditional inside zero ts lt b = absurd (omega arith)
block_conditional inside (suc n) ts lt b = rw (b, sub-one) refl

block_deep : (inside : Bool) (n : ℕ) (ts : List Token) → n ≤ 0 → begins_block (lexemes ts) ≡ true
    → block_at inside n (lexemes ts) ≡ Err (TooDeep (length ts))
unfolding block_at deep_at or_at
block_deep inside (suc n) ts le b = absurd (omega arith)
block_deep inside zero [] le b = absurd cc
block_deep inside zero (t ∷ ts) le b = grind (arith, length_lexemes (t ∷ ts))

module _ (inside : Bool) (n : ℕ) where
  pub stmt_deep : (ts : List Token) → n ≡ 0 → begins_block (lexemes ts) ≡ true → stmt_at inside n (lexemes ts) ≡ Err (TooDeep (length ts))
  stmt_deep ts z b = stmt_block inside n (lexemes ts) b ∙ block_deep inside n ts (omega arith) b

  pub stmt_foreach : (ts : List Lexeme) → 0 < n → begins_block ts ≡ true → begins Kinds.Foreach ts ≡ true
      → stmt_at inside n ts ≡ foreach_at (expr_at (n - 1)) (stmt_at true (n - 1)) ts
  stmt_foreach ts lt b f = stmt_block inside n ts b ∙ block_foreach inside n ts lt f

  pub stmt_conditional : (ts : List Lexeme) → 0 < n → begins_block ts ≡ true → begins Kinds.Foreach ts ≡ false
      → stmt_at inside n ts ≡ conditional_at (expr_at (n - 1)) (stmt_at inside (n - 1)) ts
  stmt_conditional ts lt b f = stmt_block inside n ts b ∙ block_conditional inside n ts lt f

-- ---- a form or nothing

pub optional_some : {A : Type 0} (first : List Lexeme → Bool) (r : Reader A) (ts : List Lexeme) (a : A) (rest : List Lexeme)
    → first ts ≡ true → r ts ≡ Ok (a, rest) → optional_at first r ts ≡ Ok (Some a, rest)
unfolding optional_at or_at
optional_some first r ts a rest b e = rw (b, e) refl

pub optional_none : {A : Type 0} (first : List Lexeme → Bool) (r : Reader A) (ts : List Lexeme) → first ts ≡ false
    → optional_at first r ts ≡ Ok (None, ts)
unfolding optional_at or_at
optional_none first r ts b = rw b refl

pub optional_fails : {A : Type 0} (first : List Lexeme → Bool) (r : Reader A) (ts : List Lexeme) (e : ReadError) → first ts ≡ true
    → Fails e (r ts) → Fails e (optional_at first r ts)
unfolding optional_at or_at
optional_fails first r ts errors.Memory b h = tt
optional_fails first r ts (errors.Stop f) b h = rw (b, h) refl

-- the statement of a line, told by where the line ends
module _ (r : Reader StatementTree) (before : List StatementTree) (ts : List Lexeme) where
  pub line_some : {X : Type 0} (x : X) (s : StatementTree) (after : List StatementTree) (rest : List Lexeme) → ends_line ts ≡ false
      → r ts ≡ Ok (s, rest) → after ≡ before ++ s ∷ [] → GivesLine before after (Ok x) rest (maybe_at r ts)
  line_some x s after rest b e same = (Some s, optional_some in_line r ts s rest (rw b refl) e, same)

  pub line_none : {X : Type 0} (x : X) → ends_line ts ≡ true → GivesLine before before (Ok x) ts (maybe_at r ts)
  line_none x b = (None, optional_none in_line r ts (rw b refl), sym (append-nil before))

  pub line_fails : (e : ReadError) → ends_line ts ≡ false → Fails e (r ts) → Fails e (maybe_at r ts)
  line_fails e b h = optional_fails in_line r ts e (rw b refl) h

-- the statement of a line, put behind the others
pub line_put : {X : Type 0} (r : Reader StatementTree) (ts : List Lexeme) (old new : List Statement) (read : Result Statement ReadError)
    (put : Result X ReadError) (rest : List Lexeme) → ends_line ts ≡ false → Gives statement_of read rest (r ts)
    → GoesOn (λ s x. new ≡ old ++ s ∷ []) read put → GivesLine (map statement_of old) (map statement_of new) put rest (maybe_at r ts)
line_put r ts old new (Ok s) (Ok x) rest b h g = line_some r (map statement_of old) ts x (statement_of s) (map statement_of new) rest b h (rw g (map_push statement_of old s))
line_put r ts old new (Ok s) (Err e) rest b h g = subst (λ (d : ReadError). Fails d (maybe_at r ts)) (sym g) (tt {0})
line_put r ts old new (Err f) (Ok x) rest b h g = absurd g
line_put r ts old new (Err f) (Err e) rest b h g = subst (λ (d : ReadError). Fails d (maybe_at r ts)) (sym g) (line_fails r (map statement_of old) ts f b h)

-- ---- the parts of an `if`

some_part : (read : Result (List StatementTree × List Lexeme) ParseStop)
    → ((read >>= λ x. let y : Option (List StatementTree) × List Lexeme = (Some x.0, x.1) in Ok y) >>= λ y. Ok (unwrap_or y.0 [], y.1))
    ≡ read
some_part (Ok x) = refl
some_part (Err f) = refl

pub otherwise_part : (r : Reader StatementTree) (ts : List Lexeme) → begins Kinds.Else ts ≡ true → otherwise_at r ts ≡ last_part_at r ts
unfolding otherwise_at optional_at or_at
otherwise_part r ts b = rw b (some_part (last_part_at r ts))

pub otherwise_none : (r : Reader StatementTree) (ts : List Lexeme) → begins Kinds.Else ts ≡ false → otherwise_at r ts ≡ Ok ([], ts)
unfolding otherwise_at optional_at or_at
otherwise_none r ts b = rw b refl

module _ (expr : Reader ExpressionTree) (stmt : Reader StatementTree) where
  elif_reads : (ts : List Lexeme) (w : Lexeme) (mid : List Lexeme) (b : BranchTree) (rest : List Lexeme) → token_at Kinds.Elif ts ≡ Ok (w, mid)
      → branch_at expr stmt mid ≡ Ok (b, rest) → elif_at expr stmt ts ≡ Ok (b, rest)
  unfolding elif_at
  elif_reads ts w mid b rest t h = rw (t, h) refl

  pub elif_word_fails : (ts : List Lexeme) (e : ReadError) → Fails e (token_at Kinds.Elif ts) → Fails e (elif_at expr stmt ts)
  unfolding elif_at
  elif_word_fails ts errors.Memory h = tt
  elif_word_fails ts (errors.Stop f) h = rw h refl

  pub elif_branch_fails : (ts : List Lexeme) (w : Lexeme) (mid : List Lexeme) (e : ReadError) → token_at Kinds.Elif ts ≡ Ok (w, mid)
      → Fails e (branch_at expr stmt mid) → Fails e (elif_at expr stmt ts)
  unfolding elif_at
  elif_branch_fails ts w mid errors.Memory t h = tt
  elif_branch_fails ts w mid (errors.Stop f) t h = rw (t, h) refl

  abbrev pub StillParts : List BranchTree → List Lexeme → Result (List BranchTree × List Lexeme) ParseStop → Type 0
  StillParts = loops.StillReads (begins Kinds.Elif) (elif_at expr stmt) all with_one append-nil one_regroup (begins_long Kinds.Elif)

  pub parts_first : (ts : List Lexeme) (b : BranchTree) (rest : List Lexeme) → branch_at expr stmt ts ≡ Ok (b, rest)
      → StillParts (b ∷ []) rest (parts_at expr stmt ts)
  unfolding parts_at
  parts_first ts b rest e = (length rest, omega arith, sym (rw e refl))

  pub parts_fails : (ts : List Lexeme) (e : ReadError) → Fails e (branch_at expr stmt ts) → Fails e (parts_at expr stmt ts)
  unfolding parts_at
  parts_fails ts errors.Memory h = tt
  parts_fails ts (errors.Stop f) h = rw h refl

  pub parts_more : (before : List BranchTree) (ts : List Lexeme) (total : Result (List BranchTree × List Lexeme) ParseStop) (w : Lexeme)
      (mid : List Lexeme) (a : BranchTree) (rest : List Lexeme)
      → StillParts before ts total → begins Kinds.Elif ts ≡ true → token_at Kinds.Elif ts ≡ Ok (w, mid) → branch_at expr stmt mid ≡ Ok (a, rest)
      → length rest < length ts → StillParts (with_one before a) rest total
  parts_more before ts total w mid a rest s b t h lt =
      loops.still_more (begins Kinds.Elif) (elif_at expr stmt) all with_one append-nil one_regroup (begins_long Kinds.Elif)
      before ts total a rest s b (elif_reads ts w mid a rest t h) lt

  pub parts_stop : (before : List BranchTree) (ts : List Lexeme) (total : Result (List BranchTree × List Lexeme) ParseStop) (e : ReadError)
      → StillParts before ts total → begins Kinds.Elif ts ≡ true → Fails e (elif_at expr stmt ts) → Fails e total
  parts_stop = loops.still_fails (begins Kinds.Elif) (elif_at expr stmt) all with_one append-nil one_regroup (begins_long Kinds.Elif)

-- ---- the lines of a body

pub in_body_long : (ts : List Lexeme) → in_body ts ≡ true → 0 < length ts
in_body_long [] b = absurd cc
in_body_long (t ∷ ts) b = omega arith

module _ (stmt : Reader StatementTree) where
  abbrev pub StillBody : List StatementTree → List Lexeme → Result (List StatementTree × List Lexeme) ParseStop → Type 0
  StillBody = loops.StillReads in_body (ended_line_at stmt) statements_of_lines with_line append-nil line_regroup in_body_long

  pub body_first : (ts : List Lexeme) → StillBody [] ts (body_at stmt ts)
  unfolding body_at
  body_first ts = (length ts, omega arith, refl)

  ended_reads : (ts mid : List Lexeme) (o : Option StatementTree) (t : Lexeme) (rest : List Lexeme) → maybe_at stmt ts ≡ Ok (o, mid)
      → token_at Kinds.Newline mid ≡ Ok (t, rest) → ended_line_at stmt ts ≡ Ok (o, rest)
  unfolding ended_line_at
  ended_reads ts mid o t rest h e = rw (h, e) refl

  line_fails_ended : (ts : List Lexeme) (e : ReadError) → Fails e (maybe_at stmt ts) → Fails e (ended_line_at stmt ts)
  unfolding ended_line_at
  line_fails_ended ts errors.Memory h = tt
  line_fails_ended ts (errors.Stop f) h = rw h refl

  newline_fails_ended : (ts mid : List Lexeme) (o : Option StatementTree) (e : ReadError) → maybe_at stmt ts ≡ Ok (o, mid)
      → Fails e (token_at Kinds.Newline mid) → Fails e (ended_line_at stmt ts)
  unfolding ended_line_at
  newline_fails_ended ts mid o errors.Memory h e = tt
  newline_fails_ended ts mid o (errors.Stop f) h e = rw (h, e) refl

  module _ (before : List StatementTree) (ts : List Lexeme) (total : Result (List StatementTree × List Lexeme) ParseStop)
      (still : StillBody before ts total) (goes_on : in_body ts ≡ true) where
    pub body_more : {X : Type 0} (x : X) (after : List StatementTree) (mid : List Lexeme) (t : Lexeme) (rest : List Lexeme)
        → GivesLine before after (Ok x) mid (maybe_at stmt ts) → token_at Kinds.Newline mid ≡ Ok (t, rest) → length rest < length ts
        → StillBody after rest total
    body_more x after mid t rest (o, h, same) e lt = subst (λ (l : List StatementTree). StillBody l rest total) (sym same)
        (loops.still_more in_body (ended_line_at stmt) statements_of_lines with_line append-nil line_regroup in_body_long
        before ts total o rest still goes_on (ended_reads ts mid o t rest h e) lt)

    body_fails : (e : ReadError) → Fails e (ended_line_at stmt ts) → Fails e total
    body_fails e h = loops.still_fails in_body (ended_line_at stmt) statements_of_lines with_line append-nil line_regroup in_body_long before ts total e still goes_on h

    pub body_line_fails : (e : ReadError) → Fails e (maybe_at stmt ts) → Fails e total
    body_line_fails e h = body_fails e (line_fails_ended ts e h)

    pub body_newline_fails : {X : Type 0} (x : X) (after : List StatementTree) (mid : List Lexeme) (e : ReadError)
        → GivesLine before after (Ok x) mid (maybe_at stmt ts) → Fails e (token_at Kinds.Newline mid) → Fails e total
    body_newline_fails x after mid e (o, h, same) g = body_fails e (newline_fails_ended ts mid o e h g)

-- ---- the lines of a file

module _ (n : ℕ) where
  abbrev pub StillLines : List StatementTree → List Lexeme → Result (List StatementTree × List Lexeme) ParseStop → Type 0
  StillLines = loops.StillReads (begins Kinds.Newline) (next_line_at n) statements_of_lines with_line append-nil line_regroup (begins_long Kinds.Newline)

  pub lines_first : {X : Type 0} (x : X) (ts : List Lexeme) (after : List StatementTree) (rest : List Lexeme)
      → GivesLine [] after (Ok x) rest (line_at n ts) → StillLines after rest (file_at n ts)
  unfolding file_at
  lines_first x ts after rest (None, h, same) = rw same (length rest, omega arith, sym (rw h refl))
  lines_first x ts after rest (Some s, h, same) = rw same (length rest, omega arith, sym (rw h refl))

  pub lines_fail : (ts : List Lexeme) (e : ReadError) → Fails e (line_at n ts) → Fails e (file_at n ts)
  unfolding file_at
  lines_fail ts errors.Memory h = tt
  lines_fail ts (errors.Stop f) h = rw h refl

  next_reads : (ts : List Lexeme) (t : Lexeme) (mid : List Lexeme) (o : Option StatementTree) (rest : List Lexeme)
      → token_at Kinds.Newline ts ≡ Ok (t, mid) → line_at n mid ≡ Ok (o, rest) → next_line_at n ts ≡ Ok (o, rest)
  unfolding next_line_at
  next_reads ts t mid o rest e h = rw (e, h) refl

  newline_fails_next : (ts : List Lexeme) (e : ReadError) → Fails e (token_at Kinds.Newline ts) → Fails e (next_line_at n ts)
  unfolding next_line_at
  newline_fails_next ts errors.Memory h = tt
  newline_fails_next ts (errors.Stop f) h = rw h refl

  line_fails_next : (ts : List Lexeme) (t : Lexeme) (mid : List Lexeme) (e : ReadError) → token_at Kinds.Newline ts ≡ Ok (t, mid)
      → Fails e (line_at n mid) → Fails e (next_line_at n ts)
  unfolding next_line_at
  line_fails_next ts t mid errors.Memory h g = tt
  line_fails_next ts t mid (errors.Stop f) h g = rw (h, g) refl

  module _ (before : List StatementTree) (ts : List Lexeme) (total : Result (List StatementTree × List Lexeme) ParseStop)
      (still : StillLines before ts total) (goes_on : begins Kinds.Newline ts ≡ true) where
    pub lines_more : {X : Type 0} (x : X) (t : Lexeme) (mid : List Lexeme) (after : List StatementTree) (rest : List Lexeme)
        → token_at Kinds.Newline ts ≡ Ok (t, mid) → GivesLine before after (Ok x) rest (line_at n mid) → length rest < length ts
        → StillLines after rest total
    lines_more x t mid after rest e (o, h, same) lt = subst (λ (l : List StatementTree). StillLines l rest total) (sym same)
        (loops.still_more (begins Kinds.Newline) (next_line_at n) statements_of_lines with_line append-nil line_regroup (begins_long Kinds.Newline)
        before ts total o rest still goes_on (next_reads ts t mid o rest e h) lt)

    lines_stop : (e : ReadError) → Fails e (next_line_at n ts) → Fails e total
    lines_stop e h = loops.still_fails (begins Kinds.Newline) (next_line_at n) statements_of_lines with_line append-nil line_regroup (begins_long Kinds.Newline)
        before ts total e still goes_on h

    pub lines_newline_fails : (e : ReadError) → Fails e (token_at Kinds.Newline ts) → Fails e total
    lines_newline_fails e h = lines_stop e (newline_fails_next ts e h)

    pub lines_line_fails : (t : Lexeme) (mid : List Lexeme) (e : ReadError) → token_at Kinds.Newline ts ≡ Ok (t, mid) → Fails e (line_at n mid)
        → Fails e total
    lines_line_fails t mid e h g = lines_stop e (line_fails_next ts t mid e h g)

-- ---- the lemmas of one function each

pub ruleset leave_cases = (leave_inside, leave_fails, leave_outside, fails_at)

pub ruleset simple_cases = (simple_break, simple_continue, simple_assign, simple_append, simple_plain)

pub ruleset statement_cases = (stmt_simple, stmt_deep, stmt_foreach, stmt_conditional, fails_at)

pub ruleset optional_cases = (optional_some, optional_none, optional_fails)

pub ruleset otherwise_cases = (otherwise_part, otherwise_none)

pub ruleset line_cases = (line_some, line_none, line_fails)

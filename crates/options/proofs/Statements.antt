-- The statements of a file, one by one.
use Rattle.std.proofs.Common.{◌≡◌, ℕ, ◌+◌, ◌<◌, ◌≤◌, List, [], length, drop, get_or, Result, Ok, Err, map, sym, ap, ◌∙◌}
use Rattle.syntax.specs.declared.tree.Statement.{Statement}
use Rattle.syntax.specs.Tree.{StatementTree, statement_of}
use Rattle.options.specs.option_file.Misfits.{RefusedData}
use Rattle.options.specs.option_file.Declarations.{Declaration}
use Rattle.options.specs.option_file.Declares.{line_of, after, continue_with, declares_from}
use Rattle.options.proofs.Walks.{next_is, none_is}

-- what all statements declare, where the others are read after these options
abbrev pub Follows : List Statement → ℕ → List Declaration → Type 0
Follows xs i options = declares_from (map statement_of xs) [] ≡ declares_from (map statement_of (drop i xs)) options

pub declares_first : (xs : List Statement) (options : List Declaration) → options ≡ [] → Follows xs 0 options
declares_first xs options e = ap (declares_from (map statement_of xs)) (sym e)

declares_next : (xs : List Statement) (i : ℕ) (x : Statement) (options : List Declaration) (o : Result (List Declaration) RefusedData)
    → Follows xs i options
    → i < length xs → x ≡ get_or xs i x → o ≡ after options (statement_of x)
    → declares_from (map statement_of xs) [] ≡ continue_with (declares_from (map statement_of (drop (i + 1) xs))) (line_of (statement_of x)) o
unfolding declares_from
declares_next xs i x options o h lt is e =
    h ∙ ap (λ (ss : List StatementTree). declares_from ss options) (next_is statement_of xs i x lt is)
    ∙ ap (continue_with (declares_from (map statement_of (drop (i + 1) xs))) (line_of (statement_of x))) (sym e)

pub declares_fault : (xs : List Statement) (i : ℕ) (x : Statement) (options : List Declaration) (refused : RefusedData) (line : ℕ)
    → Follows xs i options
    → i < length xs → x ≡ get_or xs i x → Err refused ≡ after options (statement_of x) → line ≡ line_of (statement_of x)
    → Err (record { refusal = refused.refusal; line = line; detail = refused.detail }) ≡ declares_from (map statement_of xs) []
declares_fault xs i x options refused line h lt is e l =
    ap (λ (n : ℕ). Err (record { refusal = refused.refusal; line = n; detail = refused.detail })) l
    ∙ sym (declares_next xs i x options (Err refused) h lt is e)

pub declares_more : (xs : List Statement) (i : ℕ) (x : Statement) (options more : List Declaration) → Follows xs i options
    → i < length xs → x ≡ get_or xs i x → Ok more ≡ after options (statement_of x) → Follows xs (i + 1) more
declares_more xs i x options more h lt is e = declares_next xs i x options (Ok more) h lt is e

pub declares_end : (xs : List Statement) (i : ℕ) (options : List Declaration) → Follows xs i options → length xs ≤ i
    → Ok options ≡ declares_from (map statement_of xs) []
unfolding declares_from
declares_end xs i options h le = sym (h ∙ ap (λ (ss : List StatementTree). declares_from ss options) (none_is statement_of xs i le))

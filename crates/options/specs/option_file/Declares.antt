-- Defines what an option file declares, statement by statement.
use Rattle.std.specs.Prelude.{ℕ, List, [], ◌∷◌, ◌++◌, Result, Ok, Err, codes, bytes_eq, if◌then◌else◌}
use Rattle.syntax.specs.ExpressionTree.{ExpressionTree, FunctionTree, ArgumentTrees}
use Rattle.syntax.specs.Tree.{StatementTree, AssignTree, AppendTree, ValueTree, BreakTree, ContinueTree, IfTree, ForeachTree, FileTree}
use Rattle.std.specs.Result.{result_map_both}
use Rattle.support.specs.Faults.{FaultData}
use Rattle.options.specs.option_file.Fault.{DeclareFaultData, told_in}
use Rattle.options.specs.option_file.Misfits.{RefusedData, Again, NoCall, refused_as}
use Rattle.options.specs.option_file.Calls.{call_declares}
use Rattle.options.specs.option_file.Declarations.{Declaration}
use Rattle.options.specs.option_file.Lookups.{is_used}

-- Returns the line of a statement.
abbrev pub line_of : StatementTree → ℕ
line_of (AssignTree name line e) = line
line_of (AppendTree name line e) = line
line_of (ValueTree e line) = line
line_of (BreakTree line) = line
line_of (ContinueTree line) = line
line_of (IfTree line branches otherwise) = line
line_of (ForeachTree line first second list list_line body) = line

-- Returns the option that a call of this function declares.
abbrev pub function_declares : ℕ → List ℕ → ArgumentTrees → Result Declaration RefusedData
function_declares line name arguments = if bytes_eq name (codes "option") then call_declares line arguments else Err (refused_as NoCall)

-- Returns the option that an expression declares, which must be a call of `option`.
abbrev pub expression_declares : ℕ → ExpressionTree → Result Declaration RefusedData
expression_declares line (FunctionTree name arguments own) = function_declares line name arguments
expression_declares line _ = Err (refused_as NoCall)

-- Returns the option that a statement declares, which must be a call of `option`.
abbrev pub statement_declares : StatementTree → Result Declaration RefusedData
statement_declares (ValueTree e line) = expression_declares line e
statement_declares _ = Err (refused_as NoCall)

-- Appends one more option, whose name must be new.
abbrev pub with_option : List Declaration → Result Declaration RefusedData → Result (List Declaration) RefusedData
with_option options (Err refused) = Err refused
with_option options (Ok d) = if is_used d.name options then Err (refused_as (Again d.name)) else Ok (options ++ d ∷ [])

-- Returns the options after one more statement.
unfoldable pub after : List Declaration → StatementTree → Result (List Declaration) RefusedData
after options s = with_option options (statement_declares s)

-- Continues with the rest of the statements, or returns the fault at this line.
abbrev pub continue_with : (List Declaration → Result (List Declaration) DeclareFaultData) → ℕ → Result (List Declaration) RefusedData
    → Result (List Declaration) DeclareFaultData
continue_with rest line (Ok options) = rest options
continue_with rest line (Err refused) = Err (record { refusal = refused.refusal; line = line; detail = refused.detail })

-- Returns the options after these statements too, or the first fault, at the line of its statement.
unfoldable pub declares_from : List StatementTree → List Declaration → Result (List Declaration) DeclareFaultData
declares_from [] options = Ok options
declares_from (s ∷ ss) options = continue_with (declares_from ss) (line_of s) (after options s)

-- Returns the options that a file declares, in the order of its statements, or its first fault.
abbrev pub file_declares : FileTree → Result (List Declaration) DeclareFaultData
file_declares statements = declares_from statements []

-- Returns what the option file at this path declares, or its first fault as a run reports it.
abbrev pub declares_in : List ℕ → FileTree → Result (List Declaration) FaultData
declares_in path file = result_map_both (λ options. options) (told_in path) (file_declares file)

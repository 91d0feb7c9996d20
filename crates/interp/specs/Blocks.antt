-- Defines the lists of statements in the code of a file.
use Rattle.std.specs.Prelude.{ℕ, zero, suc, ◌<◌, Bool, true, false, List, [], ◌∷◌, length, slice_index_or, Option, Some, None, Result, Ok}
use Rattle.std.specs.Prelude.{Err}
use Rattle.code.specs.declared.code.Code.{Code}
use Rattle.code.specs.declared.node.BranchNode.{BranchNode}
use Rattle.code.specs.declared.node.StatementNode.{StatementNode}
use Rattle.code.specs.declared.node.StatementNode.TheVariants as flat
use Rattle.interp.specs.declared.block.Block.{Block}
use Rattle.interp.specs.declared.block.Block.TheVariants as blocks
use Rattle.interp.specs.declared.flow.Flow.{Flow}
use Rattle.interp.specs.declared.flow.Flow.TheVariants.{Next, Continued, Broken, Finished}
use Rattle.interp.specs.declared.halt.Halt.{Halt}
use Rattle.interp.specs.declared.loop_rounds.LoopProgress.{LoopProgress}
use Rattle.interp.specs.declared.loop_rounds.LoopProgress.TheVariants as tours
use Rattle.interp.specs.declared.block_statements.BlockProgress.{BlockProgress}
use Rattle.interp.specs.declared.block_statements.BlockProgress.TheVariants as walks
use Rattle.world.specs.declared.stop.Stop.{Stop}

-- Returns the statements of a branch, or those of `else` if there is no such branch.
abbrev pub branch_or : List ℕ → List BranchNode → ℕ → List ℕ
branch_or otherwise [] part = otherwise
branch_or otherwise (b ∷ bs) zero = b.body.items
branch_or otherwise (b ∷ bs) (suc part) = branch_or otherwise bs part

-- Returns the statements of a part of a statement.
abbrev pub part_of : StatementNode → ℕ → List ℕ
part_of (flat.If node) part = branch_or node.value.otherwise.items node.value.branches.items part
part_of (flat.Foreach node) part = node.value.body.items
part_of (flat.Assign name line value) part = []
part_of (flat.Append name line value) part = []
part_of (flat.Expression value line) part = []
part_of (flat.Break line) part = []
part_of (flat.Continue line) part = []

-- Returns the statement with a number; there always is one.
abbrev pub node_at : Code → ℕ → StatementNode
node_at c i = slice_index_or c.statements.items i (flat.Break 0)

-- Returns the numbers of the statements of a block.
abbrev pub statements_of : Code → Block → List ℕ
statements_of c blocks.File = c.body.items
statements_of c (blocks.Part statement part) = part_of (node_at c statement) part

-- ---- statements that need the stack

-- Returns whether the statement sets a variable or leaves its block.
abbrev pub is_simple : StatementNode → Bool
is_simple (flat.Assign name line value) = true
is_simple (flat.Append name line value) = true
is_simple (flat.Break line) = true
is_simple (flat.Continue line) = true
is_simple (flat.If node) = false
is_simple (flat.Foreach node) = false
is_simple (flat.Expression value line) = false

-- Returns whether the statement with this number sets a variable or leaves its block.
abbrev pub is_simple_at : Code → ℕ → Bool
is_simple_at c i = is_simple (node_at c i)

-- Holds if the statement is an `if`, a loop, or an expression, because a call may enter a folder.
abbrev pub IsDeep : StatementNode → Type 0
IsDeep (flat.If node) = Unit {0}
IsDeep (flat.Foreach node) = Unit {0}
IsDeep (flat.Expression value line) = Unit {0}
IsDeep (flat.Assign name line value) = ⊥
IsDeep (flat.Append name line value) = ⊥
IsDeep (flat.Break line) = ⊥
IsDeep (flat.Continue line) = ⊥

-- Holds if nothing was run only of such a statement.
abbrev pub DeepIfNone : StatementNode → Result (Option Flow) Halt → Type 0
DeepIfNone node (Ok None) = IsDeep node
DeepIfNone node (Ok (Some flow)) = Unit {0}
DeepIfNone node (Err halt) = Unit {0}

-- Holds if a statement that is still to begin needs the stack.
abbrev pub BeginsDeep : Code → Result BlockProgress Stop → Type 0
BeginsDeep c (Ok (walks.Begins number at)) = (number < length c.statements.items) × IsDeep (node_at c number)
BeginsDeep c (Ok (walks.Ends flow)) = Unit {0}
BeginsDeep c (Ok (walks.Enters entry at)) = Unit {0}
BeginsDeep c (Err stop) = Unit {0}

-- Holds if, in the iteration at which a loop stopped, a statement that is still to begin needs the stack.
abbrev pub ToursDeep : Code → Result LoopProgress Stop → Type 0
ToursDeep c (Ok (tours.Ends flow)) = Unit {0}
ToursDeep c (Ok (tours.Stands progress at)) = BeginsDeep c (Ok progress)
ToursDeep c (Err stop) = Unit {0}

-- ---- how statements end

-- Returns whether the next statement follows.
abbrev pub is_next : Flow → Bool
is_next Next = true
is_next Continued = false
is_next Broken = false
is_next Finished = false

-- Returns whether the next iteration follows.
abbrev pub goes_round : Flow → Bool
goes_round Next = true
goes_round Continued = true
goes_round Broken = false
goes_round Finished = false

-- Returns how a loop ends after an iteration that ended so.
abbrev pub behind_loop : Flow → Flow
behind_loop Next = Next
behind_loop Continued = Next
behind_loop Broken = Next
behind_loop Finished = Finished
